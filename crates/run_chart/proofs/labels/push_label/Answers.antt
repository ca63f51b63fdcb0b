-- The number and the words are those of the event.
use Rattle.run_chart.proofs.labels.push_label.Goals as goal

pub returns : goal.returns
returns c =
    rw (c.column.ensures, c.row.ensures, c.cut.ensures, c.ellipsis.ensures, c.label_room-room.ensures, c.side.ensures, c.text_height.ensures, c.other_role-other.ensures, c.role-role.ensures, c.as_slice-2.ensures, c.as_slice-3.ensures, c.in_ok-words.ensures, c.as_slice.ensures, c.in_ok-head.ensures) at c.fill.ensures
