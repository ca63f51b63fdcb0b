-- What has been written.
use Rattle.std.proofs.Common.{◌≡◌, ◌++◌, take}
use Rattle.std.specs.List.{flat_map}
use Rattle.html.specs.Fragment.{as_html}
use Rattle.html.specs.Tables.{message_row}
use Rattle.html.proofs.messages.push_rows.Given as goal

-- the rows of the messages so far are written
abbrev pub invariant-loop-message : goal.invariant-loop-message
invariant-loop-message l = l.text ≡ l.fn.text ++ as_html (flat_map (message_row l.x) (take l.message-index l.messages))
