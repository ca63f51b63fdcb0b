-- What has been written.
use Rattle.std.proofs.Common.{◌≡◌, ◌++◌, take}
use Rattle.std.specs.List.{enumerate_from, flat_map}
use Rattle.html.specs.Fragment.{as_html}
use Rattle.run_chart.specs.EventTable.{event_row}
use Rattle.run_chart.specs.Labels.{words_at}
use Rattle.run_chart.proofs.events.push_events.Given as goal

-- the words and the rows of the events so far are written
abbrev pub invariant-loop-index : goal.invariant-loop-index
invariant-loop-index l =
    (l.text ≡ l.fn.text ++ as_html (flat_map (words_at l.s.x.now l.run l.s.finding) (take l.index (enumerate_from 0 l.run))))
    × (l.table ≡ l.fn.table ++ as_html (flat_map (event_row l.s.x.now l.run l.s.finding) (take l.index (enumerate_from 0 l.run))))
