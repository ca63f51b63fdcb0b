-- What has been written.
use Rattle.std.proofs.Common.{◌≡◌, ◌++◌, take}
use Rattle.html.specs.Fragment.{as_html}
use Rattle.run_chart.specs.EventTable.{fields}
use Rattle.run_chart.proofs.cells.push_fields.Given as goal

-- the pairs so far are written
abbrev pub invariant-loop-pair : goal.invariant-loop-pair
invariant-loop-pair l = l.text ≡ l.fn.text ++ as_html (fields l.x (take l.pair-index l.pairs))
