-- What has been written.
use Rattle.std.proofs.Common.{◌≡◌, ◌++◌, take}
use Rattle.std.specs.List.{enumerate_from, flat_map}
use Rattle.html.specs.Fragment.{as_html}
use Rattle.run_chart.specs.EventTable.{known_item}
use Rattle.run_chart.specs.Knowledge.{value_before}
use Rattle.run_chart.proofs.cells.push_known_params.Given as goal

-- the parameters so far are written
abbrev pub invariant-loop-param : goal.invariant-loop-param
invariant-loop-param l = l.text ≡ l.fn.text ++ as_html (flat_map (λ (p, info). known_item l.s.x.now p (value_before l.s.x.now (take l.s.index l.s.run.now) l.s.event.now p)) (take l.param (enumerate_from 0 l.params)))
