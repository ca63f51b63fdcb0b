-- What has been written.
use Rattle.std.proofs.Common.{◌≡◌, ◌++◌, take}
use Rattle.std.specs.List.{enumerate_from, flat_map}
use Rattle.html.specs.Fragment.{as_html}
use Rattle.run_chart.proofs.StrokeLemmas.{drawn_at}
use Rattle.run_chart.proofs.strokes.push_strokes.Given as goal

-- the strokes of the events so far are written
abbrev pub invariant-loop-index : goal.invariant-loop-index
invariant-loop-index l = l.text ≡ l.fn.text ++ as_html (flat_map (drawn_at l.s.x.now l.run) (take l.index (enumerate_from 0 l.run)))
