-- What has been written.
use Rattle.std.proofs.Common.{◌≡◌, ◌++◌, take}
use Rattle.std.specs.List.{enumerate_from, flat_map}
use Rattle.html.specs.Fragment.{as_html}
use Rattle.run_chart.specs.Frame.{lifeline}
use Rattle.run_chart.proofs.lifelines.push_lifelines.Given as goal

-- the lifelines of the roles so far are written
abbrev pub invariant-loop-role : goal.invariant-loop-role
invariant-loop-role l = l.text ≡ l.fn.text ++ as_html (flat_map (lifeline l.end) (take l.role (enumerate_from 0 l.roles)))
