-- What has been written.
use Rattle.std.proofs.Common.{◌≡◌, ◌++◌, take}
use Rattle.std.specs.List.{flat_map}
use Rattle.html.specs.Fragment.{as_html}
use Rattle.run_chart.specs.Frame.{described}
use Rattle.run_chart.proofs.lifelines.push_described.Given as goal

-- the names so far are written
abbrev pub invariant-loop-name : goal.invariant-loop-name
invariant-loop-name l = l.text ≡ l.fn.text ++ as_html (flat_map described (take l.name-index l.roles))
