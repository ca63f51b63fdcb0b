-- What has been written.
use Rattle.std.proofs.Common.{◌≡◌, ◌++◌, take}
use Rattle.std.specs.List.{flat_map}
use Rattle.html.specs.Fragment.{as_html}
use Rattle.page_sections.specs.WorldSection.{param_head}
use Rattle.page_sections.proofs.world_values.push_params.Given as goal

-- the heads of the parameters so far are written
abbrev pub invariant-loop-param : goal.invariant-loop-param
invariant-loop-param l = l.text ≡ l.fn.text ++ as_html (flat_map param_head (take l.param-index l.params))
