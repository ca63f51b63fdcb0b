-- What has been written.
use Rattle.std.proofs.Common.{◌≡◌, ◌++◌, take}
use Rattle.std.specs.List.{flat_map}
use Rattle.html.specs.Fragment.{as_html}
use Rattle.html.specs.Tables.{role_head}
use Rattle.html.proofs.sources.push_roles.Given as goal

-- the heads so far are written
abbrev pub invariant-loop-name : goal.invariant-loop-name
invariant-loop-name l = l.text ≡ l.fn.text ++ as_html (flat_map role_head (take l.name-index l.roles))
