-- What has been written.
use Rattle.std.proofs.Common.{◌≡◌, ◌++◌, take}
use Rattle.std.specs.List.{enumerate_from, flat_map}
use Rattle.html.specs.Fragment.{as_html}
use Rattle.html.specs.Tables.{source_cell}
use Rattle.html.proofs.sources.push_cells.Given as goal

-- the cells so far are written
abbrev pub invariant-loop-role : goal.invariant-loop-role
invariant-loop-role l = l.text ≡ l.fn.text ++ as_html (flat_map (λ (role, _). source_cell l.x l.dead l.param role) (take l.role (enumerate_from 0 l.roles)))
