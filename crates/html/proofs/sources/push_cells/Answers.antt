-- The cell of one role more.
use Rattle.std.proofs.Common.{◌++◌, List, ℕ, ap, ◌∙◌}
use Rattle.html.specs.Fragment.{as_html}
use Rattle.html.specs.Tables.{source_cell}
use Rattle.html.proofs.IndexLemmas.{enumerate_more}
use Rattle.html.proofs.sources.push_cells.Goals as goal

pub loop-role-preserved : goal.loop-role-preserved
loop-role-preserved c =
    let x = c.args.x.now in
    let i = c.loop-role.role in
    c.in_ok-push_cell.ensures
    ∙ ap (λ (ys : List ℕ). ys ++ as_html (source_cell x c.args.dead.now c.args.param i)) c.loop-role.invariant
    ∙ enumerate_more (λ (role, _). source_cell x c.args.dead.now c.args.param role) c.args.text.now c.args.roles.now i c.index-roles-role.result c.loop-role-test.true
