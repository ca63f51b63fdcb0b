-- The lifeline of one role more.
use Rattle.std.proofs.Common.{◌++◌, List, ℕ, ap, take, ◌∙◌}
use Rattle.std.specs.List.{enumerate_from, flat_map}
use Rattle.html.specs.Fragment.{as_html}
use Rattle.run_chart.specs.Frame.{lifeline}
use Rattle.run_chart.proofs.IndexLemmas.{enumerate_more}
use Rattle.run_chart.proofs.lifelines.push_lifelines.Goals as goal

pub loop-role-preserved : goal.loop-role-preserved
loop-role-preserved c =
    let line = lifeline c.args.end in
    let roles = c.args.roles.now in
    let i = c.loop-role.role in
    let d = c.index-roles-role.result in
    (rw c.as_slice.ensures at c.in_ok-push_lifeline.ensures)
    ∙ ap (λ (ys : List ℕ). ys ++ as_html (line (i, d))) c.loop-role.invariant
    ∙ ap (λ (name : List ℕ). (c.args.text.now ++ as_html (flat_map line (take i (enumerate_from 0 roles)))) ++ as_html (line (i, name))) c.index-roles-role.is
    ∙ enumerate_more line c.args.text.now roles i d c.loop-role-test.true
