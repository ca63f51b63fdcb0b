-- The row of one parameter more.
use Rattle.std.proofs.Common.{◌++◌, List, ℕ, ap, take, ◌∙◌}
use Rattle.std.specs.List.{enumerate_from, flat_map}
use Rattle.bspl_types.specs.declared.protocol.ParamInfo.{ParamInfo}
use Rattle.html.specs.Fragment.{as_html}
use Rattle.html.specs.Tables.{source_row}
use Rattle.html.proofs.IndexLemmas.{enumerate_more}
use Rattle.html.proofs.sources.push_rows.Goals as goal

pub loop-param-preserved : goal.loop-param-preserved
loop-param-preserved c =
    let x = c.args.x.now in
    let row = source_row x c.args.dead.now in
    let xs = c.args.params.now in
    let i = c.loop-param.param in
    let d = c.index-params-param.result in
    c.in_ok-push_row.ensures
    ∙ ap (λ (ys : List ℕ). ys ++ as_html (row (i, d))) c.loop-param.invariant
    ∙ ap (λ (info : ParamInfo). (c.args.text.now ++ as_html (flat_map row (take i (enumerate_from 0 xs)))) ++ as_html (row (i, info))) c.index-params-param.is
    ∙ enumerate_more row c.args.text.now xs i d c.loop-param-test.true
