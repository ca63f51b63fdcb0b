-- The head of one parameter more.
use Rattle.std.proofs.Common.{◌++◌, List, ℕ, ap, take, ◌∙◌}
use Rattle.std.specs.List.{flat_map}
use Rattle.bspl_types.specs.declared.protocol.ParamInfo.{ParamInfo}
use Rattle.html.specs.Fragment.{as_html}
use Rattle.page_sections.specs.WorldSection.{param_head}
use Rattle.page_sections.proofs.WritingLemmas.{written_next}
use Rattle.page_sections.proofs.world_values.push_params.Goals as goal

pub loop-param-preserved : goal.loop-param-preserved
loop-param-preserved c =
    let params = c.args.params.now in
    let i = c.loop-param.param-index in
    let info = c.param-item.result in
    c.in_ok-push_param.ensures
    ∙ ap (λ (ys : List ℕ). ys ++ as_html (param_head info)) c.loop-param.invariant
    ∙ ap (λ (shown : ParamInfo). (c.args.text.now ++ as_html (flat_map param_head (take i params))) ++ as_html (param_head shown)) c.param-item.is
    ∙ written_next param_head c.args.text.now params i info c.loop-param-test.true
