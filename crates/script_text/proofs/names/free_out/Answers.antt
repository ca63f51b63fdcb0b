-- No other parameter has the name.
use Rattle.std.proofs.Common.{◌≡◌, [], None, sym, subst, ◌∙◌}
use Rattle.std.specs.Prelude.{false}
use Rattle.std.proofs.lemmas.Bool.{true≢false}
use Rattle.std.proofs.lemmas.Option.{get_or_from_slice_get}
use Rattle.bspl_types.specs.declared.protocol.ParamInfo.{ParamInfo}
use Rattle.bspl_types.specs.Expansion.{no_message}
use Rattle.agent_scripts.specs.Statement.{IsFreeOut}
use Rattle.script_text.proofs.NameLemmas.{free_known, one_param}
use Rattle.script_text.proofs.names.free_out.Goals as goal

no_param : ParamInfo
no_param = record { name = []; adornment = None; key = false }

pub returns-else-is_free : goal.returns-else-is_free
returns-else-is_free c = λ p free same.
    let x = c.args.x.now in
    let m = c.args.message in
    let at = get_or_from_slice_get x.messages m c.at.result.now no_message c.at.ensures in
    let found = c.in_ok-param.ensures in
    let one : p ≡ c.in_ok-param.param = one_param x p c.in_ok-param.param no_param (free_known x m p c.requires free) found.0 (sym same ∙ found.1) in
    let tested = rw (c.as_slice-carried.ensures, ← at, c.as_slice.ensures) at c.is_free.ensures in
    true≢false (sym (tested.1 (subst (IsFreeOut x m) one free)) ∙ c.if-is_free.false)
