-- The first refusal is the reason why the text declares nothing.
use Rattle.std.proofs.Common.{◌≢◌, arith}
use Rattle.std.proofs.lemmas.Result.{IfErr-weaker, err_from_is_err_and}
use Rattle.bspl_types.specs.declared.refusals.Refusal.TheVariants.{NoMemory}
use Rattle.protocol_expand.specs.NotAdmitted.{IsNotAdmitted}
use Rattle.tool_input.specs.TextRefusal.{RefusesText}
use Rattle.tool_input.specs.TextRefusal.RefusesText.{too_long, misspelled, not_expanded, not_admitted}
use Rattle.tool_input.proofs.input_protocol.declared_protocol.Goals as goal

pub returns-then-text-gt-TEXT_LIMIT-clause-refused :
    goal.returns-then-text-gt-TEXT_LIMIT-clause-refused
returns-then-text-gt-TEXT_LIMIT-clause-refused c = λ named. too_long c.if-text-gt-TEXT_LIMIT.true

pub returns-in_err-document-clause-refused : goal.returns-in_err-document-clause-refused
returns-in_err-document-clause-refused c =
    let p = err_from_is_err_and c.from_residual.result c.from_residual.ensures.1 in
    rw (p.1, p.2) (λ named. misspelled _ named (omega arith) c.in_err-document.ensures.refused)

pub returns-in_err-expanded-clause-refused : goal.returns-in_err-expanded-clause-refused
returns-in_err-expanded-clause-refused c =
    let p = err_from_is_err_and c.from_residual-in_err-expanded.result c.from_residual-in_err-expanded.ensures.1 in
    rw (p.1, p.2) (λ named. not_expanded _ _ named (record { short = omega arith; spelled = c.in_ok-document.ensures.ok }) c.in_err-expanded.ensures.refused)

pub returns-clause-refused : goal.returns-clause-refused
returns-clause-refused c =
    IfErr-weaker _ (IsNotAdmitted c.in_ok-expanded.expanded) (λ r. r ≢ NoMemory → RefusesText c.args.name.now c.args.text.now r) (λ r refused named. not_admitted _ _ _ named (record { short = omega arith; spelled = c.in_ok-document.ensures.ok }) c.in_ok-expanded.ensures.ok refused) c.admit.ensures.refused
