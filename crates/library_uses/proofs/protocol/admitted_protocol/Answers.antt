-- Each refusal is one of the three reasons.
use Rattle.std.proofs.lemmas.Result.{IfErr-weaker, err_from_is_err_and}
use Rattle.protocol_expand.specs.NotAdmitted.{IsNotAdmitted}
use Rattle.library_uses.specs.Uses.{DeclaresNone}
use Rattle.library_uses.specs.Uses.DeclaresNone.{misspelled, not_expanded, not_admitted}
use Rattle.library_uses.proofs.protocol.admitted_protocol.Goals as goal

pub returns-in_err-document-clause-refused : goal.returns-in_err-document-clause-refused
returns-in_err-document-clause-refused c =
    let p = err_from_is_err_and c.from_residual.result c.from_residual.ensures.1 in
    rw (p.1, p.2) (misspelled _ c.in_err-document.ensures.refused)

pub returns-in_err-expansion-clause-refused : goal.returns-in_err-expansion-clause-refused
returns-in_err-expansion-clause-refused c =
    let p = err_from_is_err_and c.from_residual-in_err-expansion.result c.from_residual-in_err-expansion.ensures.1 in
    rw (p.1, p.2) (not_expanded _ _ c.in_ok-document.ensures.ok c.in_err-expansion.ensures.refused)

pub returns-clause-refused : goal.returns-clause-refused
returns-clause-refused c =
    IfErr-weaker _ (IsNotAdmitted c.in_ok-expansion.expansion) (DeclaresNone c.args.text.now c.args.name.now) (λ r refused. not_admitted _ _ _ c.in_ok-document.ensures.ok c.in_ok-expansion.ensures.ok refused) c.admit.ensures.refused
