-- The first parameter that is not allowed by the role's own events, which are all of its history.
use Rattle.std.proofs.Common.{◌∙◌, ap, refl, subst, sym}
use Rattle.bspl_types.specs.History.{role_of}
use Rattle.enactment_model.specs.Legal.{MayFollow}
use Rattle.history_audit.specs.BadPlace.{MayHappen}
use Rattle.history_audit.proofs.WaitLemmas.{own_follows, own_reason}
use Rattle.history_audit.proofs.bad_place.reason.Goals as goal

pub returns-in-Err : goal.returns-in-Err
returns-in-Err c = λ histories not. own_reason c.args.x.now c.args.role c.args.before.now c.args.event.now c.in-Err.why c.requires.own c.requires.own_event c.in-Err.ensures.why

pub returns-in-Ok : goal.returns-in-Ok
returns-in-Ok c = λ histories not.
    let x = c.args.x.now in
    let before = c.args.before.now in
    let is = c.in-Emit.is in
    let may = subst (MayFollow x before) is (c.in-Ok.ensures.exact.0 refl) in
    absurd (not (subst (MayHappen x histories before) (sym is) (own_follows x histories c.args.role before c.in-Emit.field-0 c.requires.own (ap (role_of x) (sym is) ∙ c.requires.own_event) may)))
