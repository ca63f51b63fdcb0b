-- One role more has no bad place.
use Rattle.std.proofs.Common.{arith, inl, inr, subst, sym, ◌∙◌}
use Rattle.std.proofs.lemmas.Bool.{cases_lt}
use Rattle.history_audit.specs.BadPlace.{HasNoBadPlace}
use Rattle.history_audit.proofs.WaitLemmas.{none_found}
use Rattle.history_audit.proofs.bad_place.first_bad_place.Goals as goal

pub loop-role-preserved : goal.loop-role-preserved
loop-role-preserved c = λ other below.
    elim (cases_lt other c.loop-role.role) [
      | inl old ↦ c.loop-role.invariant other old
      | inr new ↦ subst (HasNoBadPlace c.args.x.now c.args.histories.now) (omega (arith, below, new)) (none_found c.in_ok-bad.bad _ _ (sym c.is_some.ensures ∙ c.if-is_some.false) c.in_ok-bad.ensures)
    ]
