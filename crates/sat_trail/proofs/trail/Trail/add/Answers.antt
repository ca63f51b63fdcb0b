-- The clause is open, so it was settled at each lower level.
use Rattle.std.proofs.Common.{◌≤◌, Option, Some, length, sym, ap, subst, arith, rules, false, List, [], ◌∷◌, length-append}
use Rattle.sat_trail.specs.Trail.{HasTwoOpen}
use Rattle.sat_trail.proofs.AdditionLemmas.{IsKept-reserved, IsKept-attached, open-two}
use Rattle.sat_trail.proofs.AttachLemmas.{spare-unwatched}
use Rattle.sat_trail.specs.inner.Watches.{AreLinked}
use Rattle.sat_trail.specs.inner.Propagation.{state_of}
use Rattle.clause_core.specs.declared.literal.Lit.{Lit}
use Rattle.sat_trail.proofs.ChangeLemmas.{Adds-push}
use Rattle.sat_trail.proofs.FactLemmas.{IsTrail-grown}
use Rattle.sat_trail.proofs.trail.Trail.add.Goals as goal

pub choose-watched-requires-clause-open : goal.choose-watched-requires-clause-open
choose-watched-requires-clause-open c =
    subst (λ lits. 2 ≤ length lits → HasTwoOpen c.self.inside.set.entries c.self.inside.level lits) (sym c.lits.ensures.same)
    (open-two _ _ _ _ _ c.self.invariant.trail c.lits.ensures.ascending (rw (← c.self.view_is) at c.requires.open))

pub invariant_of-self : goal.invariant_of-self
invariant_of-self c = IsKept-reserved _ _ _ _ _ _ _ _ _ _ c.reserve.ensures.grows c.reserve.ensures.heads c.self.invariant

pub returns-in_err-reserve-clause-sound : goal.returns-in_err-reserve-clause-sound
returns-in_err-reserve-clause-sound c = IsTrail-grown _ c.self.invariant.trail

pub invariant_of-self-in_err-push : goal.invariant_of-self-in_err-push
invariant_of-self-in_err-push c = rw c.in_err-push.ensures.err (IsKept-reserved _ _ _ _ _ _ _ _ _ _ c.reserve.ensures.grows c.reserve.ensures.heads c.self.invariant)

pub returns-in_err-push-clause-sound : goal.returns-in_err-push-clause-sound
returns-in_err-push-clause-sound c = rw c.in_err-push.ensures.err (IsTrail-grown _ c.self.invariant.trail)

pub attach-requires-clause-linked : goal.attach-requires-clause-linked
attach-requires-clause-linked c =
    subst (λ vars. AreLinked vars c.reserve.new.self.cells.items c.reserve.new.self.heads.items) (sym c.vars-vars.ensures.same)
    (IsKept-reserved _ _ _ _ _ _ _ _ _ _ c.reserve.ensures.grows c.reserve.ensures.heads c.self.invariant).linked

pub attach-requires-clause-blank : goal.attach-requires-clause-blank
attach-requires-clause-blank c = record {
  from_one = omega arith;
  within = search rules;
  unwatched = spare-unwatched _ _ _ _ _ _ (omega (arith, c.len.ensures))
      (IsKept-reserved _ _ _ _ _ _ _ _ _ _ c.reserve.ensures.grows c.reserve.ensures.heads c.self.invariant).watched;
}

pub invariant_of-self-2 : goal.invariant_of-self-2
invariant_of-self-2 c =
    IsKept-attached _ _ c.reserve.new.self.cells.items _ _ _ _ _ _ _ _ c.args.c c.lits.result.now c.choose-watched.result c.len.result c.vars-vars.result c.len.ensures c.vars-vars.ensures.same c.lits.ensures.same
    (IsKept-reserved _ _ _ _ _ _ _ _ _ _ c.reserve.ensures.grows c.reserve.ensures.heads c.self.invariant)
    (rw (← c.self.view_is) at c.requires.exist) (rw (← c.self.view_is) at c.requires.few) (rw (← c.self.view_is) at c.requires.open)
    c.in_ok-reserve.ensures.ok c.choose-watched.ensures.chosen c.choose-watched.ensures.none c.attach.ensures.linked c.attach.ensures.attached c.in_ok-push.ensures.ok

pub returns-clause-sound : goal.returns-clause-sound
returns-clause-sound c = IsTrail-grown _
    (IsKept-attached _ _ c.reserve.new.self.cells.items _ _ _ _ _ _ _ _ c.args.c c.lits.result.now c.choose-watched.result c.len.result c.vars-vars.result c.len.ensures c.vars-vars.ensures.same c.lits.ensures.same
    (IsKept-reserved _ _ _ _ _ _ _ _ _ _ c.reserve.ensures.grows c.reserve.ensures.heads c.self.invariant)
    (rw (← c.self.view_is) at c.requires.exist) (rw (← c.self.view_is) at c.requires.few) (rw (← c.self.view_is) at c.requires.open)
    c.in_ok-reserve.ensures.ok c.choose-watched.ensures.chosen c.choose-watched.ensures.none c.attach.ensures.linked c.attach.ensures.attached c.in_ok-push.ensures.ok).trail

pub returns-clause-ok : goal.returns-clause-ok
returns-clause-ok c = rw (← c.self.view_is)
    (Adds-push _ c.args.c _ _ (ap (λ (store : List (Option (List Lit))). state_of store c.self.inside.set c.self.inside.level false) c.in_ok-push.ensures.ok) (omega (arith, c.len.ensures, ap length c.in_ok-push.ensures.ok, length-append c.self.inside.store (Some c.args.c ∷ []))))
