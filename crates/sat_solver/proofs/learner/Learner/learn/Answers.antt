-- The learned clause is open at the level to which the search backjumps.
use Rattle.std.proofs.Common.{Result, Ok, Err, OnOk, inl, inr, ap, subst, ◌∙◌}
use Rattle.sat_trail.specs.State.{State}
use Rattle.sat_trail.specs.Trail.{Adds}
use Rattle.sat_solver.specs.inner.Analysis.{Learns}
use Rattle.sat_solver.proofs.LearningLemmas.{exist-learned, open-learned}
use Rattle.sat_solver.proofs.learner.Learner.learn.Goals as goal

pub lower_level-asserting-requires-clause-exist : goal.lower_level-asserting-requires-clause-exist
lower_level-asserting-requires-clause-exist c = rw c.lits.ensures.same (exist-learned c.args.self.now.trail _ _ c.is_trail.ensures c.in_ok-chain.ensures.learned)

pub take_in-requires-clause-exist : goal.take_in-requires-clause-exist
take_in-requires-clause-exist c = rw c.lits-2.ensures.same (exist-learned c.args.self.now.trail _ _ c.is_trail.ensures c.in_ok-chain.ensures.learned)

pub add-requires-clause-exist : goal.add-requires-clause-exist
add-requires-clause-exist c = rw c.back_to.ensures.kept (exist-learned c.args.self.now.trail _ _ c.is_trail.ensures c.in_ok-chain.ensures.learned)

pub add-requires-clause-open : goal.add-requires-clause-open
add-requires-clause-open c = elim c.in_ok-level.ensures.level [
  | inl restart ↦ inl (ap (λ (s : State). s.level) c.back_to.ensures.kept ∙ restart)
  | inr back ↦
      open-learned c.args.self.now.trail _ _ _ _ c.is_trail.ensures c.in_ok-chain.ensures.learned
      (rw (c.lits.ensures.same, ← back) at c.lower_level-asserting.ensures) c.back_to.ensures.kept
]

-- what follows from what an `Ok` says
on_ok : {A E : Type 0} (r : Result A E) (P Q : Type 0) → (P → Q) → OnOk r P → OnOk r Q
on_ok (Ok _) P Q follows holds = follows holds
on_ok (Err _) P Q follows holds = tt

pub returns : goal.returns
returns c =
    let adds : Adds c.back_to.new.self c.in_ok-chain.field-0.clause c.add.new.self c.in_ok-add.field-0 = c.in_ok-add.ensures.ok in
    let learns : Learns c.args.self.now.trail c.add.new.self c.in_ok-chain.field-0.chain = record {
      clause = c.in_ok-chain.field-0.clause;
      learned = c.in_ok-chain.ensures.learned;
      level = c.in_ok-level.level;
      number = c.in_ok-add.field-0;
      adds = subst (λ (t : State). Adds t c.in_ok-chain.field-0.clause c.add.new.self c.in_ok-add.field-0) c.back_to.ensures.kept adds;
      sound = c.in_ok-add.ensures.sound;
    } in
    on_ok c.push.result _ _ (λ pushed. record { chain = c.in_ok-chain.field-0.chain; steps = pushed; learns = learns }) c.push.ensures.ok
