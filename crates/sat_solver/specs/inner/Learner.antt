-- How a learner begins, and what its steps add.
use Rattle.std.specs.Prelude.{◌≡◌, ℕ, List, [], ◌∷◌, ◌++◌}
use Rattle.clause_core.specs.declared.literal.Lit.{Lit}
use Rattle.clause_core.specs.declared.formula.Formula.{Formula}
use Rattle.refutation_log.specs.declared.refutation.Chain.{Chain}
use Rattle.sat_trail.specs.Trail.{IsStart, IsTrail}
use Rattle.sat_solver.specs.declared.learner.Learner.{Learner}
use Rattle.sat_solver.specs.inner.Analysis.{Learns, Refuted}
use Rattle.sat_solver.specs.inner.Progress.{HasLearned}

-- no steps yet, over the formula's clauses and variables
pub record IsNewLearner (f : Formula) (l : Learner) : Type 0 where
  pub steps : l.steps ≡ []
  pub start : IsStart f l.trail
  pub sound : IsTrail l.trail

-- the last step derives a clause, which the trail then has
pub record LearnsOne (old new : Learner) : Type 0 where
  pub chain : Chain
  pub steps : new.steps ≡ old.steps ++ chain ∷ []
  pub learns : Learns old.trail new.trail chain

-- the last step derives the empty clause from the clause of the number
pub record RefutesBy (number : ℕ) (old new : Learner) : Type 0 where
  pub chain : Chain
  pub clause : List Lit
  pub steps : new.steps ≡ old.steps ++ chain ∷ []
  pub refuted : Refuted old.trail number chain clause

-- the formula's clauses and those that the steps derive are on the trail
abbrev pub IsLearning : Formula → Learner → Type 0
IsLearning f l = HasLearned f l.trail l.steps
