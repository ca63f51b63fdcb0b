-- When a verdict on a text is right.
use Rattle.std.specs.Prelude.{◌≡◌, ℕ, Bool, true, false, List, [], ◌∷◌, length, ⊤}
use Rattle.clause_core.specs.declared.literal.Lit.{Lit}
use Rattle.clause_core.specs.declared.formula.Formula.{Formula}
use Rattle.clause_core.specs.Assignment.{valuation}
use Rattle.clause_core.specs.Clause.{HasExactly, SatisfiesAll, IsUnsatisfiable}
use Rattle.refutation_log.specs.declared.refutation.Log.{Log}
use Rattle.sat_solver.specs.Outcome.{Refutes, Spends}
use Rattle.dimacs.specs.declared.verdict.Verdict.{Verdict}
use Rattle.dimacs.specs.declared.verdict.Verdict.TheVariants.{Satisfiable, Unsatisfiable, Proved, Unknown}
use Rattle.lrat_text.specs.Proof.{IsProofOf}
use Rattle.dimacs.specs.declared.arguments.Options.{Options}
use Rattle.dimacs.specs.Dimacs.{IsDimacs}

-- each clause holds the literals of the written one at its index
abbrev pub HaveExactly : List (List Lit) → List (List Lit) → Type 0
HaveExactly [] [] = ⊤
HaveExactly [] (w ∷ written) = ⊥
HaveExactly (c ∷ clauses) [] = ⊥
HaveExactly (c ∷ clauses) (w ∷ written) = HasExactly c w × HaveExactly clauses written

-- the formula is that of the text
pub record IsFormulaOf (text : List ℕ) (f : Formula) : Type 0 where
  pub written : List (List Lit)
  pub read : IsDimacs text f.vars written
  pub same : HaveExactly f.clauses written

-- the text is a formula, and the assignment has its variables and satisfies its clauses
pub record IsSatisfied (text : List ℕ) (assignment : List Bool) : Type 0 where
  pub written : List (List Lit)
  pub read : IsDimacs text (length assignment) written
  pub satisfies : SatisfiesAll (valuation assignment) written

-- the text is a formula, no assignment satisfies its clauses, and a log within the budget shows it
pub record IsRefutedText (text : List ℕ) (budget : ℕ) : Type 0 where
  pub formula : Formula
  pub read : IsFormulaOf text formula
  pub log : Log
  pub refutes : Refutes formula budget log
  pub none : IsUnsatisfiable read.written

-- so it is, and the proof is that of the log
pub record IsProved (text : List ℕ) (budget : ℕ) (proof : List ℕ) : Type 0 where
  pub refuted : IsRefutedText text budget
  pub proves : IsProofOf refuted.formula refuted.log proof

-- the text is a formula, of which a log of as many new clauses as the budget has no empty one
pub record IsUndecided (text : List ℕ) (budget : ℕ) : Type 0 where
  pub formula : Formula
  pub read : IsFormulaOf text formula
  pub log : Log
  pub spends : Spends formula budget log

-- the verdict on the text is right; the budget binds the log of a refutation, and that of `unknown`,
-- and a refutation comes with its proof exactly if one is asked for
abbrev pub IsRightVerdict : List ℕ → Options → Verdict → Type 0
IsRightVerdict text o (Satisfiable assignment stats) = IsSatisfied text assignment
IsRightVerdict text o (Unsatisfiable stats) = (o.lrat ≡ false) × IsRefutedText text o.budget
IsRightVerdict text o (Proved proof) = (o.lrat ≡ true) × IsProved text o.budget proof
IsRightVerdict text o (Unknown stats) = IsUndecided text o.budget
