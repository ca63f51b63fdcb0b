-- What the status of a call says.
use Rattle.std.specs.Prelude.{ℕ, List, Some}
use Rattle.clause_core.specs.declared.formula.Formula.{Formula}
use Rattle.clause_core.specs.declared.literal.Lit.{Lit}
use Rattle.clause_core.specs.Clause.{IsUnsatisfiable}
use Rattle.dimacs.specs.Dimacs.{IsDimacs}
use Rattle.dimacs.specs.Verdict.{IsFormulaOf}
use Rattle.refutation_log.specs.declared.refutation.Kind.{Kind}
use Rattle.refutation_log.specs.declared.refutation.Log.{Log as SpecLog}
use Rattle.refutation_log.specs.LogText.{IsTextOf}
use Rattle.refutation_log.specs.Resolution.{Accepts}
use Rattle.tool_input.specs.declared.parts.Part.TheVariants.{Log}
use Rattle.tool_input.specs.declared.status.Status.TheVariants.{Done, Refuted}
use Rattle.tool_input.specs.NeededPart.{HasPart}
use Rattle.formula_check.specs.Output.{CheckOutput, formula_part}

-- the text is a formula, and no assignment satisfies the clauses that are written
pub record HasNoModel (text : List ℕ) : Type 0 where
  pub vars : ℕ
  pub written : List (List Lit)
  pub read : IsDimacs text vars written
  pub none : IsUnsatisfiable written

-- after status 0 the formula of the input has no model
abbrev pub DoneMeansNoModel : Type 0
DoneMeansNoModel =
    (args : List (List ℕ)) (input out : List ℕ) → CheckOutput args input out Done →
    HasNoModel (formula_part input)

-- the input has a formula and a log, which is not accepted on it
pub record IsNotAccepted (input : List ℕ) : Type 0 where
  pub formula : Formula
  pub is_formula : IsFormulaOf (formula_part input) formula
  pub part : List ℕ
  pub has_part : HasPart (Some Log) input part
  pub kind : Kind
  pub log : SpecLog
  pub is_log : IsTextOf part kind log
  pub fails : ¬ Accepts formula log

-- after status 1 the log of the input is not accepted
abbrev pub RefutedMeansNotAccepted : Type 0
RefutedMeansNotAccepted =
    (args : List (List ℕ)) (input out : List ℕ) → CheckOutput args input out Refuted →
    IsNotAccepted input
