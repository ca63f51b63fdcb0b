-- What is written for the arguments and the bytes of the input, and with which status.
use Rattle.std.specs.Prelude.{◌≡◌, ℕ, ◌<◌, ◌≤◌, List, Some, length, codes}
use Rattle.bspl_types.specs.Limits.{input_limit}
use Rattle.clause_core.specs.declared.formula.Formula.{Formula}
use Rattle.dimacs.specs.Dimacs.{IsNoFormula, text_lines}
use Rattle.dimacs.specs.Output.{refused_line}
use Rattle.dimacs.specs.RefusedLine.{StopsAt}
use Rattle.dimacs.specs.Verdict.{IsFormulaOf}
use Rattle.rejections.specs.PartRejection.{log_rejection}
use Rattle.refutation_log.specs.declared.refusal.LogRefusal.{LogRefusal}
use Rattle.refutation_log.specs.declared.refutation.Kind.{Kind}
use Rattle.refutation_log.specs.declared.refutation.Log.{Log as SpecLog}
use Rattle.refutation_log.specs.LogText.{IsTextOf}
use Rattle.refutation_log.specs.Refusal.{IsRefusedLog}
use Rattle.tool_input.specs.declared.parts.Part.{Part}
use Rattle.tool_input.specs.declared.parts.Part.TheVariants.{Log}
use Rattle.tool_input.specs.declared.rejection.Rejection.{Rejection}
use Rattle.tool_input.specs.declared.status.Status.{Status}
use Rattle.tool_input.specs.declared.status.Status.TheVariants.{Refused, Usage}
use Rattle.tool_input.specs.NeededPart.{HasPart, LacksPart}
use Rattle.tool_input.specs.Parts.{protocol_text}
use Rattle.tool_input.specs.Rejection.{lacks_part, over_limit, rejection_line}
use Rattle.formula_check.specs.Answer.{IsLogAnswer}
use Rattle.formula_check.specs.Request.{HasNoArgument}

-- the line for invalid arguments
abbrev pub check_usage : List ℕ
check_usage = codes "usage: dimacs_check\n"

-- the text of the formula: what stands before the first part line
abbrev pub formula_part : List ℕ → List ℕ
formula_part input = protocol_text input

-- the line for an input that is refused, in the order in which the reasons are judged
pub data RefusesFormulaInput (input : List ℕ) : List ℕ → Type 0 where
  -- the input is too long
  too_long : input_limit < length input
      → RefusesFormulaInput input (rejection_line (over_limit input_limit))
  -- the part of the log is missing
  no_part : (part : Part) → length input ≤ input_limit → LacksPart (Some Log) input part
      → RefusesFormulaInput input (rejection_line (lacks_part part))
  -- the text before it is no formula
  no_formula : (part : List ℕ) (line : ℕ) → length input ≤ input_limit
      → HasPart (Some Log) input part → IsNoFormula (formula_part input)
      → StopsAt (text_lines (formula_part input)) line
      → RefusesFormulaInput input (refused_line line)
  -- the part is the text of no log
  no_log : (part : List ℕ) (f : Formula) (refusal : LogRefusal) (r : Rejection)
      → length input ≤ input_limit → HasPart (Some Log) input part
      → IsFormulaOf (formula_part input) f → IsRefusedLog part refusal
      → log_rejection refusal ≡ Some r → RefusesFormulaInput input (rejection_line r)

-- the output answers the log of the input, whose kind says nothing, on the formula of the input
pub record AnswersLog (input out : List ℕ) (status : Status) : Type 0 where
  pub short : length input ≤ input_limit
  pub part : List ℕ
  pub has_part : HasPart (Some Log) input part
  pub kind : Kind
  pub log : SpecLog
  pub read : IsTextOf part kind log
  pub answer : IsLogAnswer (formula_part input) log out status

-- the output and the status for the arguments and the bytes of the input
pub data CheckOutput (args : List (List ℕ)) (input : List ℕ) : List ℕ → Status → Type 0 where
  -- the arguments are invalid
  usage : ¬ HasNoArgument args → CheckOutput args input check_usage Usage
  -- there is a reason to refuse the input
  refused : (out : List ℕ) → HasNoArgument args → RefusesFormulaInput input out
      → CheckOutput args input out Refused
  -- the log is answered
  answered : (out : List ℕ) (status : Status) → HasNoArgument args → AnswersLog input out status
      → CheckOutput args input out status
