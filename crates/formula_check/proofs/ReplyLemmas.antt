-- The outputs of a call, from its replies.
use Rattle.std.proofs.Common.{◌≡◌, ℕ, ◌<◌, ◌≤◌, List, length, Some, inl, inr, sym, ap, subst, ◌∙◌}
use Rattle.std.proofs.lemmas.Option.{same_Some}
use Rattle.clause_core.specs.declared.formula.Formula.{Formula}
use Rattle.dimacs.specs.Dimacs.{IsNoFormula, text_lines}
use Rattle.dimacs.specs.Output.{refused_line}
use Rattle.dimacs.specs.RefusedLine.{StopsAt}
use Rattle.dimacs.specs.Verdict.{IsFormulaOf}
use Rattle.bspl_types.specs.Limits.{input_limit}
use Rattle.program_frame.specs.declared.reply.Reply.{Reply}
use Rattle.tool_input.specs.declared.parts.Part.{Part}
use Rattle.tool_input.specs.declared.parts.Part.TheVariants.{Log}
use Rattle.tool_input.specs.declared.refusal.InputRefusal.{InputRefusal}
use Rattle.tool_input.specs.declared.refusal.InputRefusal.TheVariants.{NoPart}
use Rattle.tool_input.specs.declared.status.Status.{Status}
use Rattle.tool_input.specs.declared.status.Status.TheVariants.{Refused, Usage}
use Rattle.tool_input.specs.NeededPart.{HasPart, LacksPart}
use Rattle.tool_input.specs.Rejection.{input_rejection, lacks_part, over_limit, rejection_line}
use Rattle.formula_check.specs.Output.{CheckOutput, check_usage, answered, formula_part, no_formula, no_log, no_part, refused, too_long, usage}
use Rattle.formula_check.specs.Request.{HasNoArgument}
use Rattle.formula_check.specs.inner.Reply.{IsPartReply, IsRefusal, IsReply}

-- the usage line is an output of invalid arguments
pub usage_output : (args : List (List ℕ)) (bytes : List ℕ) (reply : Reply Status) → ¬ HasNoArgument args → IsReply check_usage Usage reply → CheckOutput args bytes reply.text reply.status
usage_output args bytes reply invalid is = rw (is.is_text, is.is_status) (usage invalid)

-- the line of an input that is too long is its output
pub long_output : (args : List (List ℕ)) (bytes : List ℕ) (reply : Reply Status) → HasNoArgument args → input_limit < length bytes → IsReply (rejection_line (over_limit input_limit)) Refused reply → CheckOutput args bytes reply.text reply.status
long_output args bytes reply asks long is =
    rw (is.is_text, is.is_status) (refused (rejection_line (over_limit input_limit)) asks (too_long long))

-- so is the line of an input without the part of a log
pub lacking_output : (args : List (List ℕ)) (input : List ℕ) (input_refusal : InputRefusal) (part : Part) (reply : Reply Status) → HasNoArgument args → length input ≤ input_limit → LacksPart (Some Log) input part → input_refusal ≡ NoPart part → IsRefusal (Some (input_rejection input_refusal)) reply → CheckOutput args input reply.text reply.status
lacking_output args input input_refusal part reply asks short lacks is_refusal is =
    let reason : is.reason ≡ lacks_part part = sym (same_Some (input_rejection input_refusal) is.reason is.is_reason) ∙ ap input_rejection is_refusal in
    rw (is.line.is_text, is.line.is_status, reason) (refused (rejection_line (lacks_part part)) asks (no_part part short lacks))

-- and that of a text that is no formula
pub text_output : (args : List (List ℕ)) (input part : List ℕ) (line : ℕ) (out : List ℕ) → HasNoArgument args → length input ≤ input_limit → HasPart (Some Log) input part → IsNoFormula (formula_part input) → StopsAt (text_lines (formula_part input)) line → out ≡ refused_line line → CheckOutput args input out Refused
text_output args input part line out asks short has_part none stops says =
    rw says (refused (refused_line line) asks (no_formula part line short has_part none stops))

-- so is the reply on the part and the formula of the input
pub part_output : (args : List (List ℕ)) (input part : List ℕ) (f : Formula) (reply : Reply Status) → HasNoArgument args → length input ≤ input_limit → HasPart (Some Log) input part → IsFormulaOf (formula_part input) f → IsPartReply (formula_part input) part reply → CheckOutput args input reply.text reply.status
part_output args input part f reply asks short has_part read (inl is) =
    answered reply.text reply.status asks (record {
      short = short;
      part = part;
      has_part = has_part;
      kind = is.kind;
      log = is.log;
      read = is.read;
      answer = is.answer;
    })
part_output args input part f reply asks short has_part read (inr is) =
    rw (is.line.line.is_text, is.line.line.is_status)
    (refused (rejection_line is.line.reason) asks (no_log part f is.refusal is.line.reason short has_part read is.refused is.line.is_reason))

-- what is answered to arguments that ask for no input is right for each input
pub unasked_output : (args : List (List ℕ)) → ¬ HasNoArgument args → (bytes other out : List ℕ) (status : Status) → CheckOutput args bytes out status → CheckOutput args other out status
unasked_output args none bytes other _ _ (usage invalid) = usage invalid
unasked_output args none bytes other _ _ (refused out asks refuses) = absurd (none asks)
unasked_output args none bytes other _ _ (answered out status asks answers) = absurd (none asks)
