-- What a command answers on the declared protocol it answers on the input, and so are its refusals.
use Rattle.std.proofs.Common.{◌≡◌, ◌≢◌, ℕ, List, Some, None, sym, ◌∙◌, ap, subst, refl}
use Rattle.bspl_types.specs.declared.expanded.Expanded.{Expanded}
use Rattle.bspl_types.specs.declared.refusals.Refusal.{Refusal}
use Rattle.bspl_types.specs.declared.refusals.Refusal.TheVariants as refusal
use Rattle.tool_input.specs.declared.parts.Part.{Part}
use Rattle.tool_input.specs.declared.refusal.InputRefusal.{InputRefusal}
use Rattle.tool_input.specs.declared.refusal.InputRefusal.TheVariants.{NoPart}
use Rattle.tool_input.specs.declared.status.Status.{Status}
use Rattle.tool_input.specs.Input.{Declares}
use Rattle.tool_input.specs.Parts.{protocol_text}
use Rattle.tool_input.specs.Rejection.{input_rejection, text_rejection}
use Rattle.tool_input.specs.TextRefusal.{RefusesText}
use Rattle.tool_input.specs.declared.answer_error.AnswerError.{AnswerError}
use Rattle.tool_input.specs.declared.answer_error.AnswerError.TheVariants as error
use Rattle.tool_input.specs.Answer.{IsRightAnswer}
use Rattle.tool_input.specs.Error.{RejectsFor, error_for}
use Rattle.tool_input.specs.Need.{HasGiven, LacksGiven}
use Rattle.tool_input.specs.Output.{AnswersInput}
use Rattle.tool_input.specs.Refusals.{RefusesInput}
use Rattle.tool_input.specs.Rules.{CommandRules}

-- the part that the command needs is missing
pub part_missing : (rules : CommandRules) (name input : List ℕ) (q : InputRefusal) → ((part : Part) × LacksGiven rules.needs input part × (q ≡ NoPart part)) → RejectsFor (RefusesInput rules name input) (error.Rejected (input_rejection q))
part_missing rules name input q (part, lacks, is) = subst (λ (r : InputRefusal). RejectsFor (RefusesInput rules name input) (error.Rejected (input_rejection r))) (sym is) (RefusesInput.no_part part lacks)

-- a refusal of the protocol text
pub text_refused : (rules : CommandRules) (name input given : List ℕ) (q : Refusal) → HasGiven rules.needs input given → (q ≢ refusal.NoMemory → RefusesText name (protocol_text input) q) → RejectsFor (RefusesInput rules name input) (error_for (text_rejection q))
text_refused rules name input given q has refuses =
    (elim (text_rejection q) as (λ o. text_rejection q ≡ o → RejectsFor (RefusesInput rules name input) (error_for o)) [
      | None ↦ λ is. tt
      | Some r ↦ λ is. RefusesInput.text given q r has (refuses (λ out_of_memory. let none : None ≡ Some r = ap text_rejection (sym out_of_memory) ∙ is in absurd (cc))) is
    ]) refl

-- an answer on the protocol that is judged
pub input_answered : {A : Type 0} (completes : A → List ℕ → Status → Type 0) (rules : CommandRules) (name input given : List ℕ) (x : Expanded) (a : A) → HasGiven rules.needs input given → Declares name (protocol_text input) x → IsRightAnswer completes (rules.answers x given) a → IsRightAnswer completes (AnswersInput rules name input) a
input_answered completes rules name input given x a has declares right = λ out status completed. record {
  given = given;
  has_given = has;
  protocol = x;
  judged = declares;
  answer = right out status completed;
}

-- an error of the command on it
pub input_refused : (rules : CommandRules) (name input given : List ℕ) (x : Expanded) (e : AnswerError) → HasGiven rules.needs input given → Declares name (protocol_text input) x → RejectsFor (rules.refuses x given) e → RejectsFor (RefusesInput rules name input) e
input_refused rules name input given x (error.Rejected r) has declares refuses = RefusesInput.command given x r has declares refuses
input_refused rules name input given x error.NoMemory has declares refuses = tt
