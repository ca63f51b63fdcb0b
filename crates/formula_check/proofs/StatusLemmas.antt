-- What the status of an output says.
use Rattle.std.proofs.Common.{◌≡◌, ℕ, List, inl, inr, refl, sym, ◌∙◌}
use Rattle.log_checker.specs.FirstFailure.{AcceptedDoesNotFail}
use Rattle.tool_input.specs.declared.status.Status.{Status}
use Rattle.tool_input.specs.declared.status.Status.TheVariants.{Done, Refuted}
use Rattle.formula_check.specs.Answer.{IsLogAnswer}
use Rattle.formula_check.specs.Laws.{HasNoModel, IsNotAccepted}
use Rattle.formula_check.specs.Output.{AnswersLog, CheckOutput, answered, formula_part, refused, usage}

-- an answer of status 0 is that of a log that is accepted
answer_done : (input out : List ℕ) (status : Status) → status ≡ Done → AnswersLog input out status → HasNoModel (formula_part input)
answer_done input out status is answers =
    (elim answers.answer as (λ o. HasNoModel (formula_part input)) [
      | inl says ↦ record {
        vars = says.formula.vars;
        written = says.read.written;
        read = says.read.read;
        none = says.none;
      }
      | inr says ↦ let both : Done ≡ Refuted = sym is ∙ says.refuted in cc
    ])

-- one of status 1 is that of a log that fails
answer_refuted : AcceptedDoesNotFail → (input out : List ℕ) (status : Status) → status ≡ Refuted → AnswersLog input out status → IsNotAccepted input
answer_refuted apart input out status is answers =
    (elim answers.answer as (λ o. IsNotAccepted input) [
      | inl says ↦ let both : Refuted ≡ Done = sym is ∙ says.done in cc
      | inr says ↦ record {
        formula = says.formula;
        is_formula = says.read;
        part = answers.part;
        has_part = answers.has_part;
        kind = answers.kind;
        log = answers.log;
        is_log = answers.read;
        fails = λ accepts. apart says.formula answers.log says.reject accepts says.fails;
      }
    ])

by_status_done : (args : List (List ℕ)) (input out : List ℕ) (status : Status) → status ≡ Done → CheckOutput args input out status → HasNoModel (formula_part input)
by_status_done args input _ _ is (usage invalid) = cc
by_status_done args input _ _ is (refused out asks refuses) = cc
by_status_done args input _ _ is (answered out status asks answers) = answer_done input out status is answers

by_status_refuted : AcceptedDoesNotFail → (args : List (List ℕ)) (input out : List ℕ) (status : Status) → status ≡ Refuted → CheckOutput args input out status → IsNotAccepted input
by_status_refuted apart args input _ _ is (usage invalid) = cc
by_status_refuted apart args input _ _ is (refused out asks refuses) = cc
by_status_refuted apart args input _ _ is (answered out status asks answers) = answer_refuted apart input out status is answers

pub done_means : (args : List (List ℕ)) (input out : List ℕ) → CheckOutput args input out Done → HasNoModel (formula_part input)
done_means args input out output = by_status_done args input out Done refl output

pub refuted_means : AcceptedDoesNotFail → (args : List (List ℕ)) (input out : List ℕ) → CheckOutput args input out Refuted → IsNotAccepted input
refuted_means apart args input out output = by_status_refuted apart args input out Refuted refl output
