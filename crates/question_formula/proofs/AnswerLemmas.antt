-- In a legal run that an assignment shows, the answer is yes exactly if the assignment meets the condition.
use Rattle.std.proofs.Common.{◌↔◌, ℕ, Bool, List, inl, inr, ⊎_elim}
use Rattle.bspl_types.specs.declared.event.Event.{Event}
use Rattle.bspl_types.specs.declared.expanded.Expanded.{Expanded}
use Rattle.bspl_types.specs.declared.value.Value.{Value}
use Rattle.circuit_clauses.specs.Condition.{Meets}
use Rattle.circuit_clauses.specs.Laws.{DeniedIsNotMet}
use Rattle.clause_encoding.specs.declared.variables.Variables.{Variables}
use Rattle.clause_encoding.specs.Laws.{CarriersAreKinds}
use Rattle.enactment_model.specs.Laws.{PrefixIsLegalRun}
use Rattle.enactment_model.specs.Legal.{IsLegalRun}
use Rattle.first_occurrences.specs.Laws.{BoundExactlyIfSent}
use Rattle.first_occurrences.specs.Report.{AreVariablesOf}
use Rattle.first_occurrences.specs.Shown.{KnownExactlyIfCarried, OccursExactlyIfSomeEvent, OccursExactlyIfWithin, Shows}
use Rattle.questions.specs.declared.question.Question.{Question}
use Rattle.questions.specs.declared.question.Question.TheVariants as asks
use Rattle.questions.specs.Answer.{IsAnsweredYes}
use Rattle.questions.specs.Subject.{IsAbout}
use Rattle.question_formula.specs.Conditions.{asked}
use Rattle.question_formula.specs.Happenings.{kinds_of}
use Rattle.question_formula.specs.Laws.{YesExactlyIfMet}
use Rattle.question_formula.proofs.BeforeLemmas.{before_shown}
use Rattle.question_formula.proofs.HappeningLemmas.{happened_if_occurs}
use Rattle.question_formula.proofs.KindLemmas.{are_kinds}
use Rattle.question_formula.proofs.RestLemmas.{rest_shown}
use Rattle.question_formula.proofs.ShownLemmas.{sendable_shown, some_shown}

module _ (carried : CarriersAreKinds) (has : OccursExactlyIfSomeEvent) (within : OccursExactlyIfWithin) (known : KnownExactlyIfCarried) (bound : BoundExactlyIfSent) (prefix : PrefixIsLegalRun) (denies : DeniedIsNotMet) (x : Expanded) (vars : Variables) (run : List Event) (key : List Value) (v : ℕ → Bool) (are : AreVariablesOf x vars) (is_legal : IsLegalRun x run) (shows : Shows vars run key v) where
  -- by the question
  yes_if_met : (q : Question) → IsAbout x q → IsAnsweredYes x run key q ↔ Meets v (asked x vars q)
  yes_if_met (asks.Happened h) about =
      let happened = happened_if_occurs has known bound x run key is_legal h in
      let shown = some_shown vars run key v (kinds_of x h) shows (are_kinds x vars are carried h about) in
      (λ yes. shown.0 (happened.0 yes), λ met. happened.1 (shown.1 met))
  yes_if_met (asks.Before one other) about =
      before_shown has within known bound prefix x run key is_legal vars v shows one other (are_kinds x vars are carried one about.0) (are_kinds x vars are carried other about.1)
  yes_if_met (asks.Can m) about = sendable_shown carried known denies x vars run key v are is_legal shows m about
  yes_if_met (asks.Rest excused) about = rest_shown carried has known denies x vars run key v are is_legal shows excused
  yes_if_met (asks.Not' _ q) about =
      let inner = yes_if_met q about in
      let outer = denies (asked x vars q) v in
      (λ no. outer.1 (λ met. no (inner.1 met)), λ denied yes. outer.0 denied (inner.0 yes))
  yes_if_met (asks.And' _ q _ r) about =
      let left = yes_if_met q about.0 in
      let right = yes_if_met r about.1 in
      (λ yes. (left.0 yes.0, right.0 yes.1), λ met. (left.1 met.0, right.1 met.1))
  yes_if_met (asks.Or' _ q _ r) about =
      let left = yes_if_met q about.0 in
      let right = yes_if_met r about.1 in (
        λ yes. ⊎_elim (λ one. inl (left.0 one)) (λ other. inr (right.0 other)) yes,
        λ met. ⊎_elim (λ one. inl (left.1 one)) (λ other. inr (right.1 other)) met,
      )

-- in each legal run
pub yes_exactly_if_met : CarriersAreKinds → OccursExactlyIfSomeEvent → OccursExactlyIfWithin → KnownExactlyIfCarried → BoundExactlyIfSent → PrefixIsLegalRun → DeniedIsNotMet → YesExactlyIfMet
yes_exactly_if_met carried has within known bound prefix denies x vars q run key v are about is_legal shows =
    yes_if_met carried has within known bound prefix denies x vars run key v are is_legal shows q about
