-- An enactment has come to rest exactly if each message of the protocol has.
use Rattle.std.proofs.Common.{◌≡◌, ◌↔◌, ℕ, ◌<◌, Bool, true, List, length, map, inl, inr, refl, sym, ◌∙◌, subst, ⊎_elim, Contains}
use Rattle.std.specs.Prelude.{◌==◌}
use Rattle.std.specs.List.{list_any}
use Rattle.std.proofs.lemmas.Bool.{both_ways, cases_Bool, cond_both, eq-eqb, eqb-true}
use Rattle.std.proofs.lemmas.List.Elements.{All-contains}
use Rattle.bspl_types.specs.declared.event.Event.{Event}
use Rattle.bspl_types.specs.declared.event.Event.TheVariants.{Emit}
use Rattle.bspl_types.specs.declared.expanded.Expanded.{Expanded}
use Rattle.bspl_types.specs.declared.value.Value.{Value}
use Rattle.bspl_types.specs.History.{instance_of}
use Rattle.bspl_types.specs.Instance.{Fits}
use Rattle.circuit_clauses.specs.Condition.{Both, Condition, Either, Literal, Meets, denied}
use Rattle.circuit_clauses.specs.Laws.{DeniedIsNotMet}
use Rattle.clause_encoding.specs.declared.variables.Variables.{Variables}
use Rattle.clause_encoding.specs.Laws.{CarriersAreKinds}
use Rattle.clause_encoding.specs.Variables.{message_numbers, occurs, received, sent}
use Rattle.enactment_model.specs.Legal.{IsLegalRun}
use Rattle.enactment_model.specs.Liveness.{IsEmitted}
use Rattle.first_occurrences.specs.Report.{AreVariablesOf}
use Rattle.first_occurrences.specs.Shown.{KnownExactlyIfCarried, OccursExactlyIfSomeEvent, Shows}
use Rattle.questions.specs.Answer.{ComesToRest, HasArrived, IsExhausted}
use Rattle.question_formula.specs.Conditions.{all_of, arrives_if_sent, rests_at, sendable}
use Rattle.question_formula.proofs.ConditionLemmas.{all_met, met_all}
use Rattle.question_formula.proofs.HappeningLemmas.{emitted_if_occurs, received_if_occurs}
use Rattle.question_formula.proofs.KindLemmas.{received_is_kind, sent_is_kind}
use Rattle.question_formula.proofs.ListedLemmas.{passed, passes_by, range_bound, range_member}
use Rattle.question_formula.proofs.ShownLemmas.{sendable_shown}

module _ (carried : CarriersAreKinds) (has : OccursExactlyIfSomeEvent) (known : KnownExactlyIfCarried) (denies : DeniedIsNotMet) (x : Expanded) (vars : Variables) (run : List Event) (key : List Value) (v : ℕ → Bool) (are : AreVariablesOf x vars) (is_legal : IsLegalRun x run) (shows : Shows vars run key v) where
  -- a message that was sent is one of the protocol's
  exists : (m : ℕ) → IsEmitted run key m → m < length x.messages
  exists m emitted =
      let fits = All-contains (λ e. Fits x (instance_of e)) run (Emit emitted.instance) is_legal.fits emitted.emitted in
      subst (λ n. n < length x.messages) emitted.message_is fits.known

  module _ (m : ℕ) (below : m < length x.messages) where
    -- it was sent exactly if the assignment says so
    sent_shown : IsEmitted run key m ↔ (v (sent m) ≡ true)
    sent_shown =
        let agrees = shows.occurring (sent m) (sent_is_kind x vars are m below) in
        let occurs_if = emitted_if_occurs has run key m in
        (λ emitted. agrees ∙ occurs_if.0 emitted, λ holds. occurs_if.1 (sym agrees ∙ holds))

    -- and received exactly if it does
    received_shown : HasArrived run key m ↔ Meets v (arrives_if_sent m)
    received_shown =
        let agrees = shows.occurring (received m) (received_is_kind x vars are m below) in
        let occurs_if = received_if_occurs has run key m in (
          λ arrives. elim (cases_Bool (v (sent m))) [
            | inl holds ↦ inr (agrees ∙ occurs_if.0 (arrives (sent_shown.1 holds)))
            | inr none ↦ inl none
          ],
          λ met emitted.
              ⊎_elim
              (λ none. absurd (both_ways (v (sent m)) none (sent_shown.0 emitted)))
              (λ holds. occurs_if.1 (sym agrees ∙ holds))
              met,
        )

    -- that it was sent or cannot be
    abbrev spent : Condition
    spent = Either (Literal (occurs (sent m))) (denied (sendable x m))

    -- holds exactly if the condition is met, unless the message is excused
    spent_shown : (excused : List ℕ) → (Contains excused m → ⊥) → IsExhausted x run key excused m ↔ Meets v spent
    spent_shown excused counts =
        let can_if = sendable_shown carried known denies x vars run key v are is_legal shows m below in (
          λ exhausted. elim (cases_Bool (v (sent m))) [
            | inl holds ↦ inl holds
            | inr none ↦ inr ((denies (sendable x m) v).1 (λ met. exhausted counts (λ emitted. both_ways (v (sent m)) none (sent_shown.0 emitted)) (can_if.1 met)))
          ],
          λ met _ unsent can.
              ⊎_elim
              (λ holds. unsent (sent_shown.1 holds))
              (λ denied. (denies (sendable x m) v).0 denied (can_if.0 can))
              met,
        )

    -- what an excused message and one that counts have to meet
    rests_met : (excused : List ℕ) → HasArrived run key m → IsExhausted x run key excused m → Meets v (rests_at x excused m)
    rests_met excused arrives exhausted =
        cond_both (list_any (λ other. other == m) excused) (arrives_if_sent m) (Both (arrives_if_sent m) spent) (Meets v)
        (λ is_excused. received_shown.0 arrives)
        (λ none. (received_shown.0 arrives, (spent_shown excused (λ among. both_ways (list_any (λ other. other == m) excused) none (passes_by (λ other. other == m) excused m among (eq-eqb m m refl)))).0 exhausted))

    -- the message has arrived where it is met
    met_arrives : (excused : List ℕ) → Meets v (rests_at x excused m) → HasArrived run key m
    met_arrives excused =
        cond_both (list_any (λ other. other == m) excused) (arrives_if_sent m) (Both (arrives_if_sent m) spent) (λ c. Meets v c → HasArrived run key m)
        (λ is_excused met. received_shown.1 met)
        (λ none met. received_shown.1 met.0)

    -- and is exhausted
    met_exhausted : (excused : List ℕ) → Meets v (rests_at x excused m) → IsExhausted x run key excused m
    met_exhausted excused =
        cond_both (list_any (λ other. other == m) excused) (arrives_if_sent m) (Both (arrives_if_sent m) spent) (λ c. Meets v c → IsExhausted x run key excused m)
        (λ is_excused met counts.
        let found = passed (λ other. other == m) excused is_excused in
        absurd (counts (subst (λ n. Contains excused n) (eqb-true found.item m found.passes) found.among)))
        (λ none met counts. (spent_shown excused counts).1 met.1 counts)

  -- so the enactment rests exactly if all of these are met
  pub rest_shown : (excused : List ℕ) → ComesToRest x run key excused ↔ Meets v (all_of (map (rests_at x excused) (message_numbers x)))
  rest_shown excused = (
    λ rests. met_all v (rests_at x excused) (message_numbers x) (λ m among. rests_met m (range_bound (length x.messages) m among) excused (rests.arrived m) (rests.exhausted m)),
    λ met.
        let each : (m : ℕ) → m < length x.messages → Meets v (rests_at x excused m) =
        λ m below. all_met v (rests_at x excused) (message_numbers x) met m (range_member (length x.messages) m below) in
        record {
          arrived = λ m emitted. let below = exists m emitted in met_arrives m below excused (each m below) emitted;
          exhausted = λ m counts unsent can. met_exhausted m can.known excused (each m can.known) counts unsent can;
        },
  )
