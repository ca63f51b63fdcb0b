-- Where an assignment shows a legal run, what has happened, what a role knows and what can be sent are conditions that it meets.
use Rattle.std.proofs.Common.{◌≡◌, ◌↔◌, ℕ, ◌<◌, Bool, true, List, length, sym, ◌∙◌}
use Rattle.bspl_types.specs.declared.event.Event.{Event}
use Rattle.bspl_types.specs.declared.expanded.Expanded.{Expanded}
use Rattle.bspl_types.specs.declared.protocol.Adornment.{Adornment}
use Rattle.bspl_types.specs.declared.protocol.Adornment.TheVariants.{In, Nil, Out}
use Rattle.bspl_types.specs.declared.protocol.Carried.{Carried}
use Rattle.bspl_types.specs.declared.value.Value.{Value}
use Rattle.bspl_types.specs.Expansion.{Adorns, message_of}
use Rattle.bspl_types.specs.History.{history_of}
use Rattle.bspl_types.specs.Knowledge.{IsKnown}
use Rattle.circuit_clauses.specs.Condition.{Condition, Literal, Meets}
use Rattle.circuit_clauses.specs.Laws.{DeniedIsNotMet}
use Rattle.clause_encoding.specs.declared.variables.Variables.{Variables}
use Rattle.clause_encoding.specs.Carriers.{carriers}
use Rattle.clause_encoding.specs.Laws.{CarriersAreKinds}
use Rattle.clause_encoding.specs.Variables.{occurs}
use Rattle.enactment_model.specs.Legal.{IsLegalRun}
use Rattle.first_occurrences.specs.Occurrence.{is_occurring}
use Rattle.first_occurrences.specs.Report.{AreVariablesOf}
use Rattle.first_occurrences.specs.Shown.{KnownExactlyIfCarried, Shows}
use Rattle.questions.specs.Answer.{CanBeSent}
use Rattle.question_formula.specs.Conditions.{demanded, sendable, some_occurs}
use Rattle.question_formula.proofs.ConditionLemmas.{all_met, met_all, met_one, one_met}
use Rattle.question_formula.proofs.HappeningLemmas.{some_kind}
use Rattle.question_formula.proofs.KindLemmas.{AreKinds, carriers_are}
use Rattle.question_formula.proofs.ListedLemmas.{passed, passes_by}

-- the literal of a kind's occurrence
abbrev occurrence : ℕ → Condition
occurrence kind = Literal (occurs kind)

-- one of the kinds occurs exactly if the assignment says so
pub some_shown : (vars : Variables) (run : List Event) (key : List Value) (v : ℕ → Bool) (kinds : List ℕ) → Shows vars run key v → AreKinds vars kinds → (some_kind run key kinds ≡ true) ↔ Meets v (some_occurs kinds)
some_shown vars run key v kinds shows are = (
  λ some.
      let found = passed (is_occurring run key) kinds some in
      met_one v occurrence kinds found.item found.among (shows.occurring found.item (are found.item found.among) ∙ found.passes),
  λ met.
      let found = one_met v occurrence kinds met in
      passes_by (is_occurring run key) kinds found.item found.among (sym (shows.occurring found.item (are found.item found.among)) ∙ found.met),
)

module _ (carried : CarriersAreKinds) (known : KnownExactlyIfCarried) (denies : DeniedIsNotMet) (x : Expanded) (vars : Variables) (run : List Event) (key : List Value) (v : ℕ → Bool) (are : AreVariablesOf x vars) (is_legal : IsLegalRun x run) (shows : Shows vars run key v) where
  -- a role knows a parameter exactly if it says so
  known_shown : (role p : ℕ) → IsKnown x (history_of x role run) key p ↔ Meets v (some_occurs (carriers x role p))
  known_shown role p =
      let knowing = known x run key role p is_legal in
      let shown = some_shown vars run key v (carriers x role p) shows (carriers_are x vars are carried role p) in
      (λ is. shown.0 (knowing.0 is), λ met. knowing.1 (shown.1 met))

  module _ (m : ℕ) where
    -- the condition that the sender knows a parameter
    abbrev knows : ℕ → Condition
    knows p = some_occurs (carriers x (message_of x m).sender p)

    -- what is demanded of a parameter
    abbrev demand : Carried → Condition
    demand c = demanded c.adornment (knows c.param)

    -- is met where the message can be sent
    demand_met : CanBeSent x run key m → (a : Adornment) (p : ℕ) → Adorns x m a p → Meets v (demanded a (knows p))
    demand_met can In p adorned = (known_shown (message_of x m).sender p).0 (can.ins p adorned)
    demand_met can Out p adorned = (denies (knows p) v).1 (λ met. can.outs p adorned ((known_shown (message_of x m).sender p).1 met))
    demand_met can Nil p adorned = (denies (knows p) v).1 (λ met. can.nils p adorned ((known_shown (message_of x m).sender p).1 met))

    -- a message can be sent exactly if it says so
    pub sendable_shown : m < length x.messages → CanBeSent x run key m ↔ Meets v (sendable x m)
    sendable_shown below = (
      λ can. met_all v demand (message_of x m).carried (λ c among. demand_met can c.adornment c.param among),
      λ met.
          let each : (a : Adornment) (p : ℕ) → Adorns x m a p → Meets v (demanded a (knows p)) =
          λ a p adorned. all_met v demand (message_of x m).carried met (record { param = p; adornment = a }) adorned in
          record {
            known = below;
            ins = λ p adorned. (known_shown (message_of x m).sender p).1 (each In p adorned);
            outs = λ p adorned is_known. (denies (knows p) v).0 (each Out p adorned) ((known_shown (message_of x m).sender p).0 is_known);
            nils = λ p adorned is_known. (denies (knows p) v).0 (each Nil p adorned) ((known_shown (message_of x m).sender p).0 is_known);
          },
    )
