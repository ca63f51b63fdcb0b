-- A conflict is two emissions of different messages that produce one parameter.
use Rattle.std.proofs.Common.{◌≡◌, ◌≢◌, ◌↔◌, inl, inr, ℕ, ◌<◌, List, Some, length, take, get_or, refl, sym, ap, ◌∙◌, subst, Contains}
use Rattle.std.specs.Prelude.{slice_get}
use Rattle.std.proofs.lemmas.Bool.{cases_eq, cases_order}
use Rattle.std.proofs.lemmas.List.Elements.{All-take}
use Rattle.std.proofs.lemmas.Option.{same_Some}
use Rattle.list_base.proofs.Membership.{early_member, index_of, member_at}
use Rattle.bspl_types.specs.declared.event.Event.{Event}
use Rattle.bspl_types.specs.declared.event.Event.TheVariants.{Emit}
use Rattle.bspl_types.specs.declared.event.Instance.{Instance}
use Rattle.bspl_types.specs.declared.expanded.Expanded.{Expanded}
use Rattle.bspl_types.specs.declared.protocol.Adornment.TheVariants.{Out}
use Rattle.bspl_types.specs.declared.value.Value.{Value}
use Rattle.bspl_types.specs.Expansion.{Adorns}
use Rattle.bspl_types.specs.History.{instance_of}
use Rattle.bspl_types.specs.Instance.{Fits}
use Rattle.enactment_model.specs.Laws.{LegalByPositions, NoConflictAgrees, SecondEmissionIsNotEnabled}
use Rattle.enactment_model.specs.Legal.{IsLegalRun}
use Rattle.enactment_model.specs.Liveness.{IsEmitted}
use Rattle.enactment_model.specs.Safety.{Conflict, HasNoConflict, ProducesAt}
use Rattle.questions.specs.declared.question.Question.{Question}
use Rattle.questions.specs.declared.question.Question.TheVariants as asks
use Rattle.questions.specs.Answer.{IsAnsweredYes}
use Rattle.questions.specs.Conflict.{AsksBothSent, ConflictIsAQuestion, HasConflictingRun, HasPossibleRivals, SafetyIsAQuestion}

-- what the question asks
both_asked : (x : Expanded) (run : List Event) (key : List Value) (m n : ℕ) (q : Question) → AsksBothSent m n q → IsAnsweredYes x run key q ↔ (IsEmitted run key m × IsEmitted run key n)
both_asked x run key m n (asks.And' _ q _ r) is = (
  λ yes. (subst (IsAnsweredYes x run key) is.0 yes.0, subst (IsAnsweredYes x run key) is.1 yes.1),
  λ both. (subst (IsAnsweredYes x run key) (sym is.0) both.0, subst (IsAnsweredYes x run key) (sym is.1) both.1),
)
both_asked x run key m n q is = absurd is

-- what produces a parameter is emitted
emitted_at : (x : Expanded) (run : List Event) (key : List Value) (p k : ℕ) (at : ProducesAt x run key p k) → IsEmitted run key at.instance.message
emitted_at x run key p k at = record { instance = at.instance; emitted = member_at run k (Emit at.instance) at.emitted; under = at.under; message_is = refl }

-- the messages of a conflict are different: a second emission of one is not enabled
differ : SecondEmissionIsNotEnabled → LegalByPositions → (x : Expanded) (run : List Event) (key : List Value) (p first second : ℕ) → IsLegalRun x run → (c : Conflict x run key p first second) → c.first_produces.instance.message ≢ c.second_produces.instance.message
differ never by_positions x run key p first second legal c same =
    let one = c.first_produces in
    let other = c.second_produces in
    never x (take second run) one.instance other.instance p
    (All-take (λ e. Fits x (instance_of e)) second run legal.fits)
    (early_member run first second (Emit one.instance) one.emitted c.in_order)
    (sym same) (other.under ∙ sym one.under) one.adorned
    ((by_positions x run).0 legal.legal second (Emit other.instance) other.emitted)

-- an emission of a message that adorns the parameter `out`
produced : (x : Expanded) (run : List Event) (key : List Value) (p m k : ℕ) (e : IsEmitted run key m) → slice_get run k ≡ Some (Emit e.instance) → Adorns x m Out p → ProducesAt x run key p k
produced x run key p m k e at adorned = record {
  instance = e.instance;
  emitted = at;
  under = e.under;
  adorned = subst (λ n. Adorns x n Out p) (sym e.message_is) adorned;
}

-- two such emissions, of different messages, are in conflict
in_conflict : (x : Expanded) (run : List Event) (key : List Value) (p m n : ℕ) → IsLegalRun x run → m ≢ n → Adorns x m Out p → Adorns x n Out p → IsEmitted run key m → IsEmitted run key n → HasConflictingRun x
in_conflict x run key p m n legal other one_out other_out one two =
    let (i, at_i) = index_of run (Emit one.instance) one.emitted in
    let (j, at_j) = index_of run (Emit two.instance) two.emitted in
    let first = produced x run key p m i one at_i one_out in
    let second = produced x run key p n j two at_j other_out in
    elim (cases_order i j) [
      | inl same ↦
          let events = same_Some (Emit one.instance) (Emit two.instance) (sym at_i ∙ ap (slice_get run) same ∙ at_j) in
          let messages = ap (λ e. (instance_of e).message) events in
          absurd (other (sym one.message_is ∙ messages ∙ two.message_is))
      | inr (inl less) ↦ record { run = run; legal = legal; key = key; param = p; first = i; second = j; conflict = record { in_order = less; first_produces = first; second_produces = second } }
      | inr (inr more) ↦ record { run = run; legal = legal; key = key; param = p; first = j; second = i; conflict = record { in_order = more; first_produces = second; second_produces = first } }
    ]

-- so a conflict is a question
pub conflict_asked : SecondEmissionIsNotEnabled → LegalByPositions → ConflictIsAQuestion
conflict_asked never by_positions x question asked = (
  λ has.
      let c = has.conflict in
      let one = c.first_produces in
      let other = c.second_produces in
      let m = one.instance.message in
      let n = other.instance.message in
      record {
        one = m;
        other = n;
        rivals = record {
          differ = differ never by_positions x has.run has.key has.param has.first has.second has.legal c;
          shares = record { param = has.param; one = one.adorned; other = other.adorned };
        };
        possible = record {
          run = has.run;
          legal = has.legal;
          key = has.key;
          yes = (both_asked x has.run has.key m n (question m n) (asked m n)).1 (emitted_at x has.run has.key has.param has.first one, emitted_at x has.run has.key has.param has.second other);
        };
      },
  λ has.
      let possible = has.possible in
      let shares = has.rivals.shares in
      let (one, other) = (both_asked x possible.run possible.key has.one has.other (question has.one has.other) (asked has.one has.other)).0 possible.yes in
      in_conflict x possible.run possible.key shares.param has.one has.other possible.legal has.rivals.differ shares.one shares.other one other,
)

-- and a protocol is safe exactly if no such question is possible: without a conflict the roles agree
pub safety_asked : ConflictIsAQuestion → NoConflictAgrees → SafetyIsAQuestion
safety_asked exactly agrees x question asked admitted = (
  λ safe m n rivals possible.
      let has = (exactly x question asked).1 (record { one = m; other = n; rivals = rivals; possible = possible }) in
      safe.no_conflict has.run has.legal has.key has.param has.first has.second has.conflict,
  λ none. (
      let no_conflict : (run : List Event) → IsLegalRun x run → HasNoConflict x run = λ run legal key p first second conflict.
      (let has = (exactly x question asked).0 (record { run = run; legal = legal; key = key; param = p; first = first; second = second; conflict = conflict }) in
      none has.one has.other has.rivals has.possible) in
      record { no_conflict = no_conflict; agree = λ run legal. agrees x run admitted legal.legal (no_conflict run legal) }),
)
