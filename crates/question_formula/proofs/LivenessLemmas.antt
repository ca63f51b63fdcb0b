-- A protocol is live exactly if no enactment of it can come to rest with a public parameter unbound.
use Rattle.std.proofs.Common.{◌↔◌, inl, inr, ℕ, ◌<◌, Bool, List, [], length, refl, sym, subst, arith, Contains}
use Rattle.std.proofs.lemmas.Bool.{both_ways, cases_Bool}
use Rattle.std.proofs.lemmas.List.Elements.{All-nil}
use Rattle.list_base.proofs.Members.{nowhere}
use Rattle.list_base.proofs.Membership.{early_index, index_of, member_at}
use Rattle.bspl_types.specs.declared.event.Event.{Event}
use Rattle.bspl_types.specs.declared.event.Event.TheVariants.{Emit, Receive}
use Rattle.bspl_types.specs.declared.event.Instance.{Instance}
use Rattle.bspl_types.specs.declared.expanded.Expanded.{Expanded}
use Rattle.bspl_types.specs.declared.value.Value.{Value}
use Rattle.clause_encoding.specs.Formula.{plain_variables}
use Rattle.enactment_model.specs.Laws.{LegalByPositions}
use Rattle.enactment_model.specs.Legal.{IsLegalRun}
use Rattle.enactment_model.specs.Liveness.{Bound, HasPublicValue, LiveProtocol, Quiet}
use Rattle.first_occurrences.specs.Lacking.{is_bound}
use Rattle.first_occurrences.specs.Laws.{BoundExactlyIfSent}
use Rattle.questions.specs.declared.question.Question.{Question}
use Rattle.questions.specs.declared.question.Question.TheVariants as asks
use Rattle.questions.specs.Answer.{ComesToRest, IsAnsweredYes, IsPossible}
use Rattle.questions.specs.Subject.{IsAbout}
use Rattle.witness_replay.specs.Laws.{RunEmitsOnce, SharedModelHasRun}
use Rattle.witness_replay.specs.Witness.{IsRunOfAssignment, key_of_ones}
use Rattle.question_formula.specs.Laws.{ModelRunAnswersYes, PossibleExactlyIfModel}
use Rattle.question_formula.specs.Liveness.{IsUnboundAtRest, IsUnboundQuestion, LivenessIsAQuestion}
use Rattle.question_formula.proofs.ModelLemmas.{are_plain, shared_satisfied}

-- the enactment comes to rest, and the parameter is unbound
pub record RestsUnbound (x : Expanded) (run : List Event) (key : List Value) (p : ℕ) : Type 0 where
  pub rests : ComesToRest x run key []
  pub unbound : Bound x run key p → ⊥

-- what the question about the unbound parameter asks
unbound_asked : (x : Expanded) (run : List Event) (key : List Value) (p : ℕ) (q : Question) → IsUnboundQuestion p q → IsAnsweredYes x run key q ↔ (Bound x run key p → ⊥)
unbound_asked x run key p (asks.Not' _ q) is = (
  λ yes bound. yes (subst (IsAnsweredYes x run key) (sym is) bound),
  λ unbound yes. unbound (subst (IsAnsweredYes x run key) is yes),
)
unbound_asked x run key p (asks.Happened h) is = absurd is
unbound_asked x run key p (asks.Before one other) is = absurd is
unbound_asked x run key p (asks.Can m) is = absurd is
unbound_asked x run key p (asks.Rest excused) is = absurd is
unbound_asked x run key p (asks.And' _ q _ r) is = absurd is
unbound_asked x run key p (asks.Or' _ q _ r) is = absurd is

-- what the whole question asks
rest_asked : (x : Expanded) (run : List Event) (key : List Value) (p : ℕ) (q : Question) → IsUnboundAtRest p q → IsAnsweredYes x run key q ↔ RestsUnbound x run key p
rest_asked x run key p (asks.And' _ q _ r) is =
    let unbound = unbound_asked x run key p r is.1 in (
      λ yes. record { rests = subst (IsAnsweredYes x run key) is.0 yes.0; unbound = unbound.0 yes.1 },
      λ both. (subst (IsAnsweredYes x run key) (sym is.0) both.rests, unbound.1 both.unbound),
    )
rest_asked x run key p (asks.Happened h) is = absurd is
rest_asked x run key p (asks.Before one other) is = absurd is
rest_asked x run key p (asks.Can m) is = absurd is
rest_asked x run key p (asks.Rest excused) is = absurd is
rest_asked x run key p (asks.Not' _ q) is = absurd is
rest_asked x run key p (asks.Or' _ q _ r) is = absurd is

-- the protocol has what it names
unbound_about : (x : Expanded) (p : ℕ) (q : Question) → p < length x.params → IsUnboundQuestion p q → IsAbout x q
unbound_about x p (asks.Not' _ q) known is = subst (IsAbout x) (sym is) known
unbound_about x p (asks.Happened h) known is = absurd is
unbound_about x p (asks.Before one other) known is = absurd is
unbound_about x p (asks.Can m) known is = absurd is
unbound_about x p (asks.Rest excused) known is = absurd is
unbound_about x p (asks.And' _ q _ r) known is = absurd is
unbound_about x p (asks.Or' _ q _ r) known is = absurd is

rest_about : (x : Expanded) (p : ℕ) (q : Question) → p < length x.params → IsUnboundAtRest p q → IsAbout x q
rest_about x p (asks.And' _ q _ r) known is = (subst (IsAbout x) (sym is.0) (All-nil (λ m. m < length x.messages)), unbound_about x p r known is.1)
rest_about x p (asks.Happened h) known is = absurd is
rest_about x p (asks.Before one other) known is = absurd is
rest_about x p (asks.Can m) known is = absurd is
rest_about x p (asks.Rest excused) known is = absurd is
rest_about x p (asks.Not' _ q) known is = absurd is
rest_about x p (asks.Or' _ q _ r) known is = absurd is

-- a quiet enactment has come to rest
rests_if_quiet : (x : Expanded) (run : List Event) (key : List Value) → Quiet x run key → ComesToRest x run key []
rests_if_quiet x run key quiet = record {
  arrived = λ m emitted. record { instance = emitted.instance; received = quiet.received emitted.instance emitted.under emitted.emitted; under = emitted.under; message_is = emitted.message_is };
  exhausted = λ m counts unsent can. quiet.exhausted m unsent can;
}

-- what is received in a legal run was emitted
emitted_too : LegalByPositions → (x : Expanded) (run : List Event) (i : Instance) → IsLegalRun x run → Contains run (Receive i) → Contains run (Emit i)
emitted_too by_positions x run i is_legal among =
    let (position, at) = index_of run (Receive i) among in
    let (index, before, is) = early_index run position (Emit i) ((by_positions x run).0 is_legal.legal position (Receive i) at) in
    member_at run index (Emit i) is

-- so the run of an assignment that comes to rest is quiet, since it has one instance of each message
quiet_if_rests : LegalByPositions → RunEmitsOnce → (x : Expanded) (v : ℕ → Bool) (run : List Event) (key : List Value) → IsRunOfAssignment x (plain_variables x) v run → IsLegalRun x run → ComesToRest x run key [] → Quiet x run key
quiet_if_rests by_positions once x v run key run_of is_legal rests = record {
  received = λ i under emitted.
      let arrived = rests.arrived i.message (record { instance = i; emitted = emitted; under = under; message_is = refl }) in
      let same = once x (plain_variables x) v run arrived.instance i run_of (emitted_too by_positions x run arrived.instance is_legal arrived.received) emitted arrived.message_is in
      subst (λ (j : Instance). Contains run (Receive j)) same arrived.received;
  exhausted = λ m unsent can. rests.exhausted m (λ among. nowhere m among) unsent can;
}

-- the question of a public parameter is not possible of a live protocol
impossible_if_live : LegalByPositions → RunEmitsOnce → SharedModelHasRun → ModelRunAnswersYes → PossibleExactlyIfModel → (x : Expanded) (p : ℕ) (q : Question) → IsUnboundAtRest p q → LiveProtocol x → HasPublicValue x p → IsPossible x q → ⊥
impossible_if_live by_positions once has_run answers exactly x p q is live public possible =
    let within = x.shape.declared.within in
    let below = public.public in
    let about = rest_about x p q (omega (arith, within, below)) is in
    let model = (exactly x q about).0 possible in
    let found = has_run x (plain_variables x) model.assignment (are_plain x) (shared_satisfied x q model.assignment model.satisfied) in
    let answered = answers x q model.assignment found.run about model.satisfied found.run_of in
    let rests = (rest_asked x found.run (key_of_ones x) p q is).0 answered.yes in
    let quiet = quiet_if_rests by_positions once x model.assignment found.run (key_of_ones x) found.run_of found.legal rests.rests in
    rests.unbound (live.bound found.run (key_of_ones x) found.legal quiet p public)

-- and a protocol of which none is possible is live
live_if_impossible : BoundExactlyIfSent → (x : Expanded) (question : ℕ → Question) → ((p : ℕ) → IsUnboundAtRest p (question p)) → ((p : ℕ) → HasPublicValue x p → IsPossible x (question p) → ⊥) → LiveProtocol x
live_if_impossible bound x question is none = record {
  bound = λ run key is_legal quiet p public. elim (cases_Bool (is_bound x run key p)) as (λ _. Bound x run key p) [
    | inl sent ↦ (bound x run key p is_legal).1 sent
    | inr never ↦
        let rests : RestsUnbound x run key p = record { rests = rests_if_quiet x run key quiet; unbound = λ is_bound. both_ways _ never ((bound x run key p is_legal).0 is_bound) } in
        absurd (none p public (record { run = run; legal = is_legal; key = key; yes = (rest_asked x run key p (question p) (is p)).1 rests }))
  ];
}

-- so the one holds exactly if the other does
pub liveness_is_a_question : LegalByPositions → RunEmitsOnce → SharedModelHasRun → ModelRunAnswersYes → PossibleExactlyIfModel → BoundExactlyIfSent → LivenessIsAQuestion
liveness_is_a_question by_positions once has_run answers exactly bound x question is = (
  λ live p public. impossible_if_live by_positions once has_run answers exactly x p (question p) (is p) live public,
  live_if_impossible bound x question is,
)
