-- How an enactment is left depends on its own events alone.
use Rattle.std.proofs.Common.{ℕ, ◌<◌, ◌≤◌, Bool, true, false, List, length, Option, None, Some, inl, inr, refl, arith}
use Rattle.std.specs.Prelude.{IfSome, MatchBool}
use Rattle.std.proofs.lemmas.List.Elements.{All-contains}
use Rattle.bspl_types.specs.declared.event.Event.{Event}
use Rattle.bspl_types.specs.declared.event.Event.TheVariants.{Emit}
use Rattle.bspl_types.specs.declared.expanded.Expanded.{Expanded}
use Rattle.bspl_types.specs.declared.value.Value.{Value}
use Rattle.bspl_types.specs.Expansion.{message_of}
use Rattle.bspl_types.specs.History.{instance_of, IsRun}
use Rattle.bspl_types.specs.Instance.{Fits}
use Rattle.enactment_model.specs.FirstLoose.{IsLoose, IsStillEnabled, IsUnreceived}
use Rattle.enactment_model.specs.FirstUnbound.{BindsPublic, IsFirstUnbound}
use Rattle.enactment_model.specs.Liveness.{Bound, IsEmitted, Quiet}
use Rattle.enactment_model.specs.inner.Rest.{IsAtRest}
use Rattle.run_index.specs.inner.Enactment.{HasEventsUnder}
use Rattle.run_index.specs.inner.Waiting.{HasAllReceived, HasUnreceived, IsExhausted}
use Rattle.run_index.proofs.PartLemmas.{AgreeUnder, can_from, flipped, known_from, part_agrees}

-- what is said of a value is weakened
pub if_some_weaker : {X : Type 0} (o : Option X) (P Q : X → Type 0) → ((v : X) → P v → Q v) → IfSome o P → IfSome o Q
if_some_weaker None P Q weaker holds = tt
if_some_weaker (Some v) P Q weaker holds = weaker v holds

-- what is emitted in one is emitted in the other
emitted_from : (key : List Value) (events others : List Event) → AgreeUnder key events others → (m : ℕ) → IsEmitted events key m → IsEmitted others key m
emitted_from key events others agree m emitted =
    record {
      instance = emitted.instance;
      emitted = agree.to (Emit emitted.instance) emitted.under emitted.emitted;
      under = emitted.under;
      message_is = emitted.message_is;
    }

-- what both answers of a test say is weakened
pub match_weaker : (b : Bool) (P Q R S : Type 0) → (P → R) → (Q → S) → MatchBool b P Q → MatchBool b R S
match_weaker true P Q R S if_true if_false is = if_true is
match_weaker false P Q R S if_true if_false is = if_false is

-- a message that may be emitted after the events under the key may be after the run
pub still_from : (x : Expanded) (run : List Event) (key : List Value) (m : ℕ) (events : List Event) → HasEventsUnder run key events → IsStillEnabled x events key m → IsStillEnabled x run key m
still_from x run key m events part still =
    let agree = part_agrees run key events part in
    record {
      unemitted = λ emitted. still.unemitted (emitted_from key run events (flipped key events run agree) m emitted);
      can = can_from x key events run agree (message_of x m).sender m still.can;
    }

-- what is not received among the events is not received in the run
pub unreceived_from : (run : List Event) (key : List Value) (m : ℕ) (events : List Event) → HasEventsUnder run key events → HasUnreceived run key m events → IsUnreceived run key m
unreceived_from run key m events part lost =
    record {
      instance = lost.instance;
      emitted = ((part.members (Emit lost.instance)).0 lost.emitted).0;
      under = lost.under;
      message_is = lost.message_is;
      unreceived = lost.unreceived;
    }

-- a message of which all is received is at rest if it was emitted or cannot be
pub rest_from : (x : Expanded) (run : List Event) (key : List Value) (m : ℕ) (events : List Event) → HasEventsUnder run key events → HasAllReceived run key m events → IsExhausted x events key m → IsAtRest x run key m
rest_from x run key m events part received exhausted =
    let back = flipped key events run (part_agrees run key events part) in
    record {
      received = record { received = λ i message under emitted. received i message under ((part.members (Emit i)).1 (emitted, under)) };
      exhausted = λ unemitted can. exhausted
          (λ emitted. unemitted (emitted_from key events run (part_agrees run key events part) m emitted))
          (can_from x key run events back (message_of x m).sender m can);
    }

-- a message at rest is not loose
pub rest_not_loose : (x : Expanded) (run : List Event) (key : List Value) (m : ℕ) → IsAtRest x run key m → ¬ IsLoose x run key m
rest_not_loose x run key m rest (inl lost) = lost.unreceived (rest.received.received lost.instance lost.message_is lost.under lost.emitted)
rest_not_loose x run key m rest (inr enabled) = rest.exhausted enabled.unemitted enabled.can

-- if all messages are at rest, the run is quiet
pub quiet_from_rest : (x : Expanded) (run : List Event) (key : List Value) (n : ℕ) → IsRun x run → length x.messages ≤ n → ((m : ℕ) → m < n → IsAtRest x run key m) → Quiet x run key
quiet_from_rest x run key n is_run all rest =
    record {
      received = λ i under emitted.
          let fits = All-contains (λ e. Fits x (instance_of e)) run (Emit i) is_run emitted in
          (rest i.message (omega (arith, fits.known))).received.received i refl under emitted;
      exhausted = λ m unemitted can. (rest m (omega (arith, can.known))).exhausted unemitted can;
    }

-- a parameter is bound in both, or in neither
bound_from : (x : Expanded) (key : List Value) (events others : List Event) → AgreeUnder key events others → (p : ℕ) → Bound x events key p → Bound x others key p
bound_from x key events others agree p bound =
    record { role = bound.role; known = known_from x key events others agree bound.role p bound.known }

-- what is public is bound in both, or in neither
pub complete_from : (x : Expanded) (key : List Value) (events others : List Event) → AgreeUnder key events others → BindsPublic x events key → BindsPublic x others key
complete_from x key events others agree complete p public = bound_from x key events others agree p (complete p public)

-- the first unbound parameter is one for both
pub first_unbound_from : (x : Expanded) (key : List Value) (events others : List Event) → AgreeUnder key events others → (p : ℕ) → IsFirstUnbound x events key p → IsFirstUnbound x others key p
first_unbound_from x key events others agree p first =
    record {
      public = first.public;
      unbound = λ bound. first.unbound (bound_from x key others events (flipped key events others agree) p bound);
      first = λ q below public. bound_from x key events others agree q (first.first q below public);
    }
