-- A run is quiet at a key exactly if no message is loose.
use Rattle.std.proofs.Common.{ℕ, ◌<◌, ◌≤◌, List, length, inl, inr, refl, arith}
use Rattle.std.proofs.lemmas.List.Elements.{All-contains}
use Rattle.bspl_types.specs.declared.event.Event.{Event}
use Rattle.bspl_types.specs.declared.event.Event.TheVariants.{Emit}
use Rattle.bspl_types.specs.declared.expanded.Expanded.{Expanded}
use Rattle.bspl_types.specs.declared.value.Value.{Value}
use Rattle.bspl_types.specs.History.{instance_of, IsRun}
use Rattle.bspl_types.specs.Instance.{Fits}
use Rattle.enactment_model.specs.FirstLoose.{IsLoose}
use Rattle.enactment_model.specs.Liveness.{Quiet}
use Rattle.enactment_model.specs.inner.Rest.{IsAtRest}

-- a message at rest is not loose
pub rest_not_loose : (x : Expanded) (run : List Event) (key : List Value) (m : ℕ) → IsAtRest x run key m → ¬ IsLoose x run key m
rest_not_loose x run key m rest (inl lost) = lost.unreceived (rest.received.received lost.instance lost.message_is lost.under lost.emitted)
rest_not_loose x run key m rest (inr enabled) = rest.exhausted enabled.unemitted enabled.can

-- if all messages are at rest, the run is quiet
pub quiet_from_rest : (x : Expanded) (run : List Event) (key : List Value) (n : ℕ) → IsRun x run → length x.messages ≤ n → ((m : ℕ) → m < n → IsAtRest x run key m) → Quiet x run key
quiet_from_rest x run key n is_run all rest =
    record {
      received = λ i under emitted.
          let fits = All-contains (λ e. Fits x (instance_of e)) run (Emit i) is_run emitted in
          (rest i.message (omega (arith, fits.known))).received.received i refl under emitted;
      exhausted = λ m unemitted can. (rest m (omega (arith, can.known))).exhausted unemitted can;
    }
