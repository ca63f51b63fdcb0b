-- An enactment is at rest if each of its messages is; a number that no message has is neither sent nor can be.
use Rattle.std.proofs.Common.{ℕ, ◌<◌, ◌≤◌, List, length, subst, arith}
use Rattle.bspl_types.specs.declared.event.Event.{Event}
use Rattle.bspl_types.specs.declared.event.Event.TheVariants.{Emit}
use Rattle.bspl_types.specs.declared.expanded.Expanded.{Expanded}
use Rattle.bspl_types.specs.declared.value.Value.{Value}
use Rattle.bspl_types.specs.History.{IsRun, instance_of}
use Rattle.bspl_types.specs.Instance.{Fits}
use Rattle.enactment_model.specs.Liveness.{IsEmitted}
use Rattle.questions.specs.Answer.{ComesToRest}
use Rattle.questions.specs.inner.Moment.{IsAtRest}

-- a message that was sent is one of the protocol's
exists : (x : Expanded) (run : List Event) (key : List Value) (m : ℕ) → IsRun x run → IsEmitted run key m → m < length x.messages
exists x run key m fits sent =
    let (k, within, is) = sent.emitted in
    let fitting = subst (λ (e : Event). Fits x (instance_of e)) is (fits k (Emit sent.instance) within) in
    subst (λ (n : ℕ). n < length x.messages) sent.message_is fitting.known

-- each message of the protocol is at rest
pub comes_to_rest : (x : Expanded) (run : List Event) (key : List Value) (excused : List ℕ) (n : ℕ) → IsRun x run → length x.messages ≤ n → ((m : ℕ) → m < n → IsAtRest x run key excused m) → ComesToRest x run key excused
comes_to_rest x run key excused n fits all each = record {
  arrived = λ m sent. (each m (omega (arith, all, exists x run key m fits sent))).arrived sent;
  exhausted = λ m none unsent can. (each m (omega (arith, all, can.known))).exhausted none unsent can;
}
