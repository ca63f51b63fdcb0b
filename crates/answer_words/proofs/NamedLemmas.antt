-- What a right verdict names is there.
use Rattle.std.proofs.Common.{◌≡◌, ℕ, ◌+◌, ◌-◌, ◌≤◌, ◌<◌, List, Some, length, refl, sym, ap, subst, arith, take}
use Rattle.std.specs.Prelude.{◌==◌, slice_get}
use Rattle.std.proofs.lemmas.Bool.{eq-eqb}
use Rattle.std.proofs.lemmas.Option.{slice_get_within}
use Rattle.list_base.proofs.Filtered.{kept_member}
use Rattle.bspl_types.specs.declared.event.Event.{Event}
use Rattle.bspl_types.specs.declared.event.Event.TheVariants.{Emit}
use Rattle.bspl_types.specs.declared.event.Instance.{Instance}
use Rattle.bspl_types.specs.declared.expanded.Expanded.{Expanded}
use Rattle.bspl_types.specs.declared.protocol.Adornment.TheVariants.{Out}
use Rattle.bspl_types.specs.declared.protocol.Message.{Message}
use Rattle.bspl_types.specs.declared.value.Value.{Value}
use Rattle.bspl_types.specs.Adornment.{Binds}
use Rattle.bspl_types.specs.Expansion.{Adorns, IsAdorned, message_of}
use Rattle.bspl_types.specs.History.{history_of, role_of, sender_history}
use Rattle.bspl_types.specs.Knowledge.{CanEmit, IsKnown}
use Rattle.enactment_model.specs.Laws.{HistoryIsRun, KnownExactlyIfSomeEventBinds, LegalByPositions}
use Rattle.enactment_model.specs.Safety.{Conflict, ProducesAt}
use Rattle.verdict.specs.declared.outcome.Liveness.{Liveness}
use Rattle.verdict.specs.declared.outcome.Liveness.TheVariants.{NotLive}
use Rattle.verdict.specs.declared.outcome.Safety.{Safety}
use Rattle.verdict.specs.declared.outcome.Safety.TheVariants.{Unsafe}
use Rattle.verdict.specs.Right.{IsRight, IsUnsafeVerdict}
use Rattle.verdict.specs.RightLiveness.{IsNotLiveVerdict, IsRightLiveness}
use Rattle.witness_replay.specs.Witness.{key_of_ones}
use Rattle.answer_words.specs.Laws.{Clash}
use Rattle.answer_words.specs.Messages.{event_message, nth_message}

-- a number from 1, and the position from 0
position_of : (n position : ℕ) → n ≡ position + 1 → position ≡ n - 1
position_of n position is = omega arith

-- the message of an emission at a position
pub emitted_message : (x : Expanded) (run : List Event) (n position : ℕ) (i : Instance) → n ≡ position + 1 → slice_get run position ≡ Some (Emit i) → message_of x i.message ≡ nth_message x run n
emitted_message x run n position i is at =
    subst (λ (k : ℕ). message_of x i.message ≡ event_message x (slice_get run k)) (position_of n position is) (sym (ap (event_message x) at))

-- an emission that produces the parameter has a message that does
adorned_message : (x : Expanded) (run : List Event) (key : List Value) (p n position : ℕ) → n ≡ position + 1 → ProducesAt x run key p position → IsAdorned (nth_message x run n) Out p
adorned_message x run key p n position is produces =
    subst (λ (m : Message). IsAdorned m Out p) (emitted_message x run n position produces.instance is produces.emitted) produces.adorned

-- the sender of the second producer does not know the parameter before it
unknown_before : LegalByPositions → (x : Expanded) (run : List Event) (p first second : ℕ) → (right : IsUnsafeVerdict x run p first second) → ¬ IsKnown x (history_of x (nth_message x run second).sender (take (second - 1) run)) right.least.key p
unknown_before by_positions x run p first second right =
    let least = right.least in
    let other = least.conflict.second_produces in
    let follows = (by_positions x run).0 right.legal.legal least.second (Emit other.instance) other.emitted in
    let unknown = follows.can.outs p other.adorned in
    subst (λ (k : ℕ). ¬ IsKnown x (history_of x (nth_message x run second).sender (take k run)) least.key p) (position_of second least.second least.second_is)
    (subst (λ (m : Message). ¬ IsKnown x (history_of x m.sender (take least.second run)) least.key p) (emitted_message x run second least.second other.instance least.second_is other.emitted)
    (subst (λ (key : List Value). ¬ IsKnown x (history_of x (message_of x other.instance.message).sender (take least.second run)) key p) other.under unknown))

-- the events of a right verdict clash
pub clash : LegalByPositions → (x : Expanded) (run : List Event) (p first second : ℕ) → IsUnsafeVerdict x run p first second → Clash x run p first second
clash by_positions x run p first second right =
    let least = right.least in
    let conflict = least.conflict in
    record {
      key = least.key;
      conflict =
          subst (λ (k : ℕ). Conflict x run least.key p k (second - 1)) (position_of first least.first least.first_is)
          (subst (λ (k : ℕ). Conflict x run least.key p least.first k) (position_of second least.second least.second_is) conflict);
      one = adorned_message x run least.key p first least.first least.first_is conflict.first_produces;
      other = adorned_message x run least.key p second least.second least.second_is conflict.second_produces;
      unknown = unknown_before by_positions x run p first second right;
    }

-- both numbers are those of events
pub second_within : (x : Expanded) (run : List Event) (p first second : ℕ) → IsUnsafeVerdict x run p first second → (1 ≤ second) × (second ≤ length run)
second_within x run p first second right =
    let least = right.least in
    let is : second ≡ least.second + 1 = least.second_is in
    let last : second ≡ length run = right.last in
    (omega arith, omega arith)

pub first_within : (x : Expanded) (run : List Event) (p first second : ℕ) → IsUnsafeVerdict x run p first second → (1 ≤ first) × (first ≤ length run)
first_within x run p first second right =
    let least = right.least in
    let one = least.conflict.first_produces in
    let is : first ≡ least.first + 1 = least.first_is in
    let within : least.first < length run = slice_get_within run least.first (Emit one.instance) one.emitted in
    (omega arith, omega arith)

-- the evidence of a verdict that refutes
pub unsafe_of : (x : Expanded) (run : List Event) (p first second budget : ℕ) (found : Safety) → found ≡ Unsafe run p first second → IsRight x budget found → IsUnsafeVerdict x run p first second
unsafe_of x run p first second budget found is right = rw is at right

pub not_live_of : (x : Expanded) (run : List Event) (p budget : ℕ) (found : Liveness) → found ≡ NotLive run p → IsRightLiveness x budget found → IsNotLiveVerdict x run p
not_live_of x run p budget found is right = rw is at right

-- a message that produces the parameter binds it
binds_out : (x : Expanded) (m p : ℕ) → Adorns x m Out p → Binds (message_of x m).carried p
binds_out x m p (k, within, is) = record { among = (k, record { param = p; adornment = Out }, within, is, (refl, refl)) }

-- after the run of a right verdict such a message is not sent, and cannot be
pub blocked : KnownExactlyIfSomeEventBinds → HistoryIsRun → (x : Expanded) (run : List Event) (p : ℕ) → IsNotLiveVerdict x run p → (m : ℕ) → Adorns x m Out p → ¬ CanEmit x (sender_history x run m) m (key_of_ones x)
blocked known history x run p right m adorned can =
    right.quiet.exhausted m
    (λ sent.
    let i = sent.instance in
    let sender = (message_of x i.message).sender in
    let adorns : Adorns x i.message Out p = subst (λ (n : ℕ). Adorns x n Out p) (sym sent.message_is) adorned in
    right.first.unbound (record {
      role = sender;
      known = (known x (history_of x sender run) (key_of_ones x) p (history x run sender right.legal.fits)).1
          (record { event = Emit i; among = kept_member (λ e. role_of x e == sender) run (Emit i) (eq-eqb sender sender refl) sent.emitted; under = sent.under; binds = binds_out x i.message p adorns });
    }))
    can
