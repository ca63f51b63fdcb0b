-- The order of instances and of events, and that it is total.
use Rattle.std.proofs.Common.{◌≡◌, refl}
use Rattle.std.specs.Cmp.{IsTotalOrder}
use Rattle.std.specs.Prelude.{◌↔◌, IsTrue}
use Rattle.std.specs.Ordering.{is_eq, nat_cmp, ordering_reverse, ordering_then}
use Rattle.std.specs.declared.cmp.Ordering.{Ordering}
use Rattle.std.specs.declared.cmp.Ordering.TheVariants.{Less, Equal, Greater}
use Rattle.std.proofs.lemmas.Cmp.{nat_cmp_total, on_total, then_total}
use Rattle.bspl_types.specs.declared.event.Event.{Event}
use Rattle.bspl_types.specs.declared.event.Event.TheVariants.{Emit, Receive}
use Rattle.bspl_types.specs.declared.event.Instance.{Instance}
use Rattle.key_table.specs.KeyOrder.{key_cmp, key_cmp_total}

-- instances go by their messages, then by their keys, and then by their values
abbrev pub instance_cmp : Instance → Instance → Ordering
instance_cmp i j =
    ordering_then (nat_cmp i.message j.message)
    (ordering_then (key_cmp i.key j.key) (key_cmp i.values j.values))

-- emissions come before receptions; both go by their instances
abbrev pub event_cmp : Event → Event → Ordering
event_cmp (Emit i) (Emit j) = instance_cmp i j
event_cmp (Emit i) (Receive j) = Less
event_cmp (Receive i) (Emit j) = Greater
event_cmp (Receive i) (Receive j) = instance_cmp i j

-- events that are equal by their order are one event
abbrev pub TiedEventsAreOne : Type 0
TiedEventsAreOne = (e f : Event) → IsTrue (is_eq (event_cmp e f)) ↔ (e ≡ f)

instance_cmp_total : IsTotalOrder instance_cmp
instance_cmp_total =
    then_total (on_total (λ (i : Instance). i.message) nat_cmp_total)
    (then_total (on_total (λ (i : Instance). i.key) key_cmp_total)
    (on_total (λ (i : Instance). i.values) key_cmp_total))

event_turned : (e f : Event) → event_cmp e f ≡ ordering_reverse (event_cmp f e)
event_turned (Emit i) (Emit j) = instance_cmp_total.antisymm i j
event_turned (Emit i) (Receive j) = refl
event_turned (Receive i) (Emit j) = refl
event_turned (Receive i) (Receive j) = instance_cmp_total.antisymm i j

event_trans : (e f g : Event) → event_cmp e f ≡ Less → event_cmp f g ≡ Less
    → event_cmp e g ≡ Less
event_trans (Emit i) (Emit j) (Emit k) p q = instance_cmp_total.trans i j k p q
event_trans (Emit i) (Emit j) (Receive k) p q = refl
event_trans (Emit i) (Receive j) (Emit k) p q = absurd (cc)
event_trans (Emit i) (Receive j) (Receive k) p q = refl
event_trans (Receive i) (Emit j) g p q = absurd (cc)
event_trans (Receive i) (Receive j) (Emit k) p q = absurd (cc)
event_trans (Receive i) (Receive j) (Receive k) p q = instance_cmp_total.trans i j k p q

event_congr : (e f g : Event) → event_cmp e f ≡ Equal → event_cmp e g ≡ event_cmp f g
event_congr (Emit i) (Emit j) (Emit k) p = instance_cmp_total.congr i j k p
event_congr (Emit i) (Emit j) (Receive k) p = refl
event_congr (Emit i) (Receive j) g p = absurd (cc)
event_congr (Receive i) (Emit j) g p = absurd (cc)
event_congr (Receive i) (Receive j) (Emit k) p = refl
event_congr (Receive i) (Receive j) (Receive k) p = instance_cmp_total.congr i j k p

pub event_cmp_total : IsTotalOrder event_cmp
event_cmp_total = record { antisymm = event_turned; trans = event_trans; congr = event_congr }
