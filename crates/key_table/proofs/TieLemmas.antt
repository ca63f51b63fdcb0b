-- What ties by an order is one: values, keys, instances and events.
use Rattle.std.proofs.Common.{◌≡◌, true, [], ◌∷◌, refl, sym, ap, ap₂, ◌∙◌}
use Rattle.std.specs.Ordering.{is_eq, nat_cmp, ordering_then}
use Rattle.std.specs.declared.cmp.Ordering.{Ordering}
use Rattle.std.specs.declared.cmp.Ordering.TheVariants.{Less, Equal, Greater}
use Rattle.std.proofs.lemmas.Bool.{true≢false}
use Rattle.std.proofs.lemmas.Cmp.{tied_itself}
use Rattle.std.proofs.lemmas.Map.Lookups.{CmpEqualImpliesEq, exact_bytes, exact_unsigned}
use Rattle.bspl_types.specs.declared.event.Event.TheVariants.{Emit, Receive}
use Rattle.bspl_types.specs.declared.value.Value.TheVariants.{Number, Text}
use Rattle.key_table.specs.EventOrder.{TiedEventsAreOne, event_cmp, event_cmp_total, instance_cmp}
use Rattle.key_table.specs.KeyOrder.{TiedKeysAreOne, key_cmp, key_cmp_total, value_cmp}

-- values that tie are one value
exact_values : CmpEqualImpliesEq value_cmp
exact_values (Number a) (Number b) tie = ap Number (exact_unsigned a b tie)
exact_values (Number a) (Text b) tie = absurd (cc)
exact_values (Text a) (Number b) tie = absurd (cc)
exact_values (Text a) (Text b) tie = ap Text (exact_bytes a b tie)

-- of two answers in turn that tie each ties
first_ties : (o p : Ordering) → ordering_then o p ≡ Equal → o ≡ Equal
first_ties Less p tie = tie
first_ties Equal p tie = refl
first_ties Greater p tie = tie

then_ties : (o p : Ordering) → o ≡ Equal → ordering_then o p ≡ Equal → p ≡ Equal
then_ties o p is tie = sym (ap (λ first. ordering_then first p) is) ∙ tie

-- keys that tie are one key
exact_keys : CmpEqualImpliesEq key_cmp
exact_keys [] [] tie = refl
exact_keys [] (w ∷ ws) tie = absurd (cc)
exact_keys (v ∷ vs) [] tie = absurd (cc)
exact_keys (v ∷ vs) (w ∷ ws) tie =
    let first = first_ties (value_cmp v w) (key_cmp vs ws) tie in
    ap₂ (λ x xs. x ∷ xs) (exact_values v w first) (exact_keys vs ws (then_ties (value_cmp v w) (key_cmp vs ws) first tie))

-- an answer that passes the test is a tie
tie_is : (o : Ordering) → is_eq o ≡ true → o ≡ Equal
tie_is Less is = absurd (true≢false (sym is))
tie_is Equal is = refl
tie_is Greater is = absurd (true≢false (sym is))

-- a key is equal to itself, and to no other
pub tied_is_one : TiedKeysAreOne
tied_is_one k l = (
  λ tie. exact_keys k l (tie_is (key_cmp k l) tie),
  λ one. ap is_eq (sym (ap (key_cmp k) one) ∙ tied_itself key_cmp_total k),
)

-- instances that tie are one instance
exact_instances : CmpEqualImpliesEq instance_cmp
exact_instances i j tie =
    let by_message = nat_cmp i.message j.message in
    let by_key = key_cmp i.key j.key in
    let by_values = key_cmp i.values j.values in
    let first = first_ties by_message (ordering_then by_key by_values) tie in
    let rest = then_ties by_message (ordering_then by_key by_values) first tie in
    let second = first_ties by_key by_values rest in
    let message = exact_unsigned i.message j.message first in
    let key = exact_keys i.key j.key second in
    let values = exact_keys i.values j.values (then_ties by_key by_values second rest) in
    λ t. record { message = message t; key = key t; values = values t }

-- events that tie are one event
exact_events : CmpEqualImpliesEq event_cmp
exact_events (Emit i) (Emit j) tie = ap Emit (exact_instances i j tie)
exact_events (Emit i) (Receive j) tie = absurd (cc)
exact_events (Receive i) (Emit j) tie = absurd (cc)
exact_events (Receive i) (Receive j) tie = ap Receive (exact_instances i j tie)

-- an event is equal to itself, and to no other
pub tied_event_is_one : TiedEventsAreOne
tied_event_is_one e f = (
  λ tie. exact_events e f (tie_is (event_cmp e f) tie),
  λ one. ap is_eq (sym (ap (event_cmp e) one) ∙ tied_itself event_cmp_total e),
)
