-- What the facts of some events say of knowledge and of emissions.
use Rattle.std.proofs.Common.{◌≡◌, ℕ, List, [], ◌∷◌, get_or, length, inl, inr, refl, ap, subst, arith}
use Rattle.std.specs.Prelude.{◌==◌}
use Rattle.std.specs.BTreeSet.{BTreeSet}
use Rattle.std.specs.List.{Contains}
use Rattle.std.proofs.lemmas.Bool.Decides.{Decides-eqb}
use Rattle.list_base.proofs.Filtered.{filtered_member, kept_member}
use Rattle.list_base.proofs.Members.{cons_cases, here_same, nowhere, there}
use Rattle.bspl_types.specs.declared.event.Event.{Event}
use Rattle.bspl_types.specs.declared.event.Event.TheVariants.{Emit, Receive}
use Rattle.bspl_types.specs.declared.expanded.Expanded.{Expanded}
use Rattle.bspl_types.specs.declared.protocol.Adornment.{Adornment}
use Rattle.bspl_types.specs.declared.protocol.Carried.{Carried}
use Rattle.bspl_types.specs.declared.value.Value.{Value}
use Rattle.bspl_types.specs.declared.value.Value.TheVariants.{Number, Text}
use Rattle.bspl_types.specs.History.{history_of, instance_of, role_of}
use Rattle.bspl_types.specs.Instance.{pairs}
use Rattle.bspl_types.specs.Knowledge.{IsKnown, Knows}
use Rattle.enactment_model.specs.Liveness.{IsEmitted}
use Rattle.run_index.specs.inner.Facts.{AreFacts, HasFact, IsFactOf, IsFactOfPairs}
use Rattle.run_index.specs.inner.Facts.{message_fact, param_fact, value_fact}

-- the number that a value is
number_of : Value → ℕ
number_of (Number n) = n
number_of (Text t) = 0

-- the number at an index of a fact
number_at : ℕ → List Value → ℕ
number_at k fact = number_of (get_or fact k (Number 0))

-- the pairs have the parameter, with the value or with some value
record HasPair (all : List (Carried × Value)) (p : ℕ) (v : Value) : Type 0 where
  adornment : Adornment
  among : Contains all (record { param = p; adornment = adornment }, v)

-- one more pair in front
pair_there : (pair : Carried × Value) (all : List (Carried × Value)) (p : ℕ) (v : Value) → HasPair all p v → HasPair (pair ∷ all) p v
pair_there pair all p v has = record { adornment = has.adornment; among = there pair all _ has.among }

-- the first pair
pair_here : (pair : Carried × Value) (all : List (Carried × Value)) (p : ℕ) (v : Value) → pair.0.param ≡ p → pair.1 ≡ v → HasPair (pair ∷ all) p v
pair_here pair all p v is_param is_value =
    record {
      adornment = pair.0.adornment;
      among = here_same pair all (record { param = p; adornment = pair.0.adornment }, v) (λ t. (record { param = is_param t; adornment = pair.0.adornment }, is_value t));
    }

-- a value that is a fact of pairs is that of a pair, and the role's
value_from_pairs : (role other p : ℕ) (v : Value) (all : List (Carried × Value)) → IsFactOfPairs role all (value_fact other p v) → (role ≡ other) × HasPair all p v
unfolding number_at number_of
value_from_pairs role other p v [] none = absurd none
value_from_pairs role other p v (pair ∷ all) (inl same) = absurd (let short : 2 ≡ 3 = ap length same in omega (arith, short))
value_from_pairs role other p v (pair ∷ all) (inr (inl same)) = (
  ap (number_at 0) same,
  pair_here pair all p v (ap (number_at 1) same) (ap (λ fact. get_or fact 2 (Number 0)) same),
)
value_from_pairs role other p v (pair ∷ all) (inr (inr rest)) =
    let (own, has) = value_from_pairs role other p v all rest in (own, pair_there pair all p v has)

-- a parameter that is one is that of a pair, with some value
param_from_pairs : (role other p : ℕ) (all : List (Carried × Value)) → IsFactOfPairs role all (param_fact other p) → (role ≡ other) × ((v : Value) × HasPair all p v)
unfolding number_at number_of
param_from_pairs role other p [] none = absurd none
param_from_pairs role other p (pair ∷ all) (inl same) = (ap (number_at 0) same, (pair.1, pair_here pair all p pair.1 (ap (number_at 1) same) refl))
param_from_pairs role other p (pair ∷ all) (inr (inl same)) = absurd (let long : 3 ≡ 2 = ap length same in omega (arith, long))
param_from_pairs role other p (pair ∷ all) (inr (inr rest)) =
    let (own, (v, has)) = param_from_pairs role other p all rest in (own, (v, pair_there pair all p v has))

-- a message is none
no_message_from_pairs : (role m : ℕ) (all : List (Carried × Value)) → IsFactOfPairs role all (message_fact m) → ⊥
no_message_from_pairs role m [] none = none
no_message_from_pairs role m (pair ∷ all) (inl same) = absurd (let long : 2 ≡ 1 = ap length same in omega (arith, long))
no_message_from_pairs role m (pair ∷ all) (inr (inl same)) = absurd (let long : 3 ≡ 1 = ap length same in omega (arith, long))
no_message_from_pairs role m (pair ∷ all) (inr (inr rest)) = no_message_from_pairs role m all rest

-- the value and the parameter of a pair are facts
pair_to_value : (role : ℕ) (c : Carried) (v : Value) (all : List (Carried × Value)) → Contains all (c, v) → IsFactOfPairs role all (value_fact role c.param v)
pair_to_value role c v [] among = absurd (nowhere (c, v) among)
pair_to_value role c v (pair ∷ all) among = elim (cons_cases pair all (c, v) among) [
  | inl is ↦ inr (inl (λ t. value_fact role (is t).0.param (is t).1))
  | inr rest ↦ inr (inr (pair_to_value role c v all rest))
]

pair_to_param : (role : ℕ) (c : Carried) (v : Value) (all : List (Carried × Value)) → Contains all (c, v) → IsFactOfPairs role all (param_fact role c.param)
pair_to_param role c v [] among = absurd (nowhere (c, v) among)
pair_to_param role c v (pair ∷ all) among = elim (cons_cases pair all (c, v) among) [
  | inl is ↦ inl (λ t. param_fact role (is t).0.param)
  | inr rest ↦ inr (inr (pair_to_param role c v all rest))
]

-- no emission is a fact of two or three values
value_of_event : (x : Expanded) (e : Event) (role p : ℕ) (v : Value) → IsFactOf x e (value_fact role p v) → IsFactOfPairs (role_of x e) (pairs x (instance_of e)) (value_fact role p v)
value_of_event x (Emit i) role p v (inl same) = absurd (let short : 1 ≡ 3 = ap length same in omega (arith, short))
value_of_event x (Receive i) role p v (inl none) = absurd none
value_of_event x e role p v (inr told) = told

param_of_event : (x : Expanded) (e : Event) (role p : ℕ) → IsFactOf x e (param_fact role p) → IsFactOfPairs (role_of x e) (pairs x (instance_of e)) (param_fact role p)
param_of_event x (Emit i) role p (inl same) = absurd (let short : 1 ≡ 2 = ap length same in omega (arith, short))
param_of_event x (Receive i) role p (inl none) = absurd none
param_of_event x e role p (inr told) = told

-- an event with a pair is known by its role
knows_pair : (x : Expanded) (events : List Event) (key : List Value) (role p : ℕ) (v : Value) (e : Event) → Contains events e → (instance_of e).key ≡ key → role_of x e ≡ role → HasPair (pairs x (instance_of e)) p v → Knows x (history_of x role events) key p v
knows_pair x events key role p v e among under own has =
    record {
      event = e;
      among = kept_member (λ f. role_of x f == role) events e ((Decides-eqb (role_of x e) role).1 own) among;
      under = under;
      adornment = has.adornment;
      carries = has.among;
    }

-- the value is a fact exactly if the role knows it
pub value_known : (x : Expanded) (key : List Value) (events : List Event) (facts : BTreeSet (List Value)) → AreFacts x key events facts → (role p : ℕ) (v : Value) → HasFact facts (value_fact role p v) → Knows x (history_of x role events) key p v
value_known x key events facts are role p v has =
    let under = (are.exact (value_fact role p v)).0 has in
    let (own, pair) = value_from_pairs (role_of x under.event) role p v (pairs x (instance_of under.event)) (value_of_event x under.event role p v under.makes) in
    knows_pair x events key role p v under.event under.among under.under own pair

pub value_has_fact : (x : Expanded) (key : List Value) (events : List Event) (facts : BTreeSet (List Value)) → AreFacts x key events facts → (role p : ℕ) (v : Value) → Knows x (history_of x role events) key p v → HasFact facts (value_fact role p v)
value_has_fact x key events facts are role p v knows =
    let (among, own) = filtered_member (λ e. role_of x e == role) events knows.event knows.among in
    let is_role : role_of x knows.event ≡ role = (Decides-eqb (role_of x knows.event) role).0 own in
    (are.exact (value_fact role p v)).1 (record {
      event = knows.event;
      among = among;
      under = knows.under;
      makes = inr (subst (λ r. IsFactOfPairs (role_of x knows.event) (pairs x (instance_of knows.event)) (value_fact r p v)) is_role (pair_to_value (role_of x knows.event) (record { param = p; adornment = knows.adornment }) v (pairs x (instance_of knows.event)) knows.carries));
    })

-- so of a parameter
pub param_known : (x : Expanded) (key : List Value) (events : List Event) (facts : BTreeSet (List Value)) → AreFacts x key events facts → (role p : ℕ) → HasFact facts (param_fact role p) → IsKnown x (history_of x role events) key p
param_known x key events facts are role p has =
    let under = (are.exact (param_fact role p)).0 has in
    let (own, (v, pair)) = param_from_pairs (role_of x under.event) role p (pairs x (instance_of under.event)) (param_of_event x under.event role p under.makes) in
    (v, knows_pair x events key role p v under.event under.among under.under own pair)

pub param_has_fact : (x : Expanded) (key : List Value) (events : List Event) (facts : BTreeSet (List Value)) → AreFacts x key events facts → (role p : ℕ) → IsKnown x (history_of x role events) key p → HasFact facts (param_fact role p)
param_has_fact x key events facts are role p (v, knows) =
    let (among, own) = filtered_member (λ e. role_of x e == role) events knows.event knows.among in
    let is_role : role_of x knows.event ≡ role = (Decides-eqb (role_of x knows.event) role).0 own in
    (are.exact (param_fact role p)).1 (record {
      event = knows.event;
      among = among;
      under = knows.under;
      makes = inr (subst (λ r. IsFactOfPairs (role_of x knows.event) (pairs x (instance_of knows.event)) (param_fact r p)) is_role (pair_to_param (role_of x knows.event) (record { param = p; adornment = knows.adornment }) v (pairs x (instance_of knows.event)) knows.carries));
    })

-- a message that is a fact of an event is emitted by it
message_of_event : (x : Expanded) (e : Event) (m : ℕ) → IsFactOf x e (message_fact m) → (e ≡ Emit (instance_of e)) × ((instance_of e).message ≡ m)
unfolding number_at number_of
message_of_event x (Emit i) m (inl same) = (refl, ap (number_at 0) same)
message_of_event x (Receive i) m (inl none) = absurd none
message_of_event x e m (inr told) = absurd (no_message_from_pairs (role_of x e) m (pairs x (instance_of e)) told)

-- and of a message
pub message_emitted : (x : Expanded) (key : List Value) (events : List Event) (facts : BTreeSet (List Value)) → AreFacts x key events facts → (m : ℕ) → HasFact facts (message_fact m) → IsEmitted events key m
message_emitted x key events facts are m has =
    let under = (are.exact (message_fact m)).0 has in
    let (is, message) = message_of_event x under.event m under.makes in
    record { instance = instance_of under.event; emitted = subst (Contains events) is under.among; under = under.under; message_is = message }

pub message_has_fact : (x : Expanded) (key : List Value) (events : List Event) (facts : BTreeSet (List Value)) → AreFacts x key events facts → (m : ℕ) → IsEmitted events key m → HasFact facts (message_fact m)
message_has_fact x key events facts are m emitted =
    (are.exact (message_fact m)).1 (record { event = Emit emitted.instance; among = emitted.emitted; under = emitted.under; makes = inl (ap message_fact emitted.message_is) })
