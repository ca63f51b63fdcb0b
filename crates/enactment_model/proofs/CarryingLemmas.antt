-- Which values an instance carries, pair by pair, and which of them a role knows.
use Rattle.std.proofs.Common.{◌≡◌, ℕ, ◌+◌, ◌<◌, ◌≤◌, Bool, true, false, cond, List, [], ◌∷◌, length, drop, get_or, inl, inr, refl, sym, ap, ◌∙◌, subst, arith}
use Rattle.std.specs.Prelude.{◌==◌, ◌&&◌, ◌↔◌}
use Rattle.std.specs.List.{All, Any, Contains, zip}
use Rattle.std.proofs.lemmas.Bool.{both_ways, cond_both, eq-eqb, false≢true}
use Rattle.std.proofs.lemmas.Bool.Decides.{Decides-eqb}
use Rattle.std.proofs.lemmas.List.{drop_more}
use Rattle.std.proofs.lemmas.List.Elements.{All-nil, All-cons}
use Rattle.std.proofs.Math.ListN.{drop_of_length-le}
use Rattle.list_base.proofs.Filtered.{filtered_member, kept_member}
use Rattle.list_base.proofs.Members.{cons_cases, here_same, nowhere, there}
use Rattle.bspl_types.specs.declared.event.Event.{Event}
use Rattle.bspl_types.specs.declared.expanded.Expanded.{Expanded}
use Rattle.bspl_types.specs.declared.protocol.Adornment.{Adornment}
use Rattle.bspl_types.specs.declared.protocol.Adornment.TheVariants.{In}
use Rattle.bspl_types.specs.declared.protocol.Carried.{Carried}
use Rattle.bspl_types.specs.declared.value.Value.{Value}
use Rattle.bspl_types.specs.Adornment.{has_value, valued}
use Rattle.bspl_types.specs.History.{history_of, role_of}
use Rattle.bspl_types.specs.Knowledge.{Knows}
use Rattle.bspl_types.specs.Value.{same_value, SameValuesAreOne}
use Rattle.enactment_model.specs.inner.Carrying.{has_pair, HasUnknownPair, IsKnownPair, Reveals}

-- both parts of a test hold if it does
both_hold : (a b : Bool) → (a && b) ≡ true → (a ≡ true) × (b ≡ true)
both_hold true b holds = (refl, holds)
both_hold false b holds = absurd (false≢true holds)

-- and the other way
hold_both : (a b : Bool) → a ≡ true → b ≡ true → (a && b) ≡ true
hold_both a b one other = ap (λ t. t && b) one ∙ other

-- the test finds a pair of the parameter and the value
pub pair_found : SameValuesAreOne → (pairs : List (Carried × Value)) (p : ℕ) (v : Value) → has_pair pairs p v ≡ true → (a : Adornment) × Contains pairs (record { param = p; adornment = a }, v)
pair_found exact [] p v = λ found. absurd (false≢true found)
pair_found exact (pair ∷ pairs) p v =
    cond_both (pair.0.param == p && same_value pair.1 v) true (has_pair pairs p v) (λ t. t ≡ true → (a : Adornment) × Contains (pair ∷ pairs) (record { param = p; adornment = a }, v))
    (λ both _.
    let (same_param, same) = both_hold (pair.0.param == p) (same_value pair.1 v) both in
    let is_param = (Decides-eqb pair.0.param p).0 same_param in
    let is_value = (exact pair.1 v).0 same in
    (pair.0.adornment, here_same pair pairs (record { param = p; adornment = pair.0.adornment }, v) (λ i. (record { param = is_param i; adornment = pair.0.adornment }, is_value i))))
    (λ _ found. let rest = pair_found exact pairs p v found in (rest.0, there pair pairs _ rest.1))

-- and each such pair is found
pub found_pair : SameValuesAreOne → (pairs : List (Carried × Value)) (p : ℕ) (v : Value) (a : Adornment) → Contains pairs (record { param = p; adornment = a }, v) → has_pair pairs p v ≡ true
found_pair exact [] p v a among = absurd (nowhere _ among)
found_pair exact (pair ∷ pairs) p v a among =
    cond_both (pair.0.param == p && same_value pair.1 v) true (has_pair pairs p v) (λ t. t ≡ true)
    (λ _. refl)
    (λ other. elim (cons_cases pair pairs (record { param = p; adornment = a }, v) among) [
      | inl is ↦ absurd (both_ways (pair.0.param == p && same_value pair.1 v) other (hold_both (pair.0.param == p) (same_value pair.1 v) (eq-eqb pair.0.param p (ap (λ q. q.0.param) is)) ((exact pair.1 v).1 (ap (λ q. q.1) is))))
      | inr later ↦ found_pair exact pairs p v a later
    ])

-- a value is known exactly if some event of the role under the key carries it
pub known_by_some : (x : Expanded) (events : List Event) (role : ℕ) (key : List Value) (p : ℕ) (v : Value) → Any (Reveals x role key p v) events ↔ Knows x (history_of x role events) key p v
known_by_some x events role key p v = (
  λ (k, e, within, is, reveals). record {
    event = e;
    among = kept_member (λ f. role_of x f == role) events e (eq-eqb (role_of x e) role reveals.own) (k, within, is);
    under = reveals.under;
    adornment = reveals.adornment;
    carries = reveals.carries;
  },
  λ knows.
      let ((k, within, is), own) = filtered_member (λ f. role_of x f == role) events knows.event knows.among in
      (k, knows.event, within, is, record { own = (Decides-eqb (role_of x knows.event) role).0 own; under = knows.under; adornment = knows.adornment; carries = knows.carries }),
)

-- what remains is among all pairs, and all have the property if those that remain do
pub record LeavesPairs (P : Carried × Value → Type 0) (remaining pairs : List (Carried × Value)) : Type 0 where
  pub all : All P remaining → All P pairs
  pub among : (pair : Carried × Value) → Contains remaining pair → Contains pairs pair

-- at first all remain
pub leaves_all : (P : Carried × Value → Type 0) (pairs : List (Carried × Value)) → LeavesPairs P pairs pairs
leaves_all P pairs = record { all = λ all. all; among = λ pair among. among }

-- one pair that has the property is passed
pub leaves_rest : (P : Carried × Value → Type 0) (pair : Carried × Value) (rest pairs : List (Carried × Value)) → P pair → LeavesPairs P (pair ∷ rest) pairs → LeavesPairs P rest pairs
leaves_rest P pair rest pairs holds leaves =
    record { all = λ all. leaves.all (All-cons P pair rest holds all); among = λ other among. leaves.among other (there pair rest other among) }

-- the first parameter from an index on is passed over, or takes the first value
pairs_step : (carried : List Carried) (i : ℕ) (d : Carried) (values : List Value) (b : Bool) → i < length carried → has_value (get_or carried i d).adornment ≡ b → zip (valued (drop i carried)) values ≡ zip (cond b (get_or carried i d ∷ valued (drop (i + 1) carried)) (valued (drop (i + 1) carried))) values
pairs_step carried i d values b within is_b =
    ap (λ cs. zip (valued cs) values) (drop_more carried i d within)
    ∙ ap (λ wants. zip (cond wants (get_or carried i d ∷ valued (drop (i + 1) carried)) (valued (drop (i + 1) carried))) values) is_b

-- a parameter without a value is passed over
pub leaves_bare : (P : Carried × Value → Type 0) (carried : List Carried) (i : ℕ) (d : Carried) (values : List Value) (pairs : List (Carried × Value)) → i < length carried → has_value (get_or carried i d).adornment ≡ false → LeavesPairs P (zip (valued (drop i carried)) values) pairs → LeavesPairs P (zip (valued (drop (i + 1) carried)) values) pairs
leaves_bare P carried i d values pairs within bare = subst (λ remaining. LeavesPairs P remaining pairs) (pairs_step carried i d values false within bare)

-- the next value belongs to the next parameter that has one
pub leaves_pair : (P : Carried × Value → Type 0) (carried : List Carried) (i : ℕ) (d : Carried) (v : Value) (values : List Value) (pairs : List (Carried × Value)) → i < length carried → has_value (get_or carried i d).adornment ≡ true → LeavesPairs P (zip (valued (drop i carried)) (v ∷ values)) pairs → LeavesPairs P ((get_or carried i d, v) ∷ zip (valued (drop (i + 1) carried)) values) pairs
leaves_pair P carried i d v values pairs within wants = subst (λ remaining. LeavesPairs P remaining pairs) (pairs_step carried i d (v ∷ values) true within wants)

-- no pair is left without a value
zip_nothing : (carried : List Carried) → zip {X = Value} carried [] ≡ []
zip_nothing [] = refl
zip_nothing (c ∷ carried) = refl

-- so all have the property
pub all_without_values : (P : Carried × Value → Type 0) (carried : List Carried) (values : List Value) (pairs : List (Carried × Value)) → length values ≡ 0 → LeavesPairs P (zip carried values) pairs → All P pairs
all_without_values P carried [] pairs empty leaves = leaves.all (subst (All P) (sym (zip_nothing carried)) (All-nil P))
all_without_values P carried (v ∷ values) pairs empty leaves = absurd (omega arith)

-- and at the end of the parameters too
pub all_at_end : (P : Carried × Value → Type 0) (carried : List Carried) (i : ℕ) (values : List Value) (pairs : List (Carried × Value)) → length carried ≤ i → LeavesPairs P (zip (valued (drop i carried)) values) pairs → All P pairs
all_at_end P carried i values pairs past leaves = leaves.all (subst (λ cs. All P (zip (valued cs) values)) (sym (drop_of_length-le carried past)) (All-nil P))

-- a pair of the `in` parameter that remains, with a value that is not known
pub unknown_found : (x : Expanded) (history : List Event) (key : List Value) (p : ℕ) (c : Carried) (v : Value) (rest pairs : List (Carried × Value)) → LeavesPairs (IsKnownPair x history key p) ((c, v) ∷ rest) pairs → c ≡ record { param = p; adornment = In } → ¬ Knows x history key p v → HasUnknownPair x history key p pairs
unknown_found x history key p c v rest pairs leaves is unknown =
    record { value = v; among = leaves.among (record { param = p; adornment = In }, v) (here_same (c, v) rest (record { param = p; adornment = In }, v) (ap (λ d. (d, v)) is)); unknown = unknown }
