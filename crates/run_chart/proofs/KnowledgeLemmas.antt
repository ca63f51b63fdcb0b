-- The values of pairs, and what one event makes known.
use Rattle.std.proofs.Common.{◌≡◌, ◌==◌, ℕ, true, false, List, [], ◌∷◌, ◌++◌, Option, None, Some, refl, sym, ap, inl, inr, ◌⊎◌, subst}
use Rattle.std.specs.Prelude.{cond, MatchOption}
use Rattle.std.specs.List.{Contains}
use Rattle.std.proofs.lemmas.Bool.{both_ways, cond_both, eq-eqb}
use Rattle.std.proofs.lemmas.Bool.Decides.{Decides-eqb}
use Rattle.std.proofs.lemmas.List.Elements.{Contains-append_right}
use Rattle.std.proofs.lemmas.Option.{none-some, same_Some}
use Rattle.list_base.proofs.Members.{cons_cases, here, here_same, nowhere, only, there}
use Rattle.bspl_types.specs.declared.event.Event.{Event}
use Rattle.bspl_types.specs.declared.expanded.Expanded.{Expanded}
use Rattle.bspl_types.specs.declared.protocol.Adornment.{Adornment}
use Rattle.bspl_types.specs.declared.protocol.Carried.{Carried}
use Rattle.bspl_types.specs.declared.value.Value.{Value}
use Rattle.bspl_types.specs.Equality.{equal_values_decides}
use Rattle.bspl_types.specs.History.{instance_of}
use Rattle.bspl_types.specs.Instance.{pairs}
use Rattle.bspl_types.specs.Knowledge.{IsKnown, Knows}
use Rattle.bspl_types.specs.Value.{equal_values}
use Rattle.role_knowledge.specs.FirstKnown.{IsFirstKnown}
use Rattle.role_knowledge.specs.inner.FirstValue.{first_value}

-- without a value in the first pairs, the others have it
pub value_after : (a b : List (Carried × Value)) (p : ℕ) → first_value a p ≡ None → first_value (a ++ b) p ≡ first_value b p
value_after [] b p none = refl
value_after (pair ∷ a) b p none =
    (elim (pair.0.param == p) as (λ t. cond t (Some pair.1) (first_value a p) ≡ None → cond t (Some pair.1) (first_value (a ++ b) p) ≡ first_value b p) [
      | true ↦ λ is. absurd (none-some pair.1 (sym is))
      | false ↦ λ is. value_after a b p is
    ]) none

-- the value of the first pairs is that of all
pub value_before_others : (a b : List (Carried × Value)) (p : ℕ) (v : Value) → first_value a p ≡ Some v → first_value (a ++ b) p ≡ Some v
value_before_others [] b p v some = absurd (none-some v some)
value_before_others (pair ∷ a) b p v some =
    (elim (pair.0.param == p) as (λ t. cond t (Some pair.1) (first_value a p) ≡ Some v → cond t (Some pair.1) (first_value (a ++ b) p) ≡ Some v) [
      | true ↦ λ is. is
      | false ↦ λ is. value_before_others a b p v is
    ]) some

-- a value is that of a pair for the parameter
value_found : (ps : List (Carried × Value)) (p : ℕ) (v : Value) → first_value ps p ≡ Some v → (a : Adornment) × Contains ps (record { param = p; adornment = a }, v)
value_found [] p v = λ found. absurd (none-some v found)
value_found (pair ∷ ps) p v =
    cond_both (pair.0.param == p) (Some pair.1) (first_value ps p) (λ o. o ≡ Some v → (a : Adornment) × Contains (pair ∷ ps) (record { param = p; adornment = a }, v))
    (λ same found. (pair.0.adornment, here_same pair ps (record { param = p; adornment = pair.0.adornment }, v) (λ i. (record { param = (Decides-eqb pair.0.param p).0 same i; adornment = pair.0.adornment }, same_Some pair.1 v found i))))
    (λ _ found. let rest = value_found ps p v found in (rest.0, there pair ps _ rest.1))

-- without a value no pair is for the parameter
value_missing : (ps : List (Carried × Value)) (p : ℕ) → first_value ps p ≡ None → (a : Adornment) (v : Value) → ¬ Contains ps (record { param = p; adornment = a }, v)
value_missing [] p = λ none a v among. nowhere _ among
value_missing (pair ∷ ps) p =
    cond_both (pair.0.param == p) (Some pair.1) (first_value ps p) (λ o. o ≡ None → (a : Adornment) (v : Value) → ¬ Contains (pair ∷ ps) (record { param = p; adornment = a }, v))
    (λ _ none. absurd (none-some pair.1 (sym none)))
    (λ other none a v among. elim (cons_cases pair ps (record { param = p; adornment = a }, v) among) [
      | inl is ↦ both_ways (pair.0.param == p) other (eq-eqb pair.0.param p (ap (λ q. q.0.param) is))
      | inr rest ↦ value_missing ps p none a v rest
    ])

-- no event makes nothing known
pub unknown_first : (x : Expanded) (key : List Value) (p : ℕ) → ¬ IsKnown x [] key p
unknown_first x key p (v, knows) = nowhere knows.event knows.among

-- what an act and others make known, the act does or the others do
known_cases : (x : Expanded) (e : Event) (history : List Event) (key : List Value) (p : ℕ) → IsKnown x (e ∷ history) key p → IsKnown x (e ∷ []) key p ⊎ IsKnown x history key p
known_cases x e history key p (v, knows) =
    elim (cons_cases e history knows.event knows.among) [
      | inl is ↦ inl (v, record { event = knows.event; among = here_same e [] knows.event is; under = knows.under; adornment = knows.adornment; carries = knows.carries })
      | inr rest ↦ inr (v, record { event = knows.event; among = rest; under = knows.under; adornment = knows.adornment; carries = knows.carries })
    ]

-- an act under another key makes nothing known
pub unknown_by_key : (x : Expanded) (e : Event) (key : List Value) (p : ℕ) → equal_values (instance_of e).key key ≡ false → ¬ IsKnown x (e ∷ []) key p
unknown_by_key x e key p other (v, knows) =
    let under = subst (λ (f : Event). (instance_of f).key ≡ key) (sym (only e knows.event knows.among)) knows.under in
    both_ways (equal_values (instance_of e).key key) other ((equal_values_decides (instance_of e).key key).1 under)

-- nor does one without a value of the parameter
pub unknown_by_pairs : (x : Expanded) (e : Event) (key : List Value) (p : ℕ) → first_value (pairs x (instance_of e)) p ≡ None → ¬ IsKnown x (e ∷ []) key p
unknown_by_pairs x e key p none (v, knows) =
    let carried = λ (f : Event). Contains (pairs x (instance_of f)) (record { param = p; adornment = knows.adornment }, v) in
    value_missing (pairs x (instance_of e)) p none knows.adornment v (subst carried (sym (only e knows.event knows.among)) knows.carries)

-- an act under the key makes its value known
pub known_by_act : (x : Expanded) (e : Event) (key : List Value) (p : ℕ) (v : Value) → equal_values (instance_of e).key key ≡ true → first_value (pairs x (instance_of e)) p ≡ Some v → Knows x (e ∷ []) key p v
known_by_act x e key p v under found =
    let pair = value_found (pairs x (instance_of e)) p v found in
    record { event = e; among = here e []; under = (equal_values_decides (instance_of e).key key).0 under; adornment = pair.0; carries = pair.1 }

-- after an act that makes nothing known, the first value is that of the others
pub first_after : (x : Expanded) (e : Event) (history : List Event) (key : List Value) (p : ℕ) (o : Option Value) → (¬ IsKnown x (e ∷ []) key p) → MatchOption o (¬ IsKnown x history key p) (IsFirstKnown x history key p) → MatchOption o (¬ IsKnown x (e ∷ history) key p) (IsFirstKnown x (e ∷ history) key p)
first_after x e history key p None none shown = λ known. elim (known_cases x e history key p known) [ inl one ↦ none one | inr rest ↦ shown rest ]
first_after x e history key p (Some v) none shown =
    record {
      before = e ∷ shown.before;
      event = shown.event;
      after = shown.after;
      split = ap (λ (acts : List Event). e ∷ acts) shown.split;
      unknown = λ known. elim (known_cases x e shown.before key p known) [ inl one ↦ none one | inr rest ↦ shown.unknown rest ];
      knows = shown.knows;
    }

-- what is known first is known
pub known_first : (x : Expanded) (history : List Event) (key : List Value) (p : ℕ) (v : Value) → IsFirstKnown x history key p v → Knows x history key p v
known_first x history key p v first =
    let knows = first.knows in
    let within = here_same first.event first.after knows.event (only first.event knows.event knows.among) in
    record {
      event = knows.event;
      among = subst (λ (acts : List Event). Contains acts knows.event) (sym first.split) (Contains-append_right first.before (first.event ∷ first.after) knows.event within);
      under = knows.under;
      adornment = knows.adornment;
      carries = knows.carries;
    }
