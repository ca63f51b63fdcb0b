-- The first value of a parameter in an instance, and what one event makes known.
use Rattle.std.proofs.Common.{◌≡◌, ℕ, List, [], ◌∷◌, Option, None, Some, inl, inr, sym, ap, subst}
use Rattle.std.specs.Prelude.{◌==◌, MatchOption}
use Rattle.std.specs.List.{Contains}
use Rattle.std.proofs.lemmas.Bool.{both_ways, cond_both, eq-eqb}
use Rattle.std.proofs.lemmas.Bool.Decides.{Decides-eqb}
use Rattle.std.proofs.lemmas.Option.{none-some, same_Some}
use Rattle.list_base.proofs.Members.{cons_cases, here, here_same, nowhere, only, there}
use Rattle.bspl_types.specs.declared.event.Event.{Event}
use Rattle.bspl_types.specs.declared.expanded.Expanded.{Expanded}
use Rattle.bspl_types.specs.declared.protocol.Adornment.{Adornment}
use Rattle.bspl_types.specs.declared.protocol.Carried.{Carried}
use Rattle.bspl_types.specs.declared.value.Value.{Value}
use Rattle.bspl_types.specs.History.{instance_of}
use Rattle.bspl_types.specs.Instance.{pairs}
use Rattle.bspl_types.specs.Knowledge.{IsKnown, Knows}
use Rattle.role_knowledge.specs.inner.FirstValue.{first_value}

-- a first value is that of a pair for the parameter
value_found : (pairs : List (Carried × Value)) (p : ℕ) (v : Value) → first_value pairs p ≡ Some v → (a : Adornment) × Contains pairs (record { param = p; adornment = a }, v)
value_found [] p v = λ found. absurd (none-some v found)
value_found (pair ∷ pairs) p v =
    cond_both (pair.0.param == p) (Some pair.1) (first_value pairs p) (λ o. o ≡ Some v → (a : Adornment) × Contains (pair ∷ pairs) (record { param = p; adornment = a }, v))
    (λ same found. (pair.0.adornment, here_same pair pairs (record { param = p; adornment = pair.0.adornment }, v) (λ i. (record { param = (Decides-eqb pair.0.param p).0 same i; adornment = pair.0.adornment }, same_Some pair.1 v found i))))
    (λ _ found. let rest = value_found pairs p v found in (rest.0, there pair pairs _ rest.1))

-- without a first value no pair is for the parameter
value_missing : (pairs : List (Carried × Value)) (p : ℕ) → first_value pairs p ≡ None → (a : Adornment) (v : Value) → ¬ Contains pairs (record { param = p; adornment = a }, v)
value_missing [] p = λ none a v among. nowhere _ among
value_missing (pair ∷ pairs) p =
    cond_both (pair.0.param == p) (Some pair.1) (first_value pairs p) (λ o. o ≡ None → (a : Adornment) (v : Value) → ¬ Contains (pair ∷ pairs) (record { param = p; adornment = a }, v))
    (λ _ none. absurd (none-some pair.1 (sym none)))
    (λ other none a v among. elim (cons_cases pair pairs (record { param = p; adornment = a }, v) among) [
      | inl is ↦ both_ways (pair.0.param == p) other (eq-eqb pair.0.param p (ap (λ q. q.0.param) is))
      | inr rest ↦ value_missing pairs p none a v rest
    ])

-- an event under the key makes its first value known, or none
pub known_by_value : (x : Expanded) (e : Event) (key : List Value) (p : ℕ) → (instance_of e).key ≡ key → (r : Option Value) → r ≡ first_value (pairs x (instance_of e)) p → MatchOption r (¬ IsKnown x (e ∷ []) key p) (Knows x (e ∷ []) key p)
known_by_value x e key p under None is = λ known.
    let (v, knows) = known in
    let same = only e knows.event knows.among in
    value_missing (pairs x (instance_of e)) p (sym is) knows.adornment v
    (subst (λ f. Contains (pairs x (instance_of f)) (record { param = p; adornment = knows.adornment }, v)) (sym same) knows.carries)
known_by_value x e key p under (Some v) is =
    let (a, carries) = value_found (pairs x (instance_of e)) p v (sym is) in
    record { event = e; among = here e []; under = under; adornment = a; carries = carries }

-- an event under another key makes nothing known
pub unknown_by_other : (x : Expanded) (e : Event) (key : List Value) (p : ℕ) → ¬ ((instance_of e).key ≡ key) → ¬ IsKnown x (e ∷ []) key p
unknown_by_other x e key p other (v, knows) =
    other (subst (λ f. (instance_of f).key ≡ key) (sym (only e knows.event knows.among)) knows.under)
