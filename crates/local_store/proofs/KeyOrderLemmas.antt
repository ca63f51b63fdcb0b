-- A key parameter stands once among the keys, so the key has one value of it.
use Rattle.std.proofs.Common.{◌≡◌, ℕ, zero, suc, ◌+◌, ◌≤◌, ◌==◌, true, false, cond, List, [], ◌∷◌, length, map, Some, Contains, inl, inr, refl, sym, ap, ◌∙◌, subst, arith}
use Rattle.std.specs.Prelude.{slice_get}
use Rattle.std.specs.List.{enumerate_from, filter}
use Rattle.std.proofs.lemmas.Bool.{cases_Bool}
use Rattle.std.proofs.lemmas.Bool.Decides.{Decides-eqb}
use Rattle.std.proofs.lemmas.Option.{none-some, same_Some}
use Rattle.list_base.proofs.Members.{cons_cases, nowhere}
use Rattle.list_base.proofs.Membership.{member_at}
use Rattle.list_base.proofs.Partners.{NoRepeat}
use Rattle.bspl_types.specs.declared.protocol.ParamInfo.{ParamInfo}
use Rattle.bspl_types.specs.declared.value.Value.{Value}
use Rattle.bspl_types.specs.Shape.{key_indices}
use Rattle.local_store.specs.inner.FilledValues.{key_value}

-- the indices of the key parameters among these, of which the first has that index
abbrev indices_from : ℕ → List ParamInfo → List ℕ
indices_from n params = map (λ q. q.0) (filter (λ q. q.1.key) (enumerate_from n params))

-- they are not below it
not_below : (n : ℕ) (params : List ParamInfo) (k : ℕ) → Contains (indices_from n params) k → n ≤ k
not_below n [] k among = absurd (nowhere k among)
not_below n (p ∷ params) k among =
    (elim p.key as (λ b. Contains (map (λ q. q.0) (cond b ((n, p) ∷ filter (λ q. q.1.key) (enumerate_from (n + 1) params)) (filter (λ q. q.1.key) (enumerate_from (n + 1) params)))) k → n ≤ k) [
      | true ↦ λ first. elim (cons_cases n (indices_from (n + 1) params) k first) [
        | inl is ↦ omega (arith, is)
        | inr later ↦ omega (arith, not_below (n + 1) params k later)
      ]
      | false ↦ λ later. omega (arith, not_below (n + 1) params k later)
    ]) among

once_from : (n : ℕ) (params : List ParamInfo) → NoRepeat (indices_from n params)
once_from n [] = tt
once_from n (p ∷ params) =
    elim p.key as (λ b. NoRepeat (map (λ q. q.0) (cond b ((n, p) ∷ filter (λ q. q.1.key) (enumerate_from (n + 1) params)) (filter (λ q. q.1.key) (enumerate_from (n + 1) params))))) [
      | true ↦ (λ again. omega (arith, not_below (n + 1) params n again), once_from (n + 1) params)
      | false ↦ once_from (n + 1) params
    ]

pub keys_once : (params : List ParamInfo) → NoRepeat (key_indices params)
keys_once params = once_from 0 params

-- the value at its index is the key's
pub key_value_at : (keys : List ℕ) (key : List Value) (p index : ℕ) → NoRepeat keys → length key ≡ length keys → slice_get keys index ≡ Some p → (v : Value) × (slice_get key index ≡ Some v) × (key_value keys key p ≡ Some v)
key_value_at [] key p index once as_long at = absurd (none-some p at)
key_value_at (k ∷ keys) [] p index once as_long at = absurd (omega (arith, as_long))
key_value_at (k ∷ keys) (v ∷ key) p zero once as_long at =
    let same : (k == p) ≡ true = (Decides-eqb k p).1 (same_Some k p at) in
    (v, refl, ap (λ b. cond b (Some v) (key_value keys key p)) same)
key_value_at (k ∷ keys) (v ∷ key) p (suc index) once as_long at =
    let fewer : length key ≡ length keys = omega (arith, as_long) in
    let (u, its, is) = key_value_at keys key p index once.1 fewer at in
    elim (cases_Bool (k == p)) [
      | inl same ↦ absurd (once.0 (subst (Contains keys) (sym ((Decides-eqb k p).0 same)) (member_at keys index p at)))
      | inr other ↦ (u, its, ap (λ b. cond b (Some v) (key_value keys key p)) other ∙ is)
    ]
