-- What is in the cells after values were put into a row.
use Rattle.std.proofs.Common.{◌≡◌, ℕ, ◌+◌, ◌*◌, ◌/◌, ◌%◌, ◌<◌, ◌⊎◌, List, [], ◌∷◌, length, get_or, set, Option, Some, None, inl, inr, sym, ap, ◌∙◌, subst, length-set}
use Rattle.std.specs.List.{All, Contains}
use Rattle.std.proofs.lemmas.Bool.{cases_eq}
use Rattle.std.proofs.lemmas.List.{get_or-set_other, get_or-set_same}
use Rattle.std.proofs.lemmas.List.Elements.{All-head, All-tail}
use Rattle.std.proofs.lemmas.Nat.{div-mul-add, mod-mul-add}
use Rattle.std.proofs.lemmas.Option.{same_Some}
use Rattle.list_base.proofs.Members.{cons_cases, here, nowhere, there}
use Rattle.bspl_types.specs.declared.protocol.Carried.{Carried}
use Rattle.bspl_types.specs.declared.value.Value.{Value}
use Rattle.local_store.specs.inner.Grids.{bound, cell_at}

-- an index has one row and one column
pub same_place : (w r p s q : ℕ) → p < w → q < w → r * w + p ≡ s * w + q → (r ≡ s) × (p ≡ q)
same_place w r p s q p_within q_within same = (
  sym (div-mul-add r w p p_within) ∙ ap (λ n. n / w) same ∙ div-mul-add s w q q_within,
  sym (mod-mul-add r w p p_within) ∙ ap (λ n. n % w) same ∙ mod-mul-add s w q q_within,
)

-- a value stays that is not overwritten by another one
pub bound_keeps : (w row : ℕ) (pairs : List (Carried × Value)) (cells : List (Option Value)) (s q : ℕ) (v : Value) → All (λ pair. row * w + pair.0.param < length cells) pairs → ((pair : Carried × Value) → Contains pairs pair → row * w + pair.0.param ≡ s * w + q → pair.1 ≡ v) → cell_at w cells s q ≡ Some v → cell_at w (bound w row cells pairs) s q ≡ Some v
bound_keeps w row [] cells s q v within agree is = is
bound_keeps w row (pair ∷ pairs) cells s q v within agree is =
    let at = row * w + pair.0.param in
    let room : at < length cells = All-head (λ p. row * w + p.0.param < length cells) pair pairs within in
    let rest = All-tail (λ p. row * w + p.0.param < length cells) pair pairs within in
    let stays : cell_at w (set cells at (Some pair.1)) s q ≡ Some v = elim (cases_eq (s * w + q) at) [
      | inl same ↦ ap (λ k. get_or (set cells at (Some pair.1)) k None) same ∙ get_or-set_same cells at (Some pair.1) None room ∙ ap Some (agree pair (here pair pairs) (sym same))
      | inr other ↦ get_or-set_other cells at (s * w + q) (Some pair.1) None other ∙ is
    ] in
    bound_keeps w row pairs (set cells at (Some pair.1)) s q v
    (subst (λ n. All (λ p. row * w + p.0.param < n) pairs) (sym (length-set cells at (Some pair.1))) rest)
    (λ p among same. agree p (there pair pairs p among) same) stays

-- a value in a cell was there, or was put there
pub bound_from : (w row : ℕ) (pairs : List (Carried × Value)) (cells : List (Option Value)) (s q : ℕ) (v : Value) → All (λ pair. row * w + pair.0.param < length cells) pairs → cell_at w (bound w row cells pairs) s q ≡ Some v → (cell_at w cells s q ≡ Some v) ⊎ ((pair : Carried × Value) × Contains pairs pair × (row * w + pair.0.param ≡ s * w + q) × (pair.1 ≡ v))
bound_from w row [] cells s q v within is = inl is
bound_from w row (pair ∷ pairs) cells s q v within is =
    let at = row * w + pair.0.param in
    let room : at < length cells = All-head (λ p. row * w + p.0.param < length cells) pair pairs within in
    let rest = All-tail (λ p. row * w + p.0.param < length cells) pair pairs within in
    elim (bound_from w row pairs (set cells at (Some pair.1)) s q v (subst (λ n. All (λ p. row * w + p.0.param < n) pairs) (sym (length-set cells at (Some pair.1))) rest) is) [
      | inl before ↦ elim (cases_eq (s * w + q) at) [
        | inl same ↦ inr (pair, here pair pairs, sym same, same_Some pair.1 v (sym (get_or-set_same cells at (Some pair.1) None room) ∙ ap (λ k. get_or (set cells at (Some pair.1)) k None) (sym same) ∙ before))
        | inr other ↦ inl (sym (get_or-set_other cells at (s * w + q) (Some pair.1) None other) ∙ before)
      ]
      | inr (p, among, same, is_v) ↦ inr (p, there pair pairs p among, same, is_v)
    ]

-- a pair's value is in its cell
pub bound_has : (w row : ℕ) (pairs : List (Carried × Value)) (cells : List (Option Value)) (c : Carried) (v : Value) → All (λ pair. row * w + pair.0.param < length cells) pairs → ((pair other : Carried × Value) → Contains pairs pair → Contains pairs other → row * w + pair.0.param ≡ row * w + other.0.param → pair.1 ≡ other.1) → Contains pairs (c, v) → cell_at w (bound w row cells pairs) row c.param ≡ Some v
bound_has w row [] cells c v within one among = absurd (nowhere (c, v) among)
bound_has w row (pair ∷ pairs) cells c v within one among =
    let at = row * w + pair.0.param in
    let room : at < length cells = All-head (λ p. row * w + p.0.param < length cells) pair pairs within in
    let rest = subst (λ n. All (λ p. row * w + p.0.param < n) pairs) (sym (length-set cells at (Some pair.1))) (All-tail (λ p. row * w + p.0.param < length cells) pair pairs within) in
    elim (cons_cases pair pairs (c, v) among) [
      | inl is ↦ bound_keeps w row pairs (set cells at (Some pair.1)) row c.param v rest
          (λ p later same. one p (c, v) (there pair pairs p later) among same)
          (ap (λ other. get_or (set cells at (Some pair.1)) (row * w + other.0.param) None) (sym is) ∙ get_or-set_same cells at (Some pair.1) None room ∙ ap (λ other. Some other.1) is)
      | inr later ↦ bound_has w row pairs (set cells at (Some pair.1)) c v rest
          (λ p other first second same. one p other (there pair pairs p first) (there pair pairs other second) same) later
    ]
