-- What a cell watches, before and after one of its watches is replaced.
use Rattle.std.proofs.Common.{◌≡◌, ◌≢◌, ℕ, ◌+◌, ◌*◌, ◌<◌, ◌≤◌, Bool, true, false, ◌⊎◌, inl, inr, sym, ap, refl, ◌∙◌, subst, arith}
use Rattle.std.specs.Prelude.{if◌then◌else◌}
use Rattle.clause_core.specs.declared.literal.Lit.{Lit}
use Rattle.clause_core.specs.Literal.{rank}
use Rattle.sat_trail.specs.declared.watch.Watch.{Watch}
use Rattle.sat_trail.specs.declared.watch.Cell.{Cell}
use Rattle.sat_trail.specs.inner.Watches.{watch, HasLink, by_one, by_other, Watches, WatchesApart, IsPut, at_one, at_other, IsTurn, KeepsLits, IsWithin}
use Rattle.sat_trail.proofs.LiteralLemmas.{same_literal}

-- a cell with a link watches its literal
pub HasLink-watches : (cell : Cell) (l : Lit) (next : ℕ) → HasLink cell l next → Watches cell l
HasLink-watches cell l next (by_one here) = inl (ap (λ (w : Watch). w.lit) here)
HasLink-watches cell l next (by_other here) = inr (ap (λ (w : Watch). w.lit) here)

-- the links of other literals stay
pub put-link : (cell : Cell) (l : Lit) (w : Watch) (new : Cell) (m : Lit) (next : ℕ) → m ≢ l → IsPut cell l w new → HasLink cell m next → HasLink new m next
put-link cell l w new m next other (at_one is same) (by_one here) = absurd (other (sym (ap (λ (v : Watch). v.lit) here) ∙ is))
put-link cell l w new m next other (at_one is same) (by_other here) = by_other (ap (λ (c : Cell). c.other) same ∙ here)
put-link cell l w new m next other (at_other is same) (by_one here) = by_one (ap (λ (c : Cell). c.one) same ∙ here)
put-link cell l w new m next other (at_other is same) (by_other here) = absurd (other (sym (ap (λ (v : Watch). v.lit) here) ∙ is))

-- the new watch is there
pub put-here : (cell : Cell) (l m : Lit) (next : ℕ) (new : Cell) → IsPut cell l (watch m next) new → HasLink new m next
put-here cell l m next new (at_one is same) = by_one (ap (λ (c : Cell). c.one) same)
put-here cell l m next new (at_other is same) = by_other (ap (λ (c : Cell). c.other) same)

-- what is watched is the new literal, or was watched before
pub put-watched : (cell : Cell) (l : Lit) (w : Watch) (new : Cell) (m : Lit) → IsPut cell l w new → Watches new m → (m ≡ w.lit) ⊎ Watches cell m
put-watched cell l w new m (at_one is same) (inl here) = inl (sym here ∙ ap (λ (c : Cell). c.one.lit) same)
put-watched cell l w new m (at_one is same) (inr here) = inr (inr (sym (ap (λ (c : Cell). c.other.lit) same) ∙ here))
put-watched cell l w new m (at_other is same) (inl here) = inr (inl (sym (ap (λ (c : Cell). c.one.lit) same) ∙ here))
put-watched cell l w new m (at_other is same) (inr here) = inl (sym here ∙ ap (λ (c : Cell). c.other.lit) same)

-- the old literal is no longer watched
pub put-leaves : (cell : Cell) (l : Lit) (w : Watch) (new : Cell) → IsPut cell l w new → WatchesApart cell → w.lit ≢ l → Watches new l → ⊥
put-leaves cell l w new (at_one is same) differ other (inl here) = other (sym (ap (λ (c : Cell). c.one.lit) same) ∙ here)
put-leaves cell l w new (at_one is same) differ other (inr here) = differ (is ∙ sym here ∙ ap (λ (c : Cell). c.other.lit) same)
put-leaves cell l w new (at_other is same) differ other (inl here) = differ (sym (ap (λ (c : Cell). c.one.lit) same) ∙ here ∙ sym is)
put-leaves cell l w new (at_other is same) differ other (inr here) = other (sym (ap (λ (c : Cell). c.other.lit) same) ∙ here)

-- a literal that was not watched differs from the other one
pub put-apart : (cell : Cell) (l : Lit) (w : Watch) (new : Cell) → IsPut cell l w new → ¬ Watches cell w.lit → WatchesApart new
put-apart cell l w new (at_one is same) absent alike = absent (inr (sym (ap (λ (c : Cell). c.other.lit) same) ∙ sym alike ∙ ap (λ (c : Cell). c.one.lit) same))
put-apart cell l w new (at_other is same) absent alike = absent (inl (sym (ap (λ (c : Cell). c.one.lit) same) ∙ alike ∙ ap (λ (c : Cell). c.other.lit) same))

-- a watch of the same literal changes no literal
pub put-same : (cell : Cell) (l : Lit) (next : ℕ) (new : Cell) → IsPut cell l (watch l next) new → KeepsLits cell new
put-same cell l next new (at_one is same) = record { one = ap (λ (c : Cell). c.one.lit) same ∙ sym is; other = ap (λ (c : Cell). c.other.lit) same }
put-same cell l next new (at_other is same) = record { one = ap (λ (c : Cell). c.one.lit) same; other = ap (λ (c : Cell). c.other.lit) same ∙ sym is }

-- cells with the same literals watch the same
pub KeepsLits-watches : (cell new : Cell) (m : Lit) → KeepsLits cell new → Watches new m → Watches cell m
KeepsLits-watches cell new m keeps (inl here) = inl (sym keeps.one ∙ here)
KeepsLits-watches cell new m keeps (inr here) = inr (sym keeps.other ∙ here)

-- and of the same variables
pub KeepsLits-within : (vars : ℕ) (cell new : Cell) → KeepsLits cell new → IsWithin vars cell → IsWithin vars new
KeepsLits-within vars cell new keeps within = record {
  one = subst (λ (l : Lit). l.var ≤ vars) (sym keeps.one) within.one;
  other = subst (λ (l : Lit). l.var ≤ vars) (sym keeps.other) within.other;
}

-- a new watch of one of the variables
pub put-within : (vars : ℕ) (cell : Cell) (l : Lit) (w : Watch) (new : Cell) → IsPut cell l w new → w.lit.var ≤ vars → IsWithin vars cell → IsWithin vars new
put-within vars cell l w new (at_one is same) exists within = subst (IsWithin vars) (sym same) (record { one = exists; other = within.other })
put-within vars cell l w new (at_other is same) exists within = subst (IsWithin vars) (sym same) (record { one = within.one; other = exists })

-- and differ alike
pub KeepsLits-apart : (cell new : Cell) → KeepsLits cell new → WatchesApart cell → WatchesApart new
KeepsLits-apart cell new keeps differ alike = differ (sym keeps.one ∙ alike ∙ keeps.other)

-- equal cells have the same literals
pub KeepsLits-same : (cell new : Cell) → new ≡ cell → KeepsLits cell new
KeepsLits-same cell new same = record { one = ap (λ (c : Cell). c.one.lit) same; other = ap (λ (c : Cell). c.other.lit) same }

-- one watch has one link
same_link : (w : Watch) (l : Lit) (a b : ℕ) → w ≡ watch l a → w ≡ watch l b → a ≡ b
same_link w l a b first second = sym (ap (λ (v : Watch). v.link) first) ∙ ap (λ (v : Watch). v.link) second

-- a cell with different literals has one link for each
pub link-only : (cell : Cell) (l : Lit) (a b : ℕ) → WatchesApart cell → HasLink cell l a → HasLink cell l b → a ≡ b
link-only cell l a b differ (by_one first) (by_one second) = same_link cell.one l a b first second
link-only cell l a b differ (by_one first) (by_other second) = absurd (differ (ap (λ (v : Watch). v.lit) first ∙ sym (ap (λ (v : Watch). v.lit) second)))
link-only cell l a b differ (by_other first) (by_one second) = absurd (differ (ap (λ (v : Watch). v.lit) second ∙ sym (ap (λ (v : Watch). v.lit) first)))
link-only cell l a b differ (by_other first) (by_other second) = same_link cell.other l a b first second

-- a watch of the literal has its link
with_lit : (w : Watch) (l : Lit) → w.lit ≡ l → w ≡ watch l w.link
with_lit w l is = ap (λ (k : Lit). watch k w.link) is

-- the watch that comes first has a link
pub link-turn : (cell turn : Cell) (l : Lit) → IsTurn cell turn → turn.one.lit ≡ l → HasLink cell l turn.one.link
link-turn cell turn l (inl same) is = by_one (sym (ap (λ (c : Cell). c.one) same) ∙ with_lit turn.one l is)
link-turn cell turn l (inr same) is = by_other (sym (ap (λ (c : Cell). c.one) same) ∙ with_lit turn.one l is)

-- ranks that are equal come from equal parts
rank-parts : (v w : ℕ) (b c : Bool) → 2 * v + (if b then 1 else 0) ≡ 2 * w + (if c then 1 else 0) → (v ≡ w) × (b ≡ c)
rank-parts v w true true same = (omega arith, refl)
rank-parts v w true false same = absurd (omega arith)
rank-parts v w false true same = absurd (omega arith)
rank-parts v w false false same = (omega arith, refl)

-- literals of one rank are one
pub rank-only : (l m : Lit) → rank l ≡ rank m → l ≡ m
rank-only l m same =
    let parts = rank-parts l.var m.var l.positive m.positive same in
    same_literal l m parts.0 parts.1

-- the literal's list is one of the lists
pub rank-within : (vars : ℕ) (l : Lit) → l.var ≤ vars → rank l < 2 * vars + 2
rank-within vars l exists = elim l.positive as (λ b. 2 * l.var + (if b then 1 else 0) < 2 * vars + 2) [ true ↦ omega arith | false ↦ omega arith ]
