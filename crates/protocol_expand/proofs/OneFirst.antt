-- What is first is one: the first fault, the first word that is repeated, the first count over its limit.
use Rattle.std.proofs.Common.{◌≡◌, ◌≢◌, ℕ, zero, suc, ◌<◌, ◌⊎◌, List, [], ◌∷◌, ◌++◌, length, Some, refl, sym, ◌∙◌, ap, subst, arith, inl, inr}
use Rattle.std.specs.List.{AllPairs, Contains}
use Rattle.std.proofs.lemmas.List.{get_or-map, length-append, length-map, get_or_at, get_or_append_left}
use Rattle.bspl_types.specs.declared.refusals.What.{What}
use Rattle.bspl_parser.specs.declared.document.Declaration.{Declaration}
use Rattle.bspl_parser.specs.declared.word.Word.{Word}
use Rattle.protocol_names.specs.declared.fault.DocumentFault.{DocumentFault}
use Rattle.protocol_names.specs.declared.fault.FaultKind.{FaultKind}
use Rattle.protocol_names.specs.declared.fault.FaultKind.TheVariants.{Duplicate, Unknown, Arity, BadAdornment, ForeignKey}
use Rattle.protocol_names.specs.FaultOrder.{IsFirst, IsNotAfter, kind_rank}
use Rattle.protocol_names.specs.Names.{texts}
use Rattle.reference_graph.specs.PathCounts.{saturated}
use Rattle.protocol_limits.specs.declared.limit.Limit.{Limit}
use Rattle.protocol_limits.specs.Limits.{IsFirstOver}
use Rattle.protocol_expand.specs.WellScoped.{AreDistinct}
use Rattle.protocol_expand.specs.Repeats.{RepeatsFirst}

-- the kind of a rank
kind_of : ℕ → FaultKind
kind_of zero = Duplicate
kind_of (suc zero) = Unknown
kind_of (suc (suc zero)) = Arity
kind_of (suc (suc (suc zero))) = BadAdornment
kind_of (suc (suc (suc (suc n)))) = ForeignKey

-- a kind is that of its rank
ranked : (kind : FaultKind) → kind_of (kind_rank kind) ≡ kind
unfolding kind_of
ranked Duplicate = refl
ranked Unknown = refl
ranked Arity = refl
ranked BadAdornment = refl
ranked ForeignKey = refl

-- of two faults neither of which is after the other
one_fault : (f g : DocumentFault) → IsNotAfter f g.kind g.offset → IsNotAfter g f.kind f.offset → f ≡ g
one_fault f g (inl before) (inl after) = absurd (omega (arith, before, after))
one_fault f g (inl before) (inr at) = absurd (omega (arith, before, at.0))
one_fault f g (inr at) (inl after) = absurd (omega (arith, at.0, after))
one_fault f g (inr at) (inr back) =
    let same : kind_rank f.kind ≡ kind_rank g.kind = omega (arith, at.1, back.1) in
    λ i. record { kind = (sym (ranked f.kind) ∙ ap kind_of same ∙ ranked g.kind) i; offset = at.0 i }

-- the first fault is one
pub one_first : (Fault : FaultKind → ℕ → Type 0) (f g : DocumentFault) → IsFirst Fault f → IsFirst Fault g → f ≡ g
one_first Fault f g is_f is_g = one_fault f g (is_f.least g.kind g.offset is_g.fault) (is_g.least f.kind f.offset is_f.fault)

-- the first count over its limit is one
pub one_over : (protocols : List Declaration) (top : ℕ) (what what' : What) (count count' : ℕ) → IsFirstOver protocols top what count → IsFirstOver protocols top what' count' → (what ≡ what') × (count ≡ count')
one_over protocols top what what' count count' one other =
    let found : Some one.over ≡ Some other.over = sym one.first ∙ other.first in
    let same : one.over ≡ other.over = cc in
    (sym one.counted ∙ ap (λ (l : Limit). l.what) same ∙ other.counted, one.reported ∙ ap (λ (l : Limit). saturated l.count) same ∙ sym other.reported)

-- two items in a list are one, or one of them stands before the other
meeting : {X : Type 0} (front front' back back' : List X) (x y : X) → front ++ x ∷ back ≡ front' ++ y ∷ back' → ((front ≡ front') × (x ≡ y)) ⊎ (((rest : List X) × (front' ≡ front ++ x ∷ rest)) ⊎ ((rest : List X) × (front ≡ front' ++ y ∷ rest)))
meeting [] [] back back' x y same = inl (refl, cc)
meeting {X} [] (z ∷ front') back back' x y same = inr (inl (front', let first : x ≡ z = cc in ap (λ (v : X). v ∷ front') (sym first)))
meeting {X} (z ∷ front) [] back back' x y same = inr (inr (front, let first : z ≡ y = cc in ap (λ (v : X). v ∷ front) first))
meeting (z ∷ front) (z' ∷ front') back back' x y same =
    let first : z ≡ z' = cc in
    let later : front ++ x ∷ back ≡ front' ++ y ∷ back' = cc in
    elim (meeting front front' back back' x y later) [
      | inl both ↦ inl ((λ i. first i ∷ both.0 i), both.1)
      | inr (inl after) ↦ inr (inl (after.0, λ i. sym first i ∷ after.1 i))
      | inr (inr before) ↦ inr (inr (before.0, λ i. first i ∷ before.1 i))
    ]

-- words are not distinct if one has the name of one before it
pub not_distinct : (words front back : List Word) (w : Word) → words ≡ front ++ w ∷ back → AreDistinct words → Contains (texts front) w.text → ⊥
not_distinct words front back w parts words_distinct again =
    let text = λ (v : Word). v.text in
    let inside : again.0 < length front = omega (arith, length-map front text, again.1) in
    let apart : AllPairs (λ v u. v.text ≢ u.text) (front ++ w ∷ back) = subst (AllPairs (λ (v u : Word). v.text ≢ u.text)) parts words_distinct.distinct in
    apart again.0 (length front) w inside (omega (arith, length-append front (w ∷ back)))
    (ap text (get_or_append_left front (w ∷ back) w again.0 inside) ∙ sym (get_or-map text front again.0 w w.text inside) ∙ again.2 ∙ sym (ap text (get_or_at front w back w (length front) refl)))

-- the first word that is repeated is one
pub one_repeated : (words : List Word) (offset other : ℕ) → RepeatsFirst words offset → RepeatsFirst words other → offset ≡ other
one_repeated words offset other one two =
    elim (meeting one.before two.before one.after two.after one.word two.word (sym one.parts ∙ two.parts)) [
      | inl both ↦ sym one.located ∙ ap (λ (v : Word). v.offset) both.1 ∙ two.located
      | inr (inl after) ↦ absurd (not_distinct two.before one.before after.0 one.word after.1 two.distinct one.repeats)
      | inr (inr before) ↦ absurd (not_distinct one.before two.before before.0 two.word before.1 one.distinct two.repeats)
    ]

-- and there is none where words are apart
pub none_repeated : (words : List Word) (offset : ℕ) → AreDistinct words → RepeatsFirst words offset → ⊥
none_repeated words offset apart repeated = not_distinct words repeated.before repeated.after repeated.word repeated.parts apart repeated.repeats
