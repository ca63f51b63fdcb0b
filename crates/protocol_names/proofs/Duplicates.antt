-- One name more, among those that are declared one after the other.
use Rattle.std.proofs.Common.{◌≡◌, ℕ, ◌⊎◌, Bool, List, [], ◌∷◌, ◌++◌, length, Option, None, refl, sym, ◌∙◌, ap, subst, inl, inr, arith}
use Rattle.std.specs.Prelude.{◌↔◌, IsTrue}
use Rattle.std.specs.List.{Contains}
use Rattle.std.proofs.lemmas.List.{append_assoc, length-append, map-append}
use Rattle.bspl_parser.specs.declared.word.Word.{Word}
use Rattle.protocol_names.specs.declared.fault.DocumentFault.{DocumentFault}
use Rattle.protocol_names.specs.declared.fault.FaultKind.{FaultKind}
use Rattle.protocol_names.specs.declared.fault.FaultKind.TheVariants.{Duplicate}
use Rattle.protocol_names.specs.Fault.{IsDuplicate, repeated}
use Rattle.protocol_names.specs.FaultOrder.{EitherFault, FindsFirst, FaultIf, holds, earlier}
use Rattle.protocol_names.specs.Names.{texts}
use Rattle.protocol_names.specs.inner.DeclaredNames.{AreDeclared}
use Rattle.protocol_names.proofs.FaultOrderLemmas.{finds_same, finds_two, holds_same}

-- a word of a longer list comes before its end or is at it
split_end : (words before after : List Word) (w v : Word) → words ++ w ∷ [] ≡ before ++ v ∷ after → ((rest : List Word) × (words ≡ before ++ v ∷ rest)) ⊎ ((words ≡ before) × (w ≡ v))
split_end [] [] after w v same = inr (refl, cc)
split_end [] (z ∷ zs) after w v same = absurd (omega (arith, ap length same, length-append zs (v ∷ after)))
split_end (x ∷ xs) [] after w v same = inl (xs, let first : x ≡ v = cc in ap (λ (y : Word). y ∷ xs) first)
split_end (x ∷ xs) (z ∷ zs) after w v same =
    let first : x ≡ z = cc in
    let later : xs ++ w ∷ [] ≡ zs ++ v ∷ after = cc in
    elim (split_end xs zs after w v later) [
      | inl earlier_one ↦ inl (earlier_one.0, λ i. first i ∷ earlier_one.1 i)
      | inr at ↦ inr ((λ i. first i ∷ at.0 i), at.1)
    ]

-- the last of the words is a duplicate if its name is among the others
to_longer : (words : List Word) (w : Word) (kind : FaultKind) (offset : ℕ) → EitherFault (IsDuplicate words) (FaultIf (Contains (texts words) w.text) Duplicate w.offset) kind offset → IsDuplicate (words ++ w ∷ []) kind offset
to_longer words w kind offset (inl (repeated v again)) = repeated v (record {
  before = again.before;
  after = again.after ++ w ∷ [];
  parts = ap (λ ws. ws ++ w ∷ []) again.parts ∙ append_assoc again.before (v ∷ again.after) (w ∷ []);
  repeats = again.repeats;
})
to_longer words w kind offset (inr (holds among)) = repeated w (record { before = words; after = []; parts = refl; repeats = among })

-- and the other way
from_longer : (words : List Word) (w : Word) (kind : FaultKind) (offset : ℕ) → IsDuplicate (words ++ w ∷ []) kind offset → EitherFault (IsDuplicate words) (FaultIf (Contains (texts words) w.text) Duplicate w.offset) kind offset
from_longer words w kind offset (repeated v again) = elim (split_end words again.before again.after w v again.parts) [
  | inl before ↦ inl (repeated v (record { before = again.before; after = before.0; parts = before.1; repeats = again.repeats }))
  | inr at ↦ inr (subst (λ (u : Word). FaultIf (Contains (texts words) w.text) Duplicate w.offset Duplicate u.offset) at.1 (holds (subst (λ (u : Word). Contains (texts words) u.text) (sym at.1) (subst (λ ws. Contains (texts ws) v.text) (sym at.0) again.repeats))))
]

-- no word is a duplicate of nothing
pub named_none : AreDeclared [] [] None
named_none = record { in_order = refl; duplicate = none }
  where
    none : (kind : FaultKind) (offset : ℕ) → ¬ IsDuplicate [] kind offset
    none kind offset (repeated v again) = omega (arith, ap length again.parts, length-append again.before (v ∷ again.after))

-- one word more
pub named_push : (words : List Word) (w : Word) (names names' : List (List ℕ)) (first fault first' : Option DocumentFault) (again : Bool) → AreDeclared words names first → IsTrue again ↔ Contains names w.text → FindsFirst (FaultIf (IsTrue again) Duplicate w.offset) fault → first' ≡ earlier first fault → names' ≡ names ++ w.text ∷ [] → AreDeclared (words ++ w ∷ []) names' first'
named_push words w names names' first fault first' again named tests finds is_first is_names = record {
  in_order = is_names ∙ ap (λ ns. ns ++ w.text ∷ []) named.in_order ∙ sym (map-append (λ (u : Word). u.text) words (w ∷ []));
  duplicate =
      let tests_words : IsTrue again ↔ Contains (texts words) w.text = subst (λ ns. IsTrue again ↔ Contains ns w.text) named.in_order tests in
      let one = holds_same (IsTrue again) (Contains (texts words) w.text) Duplicate w.offset fault tests_words.0 tests_words.1 finds in
      finds_same (EitherFault (IsDuplicate words) (FaultIf (Contains (texts words) w.text) Duplicate w.offset)) (IsDuplicate (words ++ w ∷ [])) first' (to_longer words w) (from_longer words w)
      (finds_two (IsDuplicate words) (FaultIf (Contains (texts words) w.text) Duplicate w.offset) first fault first' named.duplicate one is_first);
}
