-- The first field of a line.
use Rattle.std.proofs.Common.{◌≡◌, ◌≢◌, ℕ, Bor, true, false, eqb, List, [], ◌∷◌, ◌++◌, drop, Option, Some, None, refl, sym, ap, ◌∙◌, ◌⊎◌, inl, inr}
use Rattle.std.specs.Prelude.{MatchOption}
use Rattle.std.specs.Option.{option_copied}
use lib.Pointwise.{pointwise}
use Rattle.std.proofs.lemmas.Bool.{both_ways}
use Rattle.std.proofs.lemmas.Bool.Decides.{Decides-eqb}
use Rattle.std.proofs.lemmas.Slice.Eq.{slice_eq-Decides}
use Rattle.std.proofs.lemmas.List.{append-nil}
use Rattle.std.proofs.lemmas.List.Elements.{All-head, All-tail}
use Rattle.list_base.proofs.Separators.{Lacks}
use Rattle.run_text.specs.inner.LineFields.{spaced_fields, tail_of}

-- bytes that pass the test are the word
pub same_word : (line word : List ℕ) → pointwise eqb line word ≡ true → line ≡ word
same_word line word is = (slice_eq-Decides Decides-eqb line word (pointwise eqb line word) refl).0 is

-- bytes that fail it are not
pub other_word : (line word : List ℕ) → pointwise eqb line word ≡ false → line ≢ word
other_word line word other is = both_ways _ other ((slice_eq-Decides Decides-eqb line word (pointwise eqb line word) refl).1 is)

-- nothing, or something after a space
abbrev pub IsTail : List ℕ → Type 0
IsTail tail = (tail ≡ []) ⊎ ((more : List ℕ) × (tail ≡ 32 ∷ more))

-- what follows a field is such
pub tail_is : (more : Option (List ℕ)) → IsTail (tail_of more)
tail_is None = inl refl
tail_is (Some fields) = inr (fields, refl)

-- so are further fields
pub spaced_is : (fields : List (List ℕ)) → IsTail (spaced_fields fields)
spaced_is [] = inl refl
spaced_is (field ∷ fields) = inr (_, refl)

-- a byte that is no space does not begin a tail
no_tail : (b : ℕ) (rest tail : List ℕ) → b ≢ 32 → IsTail tail → tail ≢ b ∷ rest
no_tail b rest tail other is same =
    elim is [
      | inl none ↦ absurd (cc (none, same))
      | inr some ↦ other (let firsts : 32 ∷ some.0 ≡ b ∷ rest = sym some.1 ∙ same in cc)
    ]

-- a field without a space ends where its tail begins
pub same_field : (one other x y : List ℕ) → Lacks 32 one → Lacks 32 other → IsTail x → IsTail y → one ++ x ≡ other ++ y → (one ≡ other) × (x ≡ y)
same_field [] [] x y lacks also is_x is_y same = (refl, same)
same_field [] (b ∷ other) x y lacks also is_x is_y same = absurd (no_tail b (other ++ y) x (All-head (λ byte. byte ≢ 32) b other also) is_x same)
same_field (b ∷ one) [] x y lacks also is_x is_y same = absurd (no_tail b (one ++ x) y (All-head (λ byte. byte ≢ 32) b one lacks) is_y (sym same))
same_field (b ∷ one) (c ∷ other) x y lacks also is_x is_y same =
    let rest = same_field one other x y (All-tail (λ byte. byte ≢ 32) b one lacks) (All-tail (λ byte. byte ≢ 32) c other also) is_x is_y (ap (drop 1) same) in
    let fields : one ≡ other = rest.0 in
    let firsts : b ≡ c = cc in
    (cc, rest.1)

-- what was split at the first space is a field and its tail
pub field_then_tail : (text field : List ℕ) (more : Option (Bor (List ℕ))) → MatchOption more (text ≡ field) (λ rest. text ≡ field ++ 32 ∷ rest.now) → text ≡ field ++ tail_of (option_copied more)
field_then_tail text field None whole = whole ∙ sym (append-nil field)
field_then_tail text field (Some rest) whole = whole
