-- What a crash leaves of bytes that were written over zeros.
use Rattle.std.proofs.Common.{◌≡◌, ◌≤◌, ℕ, suc, List, [], ◌∷◌, ◌++◌, length, take, refl, sym, ap, ◌∙◌, inl, inr}
use Rattle.std.specs.Prelude.{◌⊎◌, All}
use Rattle.std.proofs.lemmas.List.Elements.{All-head, All-tail}
use Rattle.std.proofs.lemmas.Bool.{cases_eq}
use Rattle.kept_lines.specs.CrashImage.{CrashLeavesLines, IsCrashImage, IsHalfWritten}
use Rattle.kept_lines.specs.Text.{before_zero, image_text, whole_lines}
use Rattle.kept_lines.proofs.TextLemmas.{zero_ends, other_stays, text_joins}

-- nothing comes before zeros
zeros_are_empty : (zeros : List ℕ) → All (λ byte. byte ≡ 0) zeros → before_zero zeros ≡ []
zeros_are_empty [] are = refl
zeros_are_empty (byte ∷ zeros) are =
    zero_ends byte zeros (All-head (λ b. b ≡ 0) byte zeros are)

-- a byte that is left and is not 0 is the one that was written
is_as_written : (byte other : ℕ) → (other ≡ byte) ⊎ (other ≡ 0) → (other ≡ 0 → ⊥) → other ≡ byte
is_as_written byte other left is_other =
    (elim left as (λ _. other ≡ byte) [ inl same ↦ same | inr zero ↦ absurd (is_other zero) ])

-- before the first 0 the first of the written bytes are left
pub leaves_prefix : (written left zeros : List ℕ) → IsHalfWritten written left
    → All (λ byte. byte ≡ 0) zeros
    → (count : ℕ) × (before_zero (left ++ zeros) ≡ take count written)
leaves_prefix written [] zeros half room = (0, zeros_are_empty zeros room)
leaves_prefix [] (other ∷ left) zeros half room = absurd half
leaves_prefix (byte ∷ written) (other ∷ left) zeros half room =
    (elim (cases_eq other 0) as (λ _. (count : ℕ) × (before_zero (other ∷ (left ++ zeros)) ≡ take count (byte ∷ written))) [
      | inl is_zero ↦ (0, zero_ends other (left ++ zeros) is_zero)
      | inr is_other ↦
          let more = leaves_prefix written left zeros half.1 room in
          let same = is_as_written byte other half.0 is_other in
          (suc more.0, other_stays other (left ++ zeros) is_other ∙ ap (λ (b : ℕ). b ∷ before_zero (left ++ zeros)) same ∙ ap (λ (rest : List ℕ). byte ∷ rest) more.1)
    ])

-- the text is what was kept, and then the first of the begun lines
pub leaves_lines : CrashLeavesLines
leaves_lines kept begun image are is =
    let more = leaves_prefix begun is.left is.zeros is.half is.room in
    (more.0, ap (λ (b : List ℕ). image_text b) is.whole ∙ text_joins kept (is.left ++ is.zeros) are ∙ ap (λ (b : List ℕ). kept ++ whole_lines b) more.1)
