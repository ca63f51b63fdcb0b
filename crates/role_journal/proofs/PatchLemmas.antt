-- Bytes that are put into an image.
use Rattle.std.proofs.Common.{◌≡◌, ℕ, zero, suc, ◌+◌, ◌<◌, ◌≤◌, List, [], ◌∷◌, ◌++◌, length, take, drop, refl, sym, ap, ◌∙◌, arith, append_assoc}
use Rattle.std.specs.Prelude.{slice_index}
use borrow.Rule.Slice.PartMut.{put_mid}
use Rattle.std.proofs.lemmas.List.{take_all}
use Rattle.std.proofs.lemmas.Slice.{put_mid-paste}
use Rattle.role_journal.specs.Image.{HasBytes, IsTorn}
use Rattle.role_journal.specs.Recording.{patched}
use Rattle.role_journal.specs.RecordLaws.{length-patched, patched_above, patched_below}

-- a byte within the range
pub patched_inside : (image : List ℕ) (at : ℕ) (bytes : List ℕ) (i k : ℕ) → i ≡ at + k → k < length bytes → i < length image → slice_index (patched image at bytes) i ≡ slice_index bytes k
patched_inside [] at bytes i k is few within = absurd (omega arith)
patched_inside (old ∷ image) zero [] i k is few within = absurd (omega arith)
patched_inside (old ∷ image) zero (new ∷ bytes) zero zero is few within = refl
patched_inside (old ∷ image) zero (new ∷ bytes) zero (suc k) is few within = absurd (omega arith)
patched_inside (old ∷ image) zero (new ∷ bytes) (suc i) zero is few within = absurd (omega arith)
patched_inside (old ∷ image) zero (new ∷ bytes) (suc i) (suc k) is few within = patched_inside image 0 bytes i k (omega arith) (omega arith) (omega arith)
patched_inside (old ∷ image) (suc at) bytes zero k is few within = absurd (omega arith)
patched_inside (old ∷ image) (suc at) bytes (suc i) k is few within = patched_inside image at bytes i k (omega arith) few (omega arith)

-- the bytes stand in the image
pub patched_has : (image : List ℕ) (at : ℕ) (bytes : List ℕ) → at + length bytes ≤ length image → HasBytes (patched image at bytes) at bytes
patched_has image at bytes within = λ k few. patched_inside image at bytes (at + k) k refl few (omega arith)

-- all else stays
pub patched_torn : (image : List ℕ) (at : ℕ) (bytes : List ℕ) → IsTorn at (length bytes) image (patched image at bytes)
patched_torn image at bytes = record {
  size = length-patched image at bytes;
  below = λ i below. patched_below image at bytes i below;
  above = λ i above. patched_above image at bytes i above;
}

-- no bytes change nothing
patched_nothing : (image : List ℕ) (at : ℕ) → patched image at [] ≡ image
patched_nothing [] at = refl
patched_nothing (old ∷ image) zero = refl
patched_nothing (old ∷ image) (suc at) = ap (λ (rest : List ℕ). old ∷ rest) (patched_nothing image at)

-- bytes at the start, in place of as many
patched_first : (image bytes : List ℕ) → length bytes ≤ length image → patched image 0 bytes ≡ bytes ++ drop (length bytes) image
patched_first image [] few = patched_nothing image 0
patched_first [] (new ∷ bytes) few = absurd (omega arith)
patched_first (old ∷ image) (new ∷ bytes) few = ap (λ (rest : List ℕ). new ∷ rest) (patched_first image bytes (omega arith))

-- bytes that end within the image take the place of as many
pub patched_is : (image : List ℕ) (at : ℕ) (bytes : List ℕ) → at + length bytes ≤ length image → patched image at bytes ≡ take at image ++ (bytes ++ drop (at + length bytes) image)
patched_is [] zero bytes within = patched_first [] bytes (omega arith) ∙ ap (λ (n : ℕ). bytes ++ drop n []) (omega arith)
patched_is [] (suc at) bytes within = absurd (omega arith)
patched_is (old ∷ image) zero bytes within = patched_first (old ∷ image) bytes (omega arith) ∙ ap (λ (n : ℕ). bytes ++ drop n (old ∷ image)) (omega arith)
patched_is (old ∷ image) (suc at) bytes within =
    ap (λ (rest : List ℕ). old ∷ rest) (patched_is image at bytes (omega arith))
    ∙ ap (λ (n : ℕ). old ∷ (take at image ++ (bytes ++ drop n (old ∷ image)))) (let e : suc (at + length bytes) ≡ suc at + length bytes = omega arith in e)

-- so does a write to that part
pub mid_is_patched : (image : List ℕ) (at count : ℕ) (bytes new : List ℕ) → at + length bytes ≤ length image → count ≡ length bytes → new ≡ bytes → put_mid at count image new ≡ patched image at bytes
mid_is_patched image at count bytes new within counts is =
    put_mid-paste at count image new bytes (length bytes) is (sym counts) refl
    ∙ ap (λ (l : List ℕ). take at image ++ l ++ drop (at + length bytes) image) (take_all (length bytes) bytes (omega arith))
    ∙ append_assoc (take at image) bytes (drop (at + length bytes) image) ∙ sym (patched_is image at bytes within)
