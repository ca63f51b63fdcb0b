-- Bytes that may be left where a crash came while others were written.
use Rattle.std.proofs.Common.{◌≡◌, ◌<◌, ◌≤◌, ◌+◌, ℕ, Bool, true, false, cond, min, List, [], ◌∷◌, ◌++◌, length, replicate, take, refl, sym, ap, subst, ◌∙◌, append_assoc, inl, inr, length-take, length-take-le, arith}
use Rattle.std.specs.Prelude.{◌⊎◌, slice_index_or as get_or}
use Rattle.std.specs.List.{AllZip, zip}
use Rattle.std.proofs.lemmas.List.{length-map, take_more, get_or-map, get_or-take, get_or_default}
use Rattle.std.proofs.lemmas.List.Elements.{All-replicate, all_zip_more, length_all_zip, AllZip-get_or}
use Rattle.std.proofs.lemmas.Slice.Zip.{get_or-zip, length-zip}
use Rattle.kept_lines.specs.CrashImage.{IsCrashImage, IsHalfWritten}
use Rattle.kept_lines.specs.Memory.{half_left}

-- a byte that was written, and what is left of it
abbrev pub IsLeftOf : ℕ → ℕ → Type 0
IsLeftOf byte other = (other ≡ byte) ⊎ (other ≡ 0)

-- these may be left of the first bytes, one of each
abbrev pub IsHalfUpTo : List ℕ → List ℕ → ℕ → Type 0
IsHalfUpTo written left count = AllZip IsLeftOf (take count written) left

-- one byte more
pub half_more : (written left : List ℕ) (index other : ℕ) → index < length written
    → IsHalfUpTo written left index → IsLeftOf (get_or written index 0) other
    → IsHalfUpTo written (left ++ other ∷ []) (index + 1)
half_more written left index other within half is =
    all_zip_more IsLeftOf written left index (get_or written index 0) other within (get_or_default written index 0 (get_or written index 0) within) half is

-- one byte more of those that are left
pub half_take_more : (written left : List ℕ) (index : ℕ) → index < length written
    → index < length left → IsHalfUpTo written (take index left) index
    → IsLeftOf (get_or written index 0) (get_or left index 0)
    → IsHalfUpTo written (take (index + 1) left) (index + 1)
half_take_more written left index within inside half is =
    let P : List ℕ → Type 0 = λ bytes. IsHalfUpTo written bytes (index + 1) in
    subst P (sym (take_more left index 0 inside)) (half_more written (take index left) index (get_or left index 0) within half is)

-- all of the bytes that are left
pub half_whole : (written left : List ℕ) (count : ℕ) → count ≤ length written
    → IsHalfUpTo written left count → IsHalfWritten written left
half_whole written left count within half =
    let same = length_all_zip IsLeftOf (take count written) left half in
    let cut = length-take-le count written within in
    let P : ℕ → Type 0 = λ n. AllZip IsLeftOf (take n written) left in
    subst P (sym cut ∙ same) half

-- each byte that is left is left of its own
pub half_at : (written left : List ℕ) (index : ℕ) → index < length left
    → IsHalfWritten written left → IsLeftOf (get_or written index 0) (get_or left index 0)
half_at written left index inside half =
    let same = length_all_zip IsLeftOf (take (length left) written) left half in
    let P : ℕ → Type 0 = λ byte. IsLeftOf byte (get_or left index 0) in
    subst P (get_or-take (length left) written index 0 inside) (AllZip-get_or IsLeftOf (take (length left) written) left index 0 0 half (omega (arith, same, inside)))

-- no more bytes are left than were written
pub half_within : (written left : List ℕ) → IsHalfWritten written left
    → length left ≤ length written
half_within written left half =
    let same = length_all_zip IsLeftOf (take (length left) written) left half in
    let cut = length-take (length left) written in
    omega (arith, same, cut)

-- one byte that is left for each that was written and is spoken of
pub left_length : (written : List ℕ) (reached : List Bool)
    → length (half_left written reached) ≡ min (length written) (length reached)
left_length written reached =
    length-map (zip written reached) (λ (byte : ℕ × Bool). cond byte.1 byte.0 0) ∙ length-zip written reached

-- the next byte that is left
pub left_more : (written : List ℕ) (reached : List Bool) (index next : ℕ) → index < length written
    → index < length reached → next ≡ cond (get_or reached index false) (get_or written index 0) 0
    → take (index + 1) (half_left written reached) ≡ take index (half_left written reached) ++ next ∷ []
left_more written reached index next within spoken is =
    let left = half_left written reached in
    let whole = left_length written reached in
    let pairs = zip written reached in
    let pair = get_or-zip written reached index (0, false) within spoken in
    let inside : index < length pairs = omega (arith, length-zip written reached, within, spoken) in
    let f : ℕ × Bool → ℕ = λ byte. cond byte.1 byte.0 0 in
    let here = get_or-map f pairs index (0, false) 0 inside in
    take_more left index 0 (omega (arith, whole, within, spoken))
    ∙ ap (λ (byte : ℕ). take index left ++ byte ∷ []) (here ∙ ap f pair ∙ sym is)

-- what is left of each byte is that byte or a 0
left_of_byte : (byte : ℕ) (arrived : Bool) → IsLeftOf byte (cond arrived byte 0)
left_of_byte byte true = inl refl
left_of_byte byte false = inr refl

-- so these bytes may be left where a crash came
pub left_is_half : (written : List ℕ) (reached : List Bool)
    → IsHalfWritten written (half_left written reached)
left_is_half [] reached = tt
left_is_half (byte ∷ written) [] = tt
left_is_half (byte ∷ written) (arrived ∷ reached) =
    (left_of_byte byte arrived, left_is_half written reached)

-- a crash may leave them behind the lines that were kept, and zeros behind them
pub left_is_crash : (kept begun image : List ℕ) (reached : List Bool) (zeros : ℕ)
    → image ≡ kept ++ half_left begun reached ++ replicate zeros 0 → IsCrashImage kept begun image
left_is_crash kept begun image reached zeros is = record {
  left = half_left begun reached;
  zeros = replicate zeros 0;
  half = left_is_half begun reached;
  room = All-replicate (λ (byte : ℕ). byte ≡ 0) zeros 0 refl;
  whole = is ∙ append_assoc kept (half_left begun reached) (replicate zeros 0);
}
