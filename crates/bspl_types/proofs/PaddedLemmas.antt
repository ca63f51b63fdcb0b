-- What is written over the front of blank cells is padded.
use Rattle.std.proofs.Common.{◌≡◌, ◌<◌, ◌≤◌, ◌+◌, ◌-◌, ℕ, List, ◌++◌, length, take, drop, replicate, set, arith, length-append, length-drop, length-set, ap, ◌∙◌, sym}
use Rattle.std.proofs.lemmas.List.{drop-drop, drop-replicate, drop-set-lt, length-replicate}
use Rattle.std.proofs.Math.Seq.{drop-append_seam, take-append_seam}
use Rattle.bspl_types.specs.inner.Padded.{IsPadded}

-- so many items at the front, and blanks where nothing was written
pub front_is_padded : {X : Type 0} (room : ℕ) (blank : X) (n : ℕ) (items : List X) → length items ≡ n → n ≤ room → IsPadded room blank n (items ++ drop n (replicate room blank))
front_is_padded room blank n items is_long fits =
    record {
      few = fits;
      all = grind (arith, length-append, length-drop, length-replicate);
      rest = ap (λ k. drop k (items ++ drop n (replicate room blank))) (sym is_long) ∙ drop-append_seam items (drop n (replicate room blank)) ∙ drop-replicate n room blank;
    }

-- what was written is at the front
pub take_front : {X : Type 0} (items rest : List X) (n : ℕ) → length items ≡ n → take n (items ++ rest) ≡ items
take_front items rest n is_long = ap (λ k. take k (items ++ rest)) (sym is_long) ∙ take-append_seam items rest

-- an item goes into the first blank cell
pub push_is_padded : {X : Type 0} (room : ℕ) (blank : X) (n : ℕ) (cells : List X) (item : X) → IsPadded room blank n cells → n < room → IsPadded room blank (n + 1) (set cells n item)
push_is_padded room blank n cells item is_padded has_room =
    record {
      few = omega (arith, has_room);
      all = length-set cells n item ∙ is_padded.all;
      rest = drop-set-lt (n + 1) cells n item (omega arith) ∙ sym (drop-drop 1 n cells) ∙ ap (drop 1) is_padded.rest ∙ drop-replicate 1 (room - n) blank ∙ ap (λ k. replicate k blank) (omega arith);
    }
