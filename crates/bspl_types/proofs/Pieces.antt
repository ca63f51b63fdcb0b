-- The pieces of a text round a byte, the first one first.
use Rattle.std.proofs.Common.{◌≡◌, ◌≢◌, ℕ, ◌+◌, ◌<◌, ◌≤◌, Bool, List, [], ◌∷◌, length, take, drop, arith, subst, sym, length-drop}
use Rattle.std.specs.List.{position_or_len, slice_split}
use Rattle.std.proofs.lemmas.List.Splits.{slice_split_first, slice_split_none}
use Rattle.std.proofs.lemmas.List.Sums.{fails_before_first}

-- where the byte stands, the first piece ends, and a shorter text is left
pub two_pieces : (p : ℕ → Bool) (text : List ℕ) (end : ℕ) (rest : List ℕ) → rest ≡ drop (end + 1) text → end ≡ position_or_len p text → end ≤ length text → end ≢ length text → (slice_split p text ≡ take end text ∷ slice_split p rest) × (length rest < length text)
two_pieces p text end rest is_rest is_first within inside =
    rw is_rest (
      subst (λ place. slice_split p text ≡ take place text ∷ slice_split p (drop (place + 1) text)) (sym is_first) (slice_split_first p text 0 (omega (arith, is_first, within, inside))),
      simp length-drop (omega (arith, within, inside)),
    )

-- where it stands nowhere, there is one piece
pub one_piece : (p : ℕ → Bool) (text : List ℕ) → position_or_len p text ≡ length text → slice_split p text ≡ text ∷ []
one_piece p text nowhere = slice_split_none p text (λ k d before. fails_before_first p text k d (omega (arith, before, nowhere)))
