-- Reading stops at one line.
use Rattle.std.proofs.Common.{◌≡◌, ℕ, All, List, [], ◌∷◌, ◌++◌, length, refl, sym, ap, subst, ◌∙◌, arith}
use Rattle.std.proofs.lemmas.List.Elements.{All-head, All-tail}
use Rattle.dimacs.specs.Dimacs.{HasHeader}
use Rattle.dimacs.specs.RefusedLine.{IsClauseLine, StopsBefore, StopsOnce, all_words, no_header, no_words, other_word}
use Rattle.dimacs.proofs.FormulaLemmas.{header_same}
use Rattle.dimacs.proofs.LineLemmas.{headless, wordless}
use Rattle.dimacs.proofs.ReadingLemmas.{all_after}

-- after the first item that is bad come the same ones
first_bad : {X : Type 0} (P : X → Type 0) (xs ys : List X) (x y : X) (after others : List X) → xs ++ x ∷ after ≡ ys ++ y ∷ others → All P xs → ¬ P x → All P ys → ¬ P y → after ≡ others
first_bad P [] [] x y after others same good bad good' bad' = cc
first_bad P [] (z ∷ ys) x y after others same good bad good' bad' =
    let heads : z ≡ x = cc in
    absurd (bad (subst P heads (All-head P z ys good')))
first_bad P (z ∷ xs) [] x y after others same good bad good' bad' =
    let heads : z ≡ y = cc in
    absurd (bad' (subst P heads (All-head P z xs good)))
first_bad P (z ∷ xs) (w ∷ ys) x y after others same good bad good' bad' =
    let tails : xs ++ x ∷ after ≡ ys ++ y ∷ others = cc in
    first_bad P xs ys x y after others tails (All-tail P z xs good) bad (All-tail P w ys good') bad'

-- two lines that have a word of no clause, and are the first such after a header
two_other : (lines : List (List ℕ)) (vars count : ℕ) (before : List (List ℕ)) (line : List ℕ) (after : List (List ℕ)) (vars' count' : ℕ) (before' : List (List ℕ)) (line' : List ℕ) (after' : List (List ℕ)) → HasHeader lines vars count (before ++ line ∷ after) → HasHeader lines vars' count' (before' ++ line' ∷ after') → All (IsClauseLine vars) before → ¬ IsClauseLine vars line → All (IsClauseLine vars') before' → ¬ IsClauseLine vars' line' → after ≡ after'
two_other lines vars count before line after vars' count' before' line' after' one other good bad good' bad' =
    let same = header_same lines vars count (before ++ line ∷ after) vars' count' (before' ++ line' ∷ after') one other in
    first_bad (IsClauseLine vars) before before' line line' after after' same.2 good bad
    (subst (λ n. All (IsClauseLine n) before') (sym same.0) good') (subst (λ n. ¬ IsClauseLine n line') (sym same.0) bad')

-- if all words may stand in clauses there is no such line
other_or_all : (lines : List (List ℕ)) (vars count : ℕ) (before : List (List ℕ)) (line : List ℕ) (after : List (List ℕ)) (vars' count' : ℕ) (after' : List (List ℕ)) → HasHeader lines vars count (before ++ line ∷ after) → ¬ IsClauseLine vars line → HasHeader lines vars' count' after' → All (IsClauseLine vars') after' → ⊥
other_or_all lines vars count before line after vars' count' after' one bad other good =
    let same = header_same lines vars count (before ++ line ∷ after) vars' count' after' one other in
    let all = subst (λ n. All (IsClauseLine n) (before ++ line ∷ after)) (sym same.0) (subst (All (IsClauseLine vars')) (sym same.2) good) in
    bad (All-head (IsClauseLine vars) line after (all_after (IsClauseLine vars) before (line ∷ after) all))

-- one list of lines is still to be read
same_stop : (lines a b : List (List ℕ)) → StopsBefore lines a → StopsBefore lines b → a ≡ b
same_stop lines _ _ (no_words none) (no_words again) = refl
same_stop lines _ _ (no_words none) (no_header line after found other) = let both : [] ≡ line ∷ after = sym none ∙ found in cc
same_stop lines _ _ (no_words none) (other_word vars count before line after header good bad) = absurd (wordless lines none vars count (before ++ line ∷ after) header)
same_stop lines _ _ (no_words none) (all_words vars count after header good) = refl
same_stop lines _ _ (no_header line after found other) (no_words none) = let both : [] ≡ line ∷ after = sym none ∙ found in cc
same_stop lines _ _ (no_header line after found other) (no_header line' after' found' other') = let both : line ∷ after ≡ line' ∷ after' = sym found ∙ found' in cc
same_stop lines _ _ (no_header line after found other) (other_word vars count before line' after' header good bad) = absurd (headless lines line after found other vars count (before ++ line' ∷ after') header)
same_stop lines _ _ (no_header line after found other) (all_words vars count after' header good) = absurd (headless lines line after found other vars count after' header)
same_stop lines _ _ (other_word vars count before line after header good bad) (no_words none) = absurd (wordless lines none vars count (before ++ line ∷ after) header)
same_stop lines _ _ (other_word vars count before line after header good bad) (no_header line' after' found other) = absurd (headless lines line' after' found other vars count (before ++ line ∷ after) header)
same_stop lines _ _ (other_word vars count before line after header good bad) (other_word vars' count' before' line' after' header' good' bad') = two_other lines vars count before line after vars' count' before' line' after' header header' good bad good' bad'
same_stop lines _ _ (other_word vars count before line after header good bad) (all_words vars' count' after' header' good') = absurd (other_or_all lines vars count before line after vars' count' after' header bad header' good')
same_stop lines _ _ (all_words vars count after header good) (no_words none) = refl
same_stop lines _ _ (all_words vars count after header good) (no_header line after' found other) = absurd (headless lines line after' found other vars count after header)
same_stop lines _ _ (all_words vars count after header good) (other_word vars' count' before line after' header' good' bad) = absurd (other_or_all lines vars' count' before line after' vars count after header' bad header good)
same_stop lines _ _ (all_words vars count after header good) (all_words vars' count' after' header' good') = refl

-- so its number is one
pub one_stop : StopsOnce
one_stop lines m n one other =
    omega (arith, one.counted, other.counted, ap length (same_stop lines one.after other.after one.stops other.stops))
