-- Parts between separators, and the lines of a text.
use Rattle.std.proofs.Common.{◌≡◌, ◌≢◌, ℕ, ◌+◌, ◌<◌, false, eqb, List, [], ◌∷◌, ◌++◌, length, get_or, take, drop, All, refl, sym, ap, ◌∙◌}
use Rattle.std.specs.List.{slice_split, onto_first, join_with_byte, AllByRecursion}
use Rattle.std.proofs.lemmas.Bool.{ne_eqb, eq-eqb, cond-false}
use Rattle.std.proofs.lemmas.List.{take-append-drop, drop_more}
use Rattle.std.proofs.lemmas.List.Elements.{All-weaker, recursion_from_All}
use Rattle.std.proofs.lemmas.List.Splits.{slice_split_none, slice_split_at}
use Rattle.list_base.specs.Lines.{lines_of}

-- none of the bytes is c
abbrev pub Lacks : ℕ → List ℕ → Type 0
Lacks c bytes = All (λ byte. byte ≢ c) bytes

tests_false : (c : ℕ) (xs : List ℕ) → Lacks c xs → All (λ byte. eqb byte c ≡ false) xs
tests_false c xs lacks = All-weaker (λ byte. byte ≢ c) (λ byte. eqb byte c ≡ false) (λ byte other. ne_eqb byte c other) xs lacks

pub parts_none : (c : ℕ) (xs : List ℕ) → Lacks c xs → slice_split (λ byte. eqb byte c) xs ≡ xs ∷ []
parts_none c xs lacks = slice_split_none (λ byte. eqb byte c) xs (tests_false c xs lacks)

pub parts_at : (c : ℕ) (xs ys : List ℕ) → Lacks c xs → slice_split (λ byte. eqb byte c) (xs ++ c ∷ ys) ≡ xs ∷ slice_split (λ byte. eqb byte c) ys
parts_at c xs ys lacks = slice_split_at (λ byte. eqb byte c) xs c ys (tests_false c xs lacks) (eq-eqb c c refl)

-- a list at a index where c stands
pub split_there : (c : ℕ) (xs : List ℕ) (i : ℕ) → i < length xs → get_or xs i 0 ≡ c → xs ≡ take i xs ++ c ∷ drop (i + 1) xs
split_there c xs i short there =
    sym (take-append-drop i xs) ∙ ap (λ (ys : List ℕ). take i xs ++ ys) (drop_more xs i 0 short ∙ ap (λ (b : ℕ). b ∷ drop (i + 1) xs) there)

-- parts without a separator, joined, are split_once into the same parts
pub parts-join : (c : ℕ) (x : List ℕ) (xs : List (List ℕ)) → AllByRecursion (Lacks c) (x ∷ xs) → slice_split (λ byte. eqb byte c) (join_with_byte c (x ∷ xs)) ≡ x ∷ xs
parts-join c x [] lack = parts_none c x lack.0
parts-join c x (y ∷ ys) lack = parts_at c x (join_with_byte c (y ∷ ys)) lack.0 ∙ ap (λ (parts : List (List ℕ)). x ∷ parts) (parts-join c y ys lack.1)

line_then : (xs rest : List ℕ) → AllByRecursion (λ byte. byte ≢ 10) xs → lines_of (xs ++ 10 ∷ rest) ≡ (xs ++ 10 ∷ []) ∷ lines_of rest
line_then [] rest lacks = refl
line_then (x ∷ xs) rest lacks =
    cond-false (eqb x 10) _ _ (ne_eqb x 10 lacks.0) ∙ ap (onto_first x) (line_then xs rest lacks.1)

-- a line with its LF, and the lines after it
pub lines-then : (xs rest : List ℕ) → Lacks 10 xs → lines_of (xs ++ 10 ∷ rest) ≡ (xs ++ 10 ∷ []) ∷ lines_of rest
lines-then xs rest lacks = line_then xs rest (recursion_from_All _ xs lacks)

open_line : (x : ℕ) (xs : List ℕ) → AllByRecursion (λ byte. byte ≢ 10) (x ∷ xs) → lines_of (x ∷ xs) ≡ (x ∷ xs) ∷ []
open_line x [] lacks = cond-false (eqb x 10) _ _ (ne_eqb x 10 lacks.0)
open_line x (y ∷ ys) lacks = cond-false (eqb x 10) _ _ (ne_eqb x 10 lacks.0) ∙ ap (onto_first x) (open_line y ys lacks.1)

-- bytes without an LF are one line, or none where there are none
pub lines-open : (x : ℕ) (xs : List ℕ) → Lacks 10 (x ∷ xs) → lines_of (x ∷ xs) ≡ (x ∷ xs) ∷ []
lines-open x xs lacks = open_line x xs (recursion_from_All _ (x ∷ xs) lacks)
