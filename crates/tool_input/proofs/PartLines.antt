-- The lines of an input before its first part line, each with its LF.
use Rattle.std.specs.Prelude.{not}
use Rattle.std.specs.List.{flat_map, list_any, onto_first, prefix_len}
use Rattle.std.proofs.Common.{◌≡◌, ℕ, ◌+◌, ◌<◌, ◌≤◌, true, false, List, [], ◌∷◌, ◌++◌, length, get_or, take, drop, eqb, refl, sym, ◌∙◌, ap, arith, length-append}
use Rattle.std.proofs.Math.Seq.{take-append_seam}
use Rattle.std.proofs.lemmas.Bool.{both_ways, cond-false, cond-true, cond_both, eqb-true, false_from_ne_true, not_from_false, not_from_true, or_from}
use Rattle.std.proofs.lemmas.List.{flat_map_more, get_or-take, length-take-le, length_push, take-append-drop, take-append-le, take_all, take_more}
use Rattle.std.proofs.lemmas.List.Concat.{flat_map-append}
use Rattle.std.proofs.lemmas.List.Folds.{length-flat_map-take, list_any_at, list_any_more}
use Rattle.std.proofs.lemmas.List.Splits.{length-slice_split}
use Rattle.std.proofs.lemmas.List.Sums.{prefix_len_is}
use Rattle.tool_input.specs.Parts.{has_part_line, is_part_line, protocol_text}
use Rattle.tool_input.specs.Lines.{line, lines}

-- the first lines of the input, each with its LF
abbrev pub front_lines : List ℕ → ℕ → List ℕ
front_lines input count = flat_map line (take count (lines input))

-- the first lines of the input were passed over: none is a part line, and the next one starts there
pub record HasPassed (input : List ℕ) (count start : ℕ) : Type 0 where
  pub starts : start ≡ length (front_lines input count)
  pub none : list_any is_part_line (take count (lines input)) ≡ false

-- the line stands behind so many lines of the input
pub record IsNext (input : List ℕ) (count : ℕ) (next : List ℕ) : Type 0 where
  pub within : count < length (lines input)
  pub there : next ≡ get_or (lines input) count next

-- a byte before the first line stands before all of them
onto_first_line : (x : ℕ) (parts : List (List ℕ)) → 0 < length parts → flat_map line (onto_first x parts) ≡ x ∷ flat_map line parts
onto_first_line x [] some = absurd (omega arith)
onto_first_line x (part ∷ parts) some = refl

-- the lines of a text are the text with one more LF
lines_again : (text : List ℕ) → flat_map line (lines text) ≡ text ++ 10 ∷ []
lines_again [] = refl
lines_again (x ∷ text) = cond_both (eqb x 10) ([] ∷ lines text) (onto_first x (lines text)) (λ parts. flat_map line parts ≡ x ∷ (text ++ 10 ∷ []))
    (λ is_lf i. sym (eqb-true x 10 is_lf) i ∷ lines_again text i)
    (λ _. onto_first_line x (lines text) (omega (arith, length-slice_split (λ b. eqb b 10) text)) ∙ ap (λ rest. x ∷ rest) (lines_again text))

-- one more item adds what the function gives for it
flat_map_push : {X Y : Type 0} (f : X → List Y) (xs : List X) (x : X) → flat_map f (xs ++ x ∷ []) ≡ flat_map f xs ++ f x
flat_map_push f xs x = sym (flat_map_more f [] xs x)

-- a line and those before it are no longer than the input with one more LF
pub line_within : (input : List ℕ) (count : ℕ) (next : List ℕ) → IsNext input count next → length (front_lines input count) + (length next + 1) ≤ length input + 1
line_within input count next is_next =
    let fits = length-flat_map-take line (lines input) count next is_next.within in
    let whole = ap length (lines_again input) ∙ length_push input 10 in
    let with_lf = ap (λ l. length (line l)) (sym is_next.there) ∙ length_push next 10 in
    omega (arith, fits, whole, with_lf)

-- the lines before another are a prefix of the input
lines_are_front : (input : List ℕ) (count : ℕ) (next : List ℕ) → IsNext input count next → take (length (front_lines input count)) input ≡ front_lines input count
lines_are_front input count next is_next =
    let front = front_lines input count in
    let behind = flat_map line (drop count (lines input)) in
    let all : input ++ 10 ∷ [] ≡ front ++ behind = sym (lines_again input) ∙ ap (flat_map line) (sym (take-append-drop count (lines input))) ∙ flat_map-append line (take count (lines input)) (drop count (lines input)) in
    sym (take-append-le (length front) input (10 ∷ []) (omega (arith, line_within input count next is_next))) ∙ ap (take (length front)) all ∙ take-append_seam front behind

-- at first nothing was passed over
pub nothing_passed : (input : List ℕ) → HasPassed input 0 0
nothing_passed input = record { starts = refl; none = refl }

-- then one more line that is no part line
pub line_passed : (input : List ℕ) (count start : ℕ) (next : List ℕ) → HasPassed input count start → IsNext input count next → is_part_line next ≡ false → HasPassed input (count + 1) (start + (length next + 1))
line_passed input count start next passed is_next is_none = record {
  starts =
      let more = ap (flat_map line) (take_more (lines input) count next is_next.within ∙ ap (λ l. take count (lines input) ++ l ∷ []) (sym is_next.there)) ∙ flat_map_push line (take count (lines input)) next in
      omega (arith, passed.starts, ap length more, length-append (front_lines input count) (line next), length_push next 10);
  none = list_any_more is_part_line (lines input) count next is_next.within ∙ or_from _ _ passed.none (ap is_part_line (sym is_next.there) ∙ is_none);
}

-- the lines that were passed over are those before the first part line
passed_until : (input : List ℕ) (count start : ℕ) (next : List ℕ) → HasPassed input count start → IsNext input count next → is_part_line next ≡ true → prefix_len (λ l. not (is_part_line l)) (lines input) ≡ count
passed_until input count start next passed is_next is_part =
    prefix_len_is (λ l. not (is_part_line l)) (lines input) count next (omega (arith, is_next.within))
    (λ k below. not_from_false _ (false_from_ne_true _ (λ yes. both_ways _ passed.none
    (list_any_at is_part_line (take count (lines input)) k next (omega (arith, length-take-le count (lines input) (omega (arith, is_next.within)))) (ap is_part_line (get_or-take count (lines input) k next below) ∙ yes)))))
    (λ _. not_from_true _ (ap is_part_line (sym is_next.there) ∙ is_part))

-- at a part line the protocol text ends
pub before_part_line : (input : List ℕ) (count start : ℕ) (next : List ℕ) → HasPassed input count start → IsNext input count next → is_part_line next ≡ true → take start input ≡ protocol_text input
unfolding protocol_text has_part_line
before_part_line input count start next passed is_next is_part =
    let some : has_part_line input ≡ true = list_any_at is_part_line (lines input) count next is_next.within (ap is_part_line (sym is_next.there) ∙ is_part) in
    ap (λ n. take n input) passed.starts
    ∙ lines_are_front input count next is_next
    ∙ ap (front_lines input) (sym (passed_until input count start next passed is_next is_part))
    ∙ sym (cond-true (has_part_line input) _ input some)

-- without one it is the whole input
pub no_part_line : (input : List ℕ) (count start : ℕ) → HasPassed input count start → count ≡ length (lines input) → input ≡ protocol_text input
unfolding protocol_text has_part_line
no_part_line input count start passed all =
    let none : has_part_line input ≡ false = ap (list_any is_part_line) (sym (take_all count (lines input) (omega (arith, all)))) ∙ passed.none in
    sym (cond-false (has_part_line input) _ input none)
