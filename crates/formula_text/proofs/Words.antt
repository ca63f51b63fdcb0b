-- Words that are joined by spaces are the words of their line, and lines are those of their text.
use Rattle.std.proofs.Common.{◌≡◌, ℕ, ◌<◌, true, false, eqb, List, [], ◌∷◌, ◌++◌, map, codes, refl, ap, ◌∙◌, append_assoc, arith}
use Rattle.std.specs.Prelude.{◌||◌}
use Rattle.std.specs.List.{All, AllByRecursion, filter, flat_map, join_with_byte, slice_split}
use Rattle.std.proofs.lemmas.Bool.{cond-true, ne_eqb, or_from}
use Rattle.std.proofs.lemmas.List.Elements.{All-append, All-cons, All-nil, All-weaker}
use Rattle.std.proofs.lemmas.List.Splits.{slice_split_at, slice_split_none}
use Rattle.list_base.specs.Lines.{line_of}
use Rattle.dimacs.specs.Dimacs.{is_word, parts_words, text_lines, words_of}

-- the word is not empty, and has bytes past the space alone
pub record IsPrinted (word : List ℕ) : Type 0 where
  pub past : All (λ byte. 32 < byte) word
  pub some : is_word word ≡ true

-- the bytes have no LF
abbrev pub LacksLf : List ℕ → Type 0
LacksLf bytes = All (λ byte. eqb byte 10 ≡ false) bytes

-- a byte past the space parts no words
parts_none : (b : ℕ) → 32 < b → parts_words b ≡ false
parts_none b past =
    or_from (eqb b 32 || eqb b 9) (eqb b 13) (or_from (eqb b 32) (eqb b 9) (ne_eqb b 32 (λ e. omega arith)) (ne_eqb b 9 (λ e. omega arith))) (ne_eqb b 13 (λ e. omega arith))

-- nor does a byte of a word
whole : (word : List ℕ) → IsPrinted word → All (λ byte. parts_words byte ≡ false) word
whole word printed = All-weaker (λ byte. 32 < byte) (λ byte. parts_words byte ≡ false) parts_none word printed.past

-- a printed word has no LF
pub printed_lacks : (word : List ℕ) → IsPrinted word → LacksLf word
printed_lacks word printed =
    All-weaker (λ byte. 32 < byte) (λ byte. eqb byte 10 ≡ false) (λ b past. ne_eqb b 10 (λ e. omega arith)) word printed.past

-- joined words are parted into the words
joined_parts : (word : List ℕ) (words : List (List ℕ)) → AllByRecursion IsPrinted (word ∷ words) → slice_split parts_words (join_with_byte 32 (word ∷ words)) ≡ word ∷ words
joined_parts word [] all = slice_split_none parts_words word (whole word all.0)
joined_parts word (next ∷ words) all =
    slice_split_at parts_words word 32 (join_with_byte 32 (next ∷ words)) (whole word all.0) refl ∙ ap (λ (parts : List (List ℕ)). word ∷ parts) (joined_parts next words all.1)

-- none of them is empty
words_kept : (words : List (List ℕ)) → AllByRecursion IsPrinted words → filter is_word words ≡ words
words_kept [] all = refl
words_kept (word ∷ words) all =
    cond-true (is_word word) (word ∷ filter is_word words) (filter is_word words) all.0.some ∙ ap (λ (rest : List (List ℕ)). word ∷ rest) (words_kept words all.1)

-- so they are the words of the line
pub words_joined : (word : List ℕ) (words : List (List ℕ)) → AllByRecursion IsPrinted (word ∷ words) → words_of (join_with_byte 32 (word ∷ words)) ≡ word ∷ words
words_joined word words all = ap (filter is_word) (joined_parts word words all) ∙ words_kept (word ∷ words) all

-- words without an LF, joined, have none
joined_lack : (words : List (List ℕ)) → AllByRecursion LacksLf words → LacksLf (join_with_byte 32 words)
joined_lack [] all = All-nil (λ byte. eqb byte 10 ≡ false)
joined_lack (word ∷ []) all = all.0
joined_lack (word ∷ next ∷ words) all =
    All-append (λ byte. eqb byte 10 ≡ false) word (32 ∷ join_with_byte 32 (next ∷ words)) all.0 (All-cons (λ byte. eqb byte 10 ≡ false) 32 (join_with_byte 32 (next ∷ words)) refl (joined_lack (next ∷ words) all.1))

-- a line is the first one of its text
pub line_then : (words : List (List ℕ)) (rest : List ℕ) → AllByRecursion LacksLf words → text_lines (line_of words ++ rest) ≡ join_with_byte 32 words ∷ text_lines rest
line_then words rest all =
    ap text_lines (append_assoc (join_with_byte 32 words) (codes "\n") rest) ∙ slice_split_at (λ byte. eqb byte 10) (join_with_byte 32 words) 10 rest (joined_lack words all) refl

-- and several are the first ones
pub lines_then : {X : Type 0} (words : X → List (List ℕ)) (xs : List X) (rest : List ℕ) → AllByRecursion (λ x. AllByRecursion LacksLf (words x)) xs → text_lines (flat_map (λ x. line_of (words x)) xs ++ rest) ≡ map (λ x. join_with_byte 32 (words x)) xs ++ text_lines rest
lines_then words [] rest all = refl
lines_then words (x ∷ xs) rest all =
    ap text_lines (append_assoc (line_of (words x)) (flat_map (λ y. line_of (words y)) xs) rest) ∙ line_then (words x) (flat_map (λ y. line_of (words y)) xs ++ rest) all.0 ∙ ap (λ (lines : List (List ℕ)). join_with_byte 32 (words x) ∷ lines) (lines_then words xs rest all.1)
