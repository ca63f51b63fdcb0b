-- Lines that were read, and the line at which that stops.
use Rattle.std.proofs.Common.{◌≡◌, ◌≢◌, ℕ, ◌+◌, ◌≤◌, ◌==◌, if◌then◌else◌, All, List, [], ◌∷◌, ◌++◌, map, length, refl, sym, ap, subst, ◌∙◌, arith}
use Rattle.std.specs.List.{flat_map}
use Rattle.std.proofs.lemmas.List.{append_assoc, append-nil}
use Rattle.std.proofs.lemmas.List.Elements.{All-cons, All-head, All-map, All-nil}
use Rattle.std.proofs.lemmas.List.Splits.{length-slice_split}
use Rattle.std.proofs.lemmas.List.Sums.{count_by-le-length}
use Rattle.std.proofs.lemmas.Grind.{flat_map-append}
use Rattle.clause_core.specs.declared.literal.Lit.{Lit}
use Rattle.dimacs.specs.declared.token.Token.{Token}
use Rattle.dimacs.specs.Dimacs.{HasHeader, IsHeader, from_first_words, has_words, line_words, text_lines}
use Rattle.dimacs.specs.RefusedLine.{IsClauseLine, IsClauseWord, StopsAt, all_words, no_header, no_words, other_word}
use Rattle.dimacs.specs.inner.Reading.{AreHeadless, AreRead, AreTaken, HasBadLine, TakesWords, TokenExists, token_word}
use Rattle.dimacs.proofs.FormulaLemmas.{words_of_all}
use Rattle.dimacs.proofs.ReadingLemmas.{all_after, all_before}

-- lines whose words may all stand in clauses
pub lines_of_words : (vars : ℕ) (lines : List (List ℕ)) → All (IsClauseWord vars) (flat_map line_words lines) → All (IsClauseLine vars) lines
lines_of_words vars [] all = All-nil (IsClauseLine vars)
lines_of_words vars (line ∷ lines) all =
    All-cons (IsClauseLine vars) line lines
    (all_before (IsClauseWord vars) (line_words line) (flat_map line_words lines) all)
    (lines_of_words vars lines (all_after (IsClauseWord vars) (line_words line) (flat_map line_words lines) all))

-- so are those whose words are tokens that exist
pub lines_of_tokens : (vars : ℕ) (tokens : List Token) (lines : List (List ℕ)) → All (TokenExists vars) tokens → map token_word tokens ≡ flat_map line_words lines → All (IsClauseLine vars) lines
lines_of_tokens vars tokens lines exist reads =
    lines_of_words vars lines (subst (All (IsClauseWord vars)) reads (All-map (IsClauseWord vars) token_word tokens (words_of_all vars tokens exist)))

-- a text has at most one line more than bytes
pub few_lines : (text : List ℕ) → length (text_lines text) ≤ length text + 1
few_lines text =
    omega (arith, length-slice_split (λ byte. byte == 10) text, count_by-le-length (λ byte. byte == 10) text)

-- and at least one
pub some_line : (text : List ℕ) → 1 ≤ length (text_lines text)
some_line text = omega (arith, length-slice_split (λ byte. byte == 10) text)

-- a line more
pub line_read : (vars : ℕ) (clauses new : List (List Lit)) (pending after : List Lit) (lines : List (List ℕ)) (line : List ℕ) (left : List (List ℕ)) (from n : ℕ) → AreRead vars clauses pending lines (line ∷ left) from n → TakesWords vars clauses pending (line_words line) new after → AreRead vars new after lines left from (n + 1)
line_read vars clauses new pending after lines line left from n read takes =
    let words : flat_map line_words read.before ++ line_words line ≡ flat_map line_words (read.before ++ line ∷ []) =
    ap (λ ws. flat_map line_words read.before ++ ws) (sym (append-nil (line_words line)))
    ∙ sym (flat_map-append line_words read.before (line ∷ [])) in
    record {
      before = read.before ++ line ∷ [];
      parts = read.parts ∙ sym (append_assoc read.before (line ∷ []) left);
      taken = subst (λ (ws : List (List ℕ)). AreTaken vars ws new after) words (takes (flat_map line_words read.before) read.taken);
      counted = omega (arith, read.counted);
    }

-- a line with a word of no clause
pub line_unread : (vars : ℕ) (clauses : List (List Lit)) (pending : List Lit) (lines : List (List ℕ)) (line : List ℕ) (left : List (List ℕ)) (from n : ℕ) → AreRead vars clauses pending lines (line ∷ left) from n → ¬ IsClauseLine vars line → HasBadLine vars lines from (n + 1)
line_unread vars clauses pending lines line left from n read other = record {
  before = read.before;
  bad = line;
  after = left;
  parts = read.parts;
  good = lines_of_tokens vars read.taken.tokens read.before read.taken.exist read.taken.words_are;
  other = other;
  counted = omega (arith, read.counted);
}

-- if all lines were read, the tokens are their words
pub all_read : (vars : ℕ) (clauses : List (List Lit)) (pending : List Lit) (lines : List (List ℕ)) (from n : ℕ) (read : AreRead vars clauses pending lines [] from n) → map token_word read.taken.tokens ≡ flat_map line_words lines
all_read vars clauses pending lines from n read =
    read.taken.words_are ∙ ap (flat_map line_words) (sym (read.parts ∙ append-nil read.before))

-- reading stops at the last line if all after the header were read
pub end_stops : (lines : List (List ℕ)) (vars count : ℕ) (after : List (List ℕ)) (clauses : List (List Lit)) (pending : List Lit) (from n : ℕ) → HasHeader lines vars count after → from + length after ≡ length lines → AreRead vars clauses pending after [] from n → StopsAt lines n
end_stops lines vars count after clauses pending from n header counted read = record {
  after = [];
  stops = all_words vars count after header (lines_of_tokens vars read.taken.tokens after read.taken.exist (all_read vars clauses pending after from n read));
  counted = omega (arith, read.counted, counted);
}

-- it stops at a line with a word of no clause
pub bad_line_stops : (lines : List (List ℕ)) (vars count : ℕ) (after : List (List ℕ)) (from n : ℕ) → HasHeader lines vars count after → from + length after ≡ length lines → HasBadLine vars after from n → StopsAt lines n
bad_line_stops lines vars count after from n header counted line = record {
  after = line.after;
  stops = other_word vars count line.before line.bad line.after (subst (HasHeader lines vars count) line.parts header) line.good line.other;
  counted = line.counted ∙ counted;
}

-- the words of such lines are not all of clauses
pub bad_words : (vars : ℕ) (lines : List (List ℕ)) (from n : ℕ) → HasBadLine vars lines from n → ¬ All (IsClauseWord vars) (flat_map line_words lines)
bad_words vars lines from n line all =
    line.other (All-head (IsClauseLine vars) line.bad line.after
    (all_after (IsClauseLine vars) line.before (line.bad ∷ line.after)
    (subst (All (IsClauseLine vars)) line.parts (lines_of_words vars lines all))))

-- the first line that has words, whatever they are
first_found : (line : List ℕ) (after words : List (List ℕ)) → line_words line ≡ words → words ≢ [] → from_first_words (line ∷ after) ≡ line ∷ after
first_found line after [] same some = absurd (some refl)
first_found line after (word ∷ words) same some = ap (λ ws. if has_words ws then line ∷ after else from_first_words after) same

-- lines whose first one that has words is no header have none
pub headless : (lines : List (List ℕ)) (line : List ℕ) (after : List (List ℕ)) → from_first_words lines ≡ line ∷ after → ((vars clauses : ℕ) → ¬ IsHeader (line_words line) vars clauses) → AreHeadless lines
headless lines line after found none vars clauses after' header =
    let both : line ∷ after ≡ header.line ∷ after' = sym found ∙ header.found in
    let same : line ≡ header.line = cc in
    none vars clauses (subst (λ l. IsHeader (line_words l) vars clauses) (sym same) header.header)

-- nor have lines without words
pub wordless : (lines : List (List ℕ)) → from_first_words lines ≡ [] → AreHeadless lines
wordless lines none vars clauses after header =
    let both : [] ≡ header.line ∷ after = sym none ∙ header.found in cc

-- reading stops at the first line that has words and is no header
pub header_stops : (lines left : List (List ℕ)) (line : List ℕ) (after : List (List ℕ)) (n : ℕ) → from_first_words left ≡ from_first_words lines → left ≡ line ∷ after → line_words line ≢ [] → ((vars clauses : ℕ) → ¬ IsHeader (line_words line) vars clauses) → n + length left ≡ length lines → AreHeadless lines × StopsAt lines (n + 1)
header_stops lines left line after n passed parts some none counted =
    let found : from_first_words lines ≡ line ∷ after = sym passed ∙ ap from_first_words parts ∙ first_found line after (line_words line) refl some in (
      headless lines line after found none,
      record {
        after = after;
        stops = no_header line after found none;
        counted = omega (arith, counted, ap length parts);
      },
    )

-- and at the last one if none has words
pub wordless_stops : (lines left : List (List ℕ)) (n : ℕ) → from_first_words left ≡ from_first_words lines → left ≡ [] → n + length left ≡ length lines → AreHeadless lines × StopsAt lines n
wordless_stops lines left n passed parts counted =
    let none : from_first_words lines ≡ [] = sym passed ∙ ap from_first_words parts in (
      wordless lines none,
      record {
        after = [];
        stops = no_words none;
        counted = omega (arith, counted, ap length parts);
      },
    )
