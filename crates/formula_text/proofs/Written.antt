-- What is written line by line.
use Rattle.std.proofs.Common.{◌≡◌, ℕ, ◌+◌, List, [], ◌∷◌, ◌++◌, map, codes, refl, sym, ap, ◌∙◌, append_assoc}
use Rattle.std.specs.List.{flat_map, join_with_byte, range_with_len}
use Rattle.std.proofs.lemmas.List.{append-nil, map-id}
use Rattle.std.proofs.lemmas.List.Concat.{flat_map-append}
use Rattle.std.proofs.lemmas.List.FromFn.{map-range_with_len_more}
use Rattle.clause_core.specs.declared.literal.Lit.{Lit}
use Rattle.dimacs.specs.Dimacs.{clause_words}
use Rattle.refutation_log.specs.LogText.{pivot_text}
use Rattle.list_base.specs.Numeral.{numeral}
use Rattle.formula_text.specs.FormulaText.{clause_line, meaning_line}
use Rattle.formula_text.specs.Legend.{Meaning}
use Rattle.formula_text.specs.inner.Lines.{spaced}

-- the lines of meanings
abbrev pub lines : List Meaning → List ℕ
lines meanings = flat_map meaning_line meanings

-- words with a space between them are the first one and the others, each after a space
join-spaced : (word : List ℕ) (words : List (List ℕ)) → join_with_byte 32 (word ∷ words) ≡ word ++ spaced words
join-spaced word [] = sym (append-nil word)
join-spaced word (next ∷ words) = ap (λ (rest : List ℕ). word ++ 32 ∷ rest) (join-spaced next words)

-- what is written part by part
regroup : (a b c d e : List ℕ) → (((a ++ b) ++ c) ++ d) ++ e ≡ a ++ (b ++ ((c ++ d) ++ e))
regroup a b c d e = simp append_assoc

-- the line of a meaning, as it is written
pub meaning_written : (old : List ℕ) (v : ℕ) (words : List (List ℕ)) → (((old ++ codes "c ") ++ numeral v) ++ spaced words) ++ codes "\n" ≡ old ++ meaning_line (v, words)
meaning_written old v words =
    regroup old (codes "c ") (numeral v) (spaced words) (codes "\n") ∙ ap (λ (text : List ℕ). old ++ (codes "c " ++ (text ++ codes "\n"))) (sym (join-spaced (numeral v) words))

-- the literals of a clause, each before a space
abbrev pub spaced_lits : List Lit → List ℕ
spaced_lits clause = flat_map (λ l. pivot_text l ++ 32 ∷ []) clause

-- and `0` after them
pub lits_joined : (clause : List Lit) → spaced_lits clause ++ codes "0" ≡ join_with_byte 32 (clause_words clause)
lits_joined [] = refl
lits_joined (l ∷ []) = simp append_assoc
lits_joined (l ∷ m ∷ clause) =
    append_assoc (pivot_text l ++ 32 ∷ []) (spaced_lits (m ∷ clause)) (codes "0") ∙ append_assoc (pivot_text l) (32 ∷ []) (spaced_lits (m ∷ clause) ++ codes "0") ∙ ap (λ (rest : List ℕ). pivot_text l ++ 32 ∷ rest) (lits_joined (m ∷ clause))

-- the line of a clause, as it is written
pub clause_written : (old : List ℕ) (clause : List Lit) → (old ++ spaced_lits clause) ++ codes "0\n" ≡ old ++ clause_line clause
clause_written old clause =
    append_assoc old (spaced_lits clause) (codes "0\n") ∙ ap (λ (text : List ℕ). old ++ text) (sym (append_assoc (spaced_lits clause) (codes "0") (codes "\n")) ∙ ap (λ (text : List ℕ). text ++ codes "\n") (lits_joined clause))

-- one range of lines more
pub line_more : (f : ℕ → Meaning) (old : List ℕ) (a n j m : ℕ) → a + n ≡ j → m ≡ n + 1 → (old ++ lines (map f (range_with_len a n))) ++ meaning_line (f j) ≡ old ++ lines (map f (range_with_len a m))
line_more f old a n j m is after =
    let so_far = map f (range_with_len a n) in
    let last : lines (f j ∷ []) ≡ meaning_line (f j) = append-nil (meaning_line (f j)) in
    let next : lines (map f (range_with_len a (n + 1))) ≡ lines so_far ++ meaning_line (f j) =
    ap lines (map-range_with_len_more f a n j is) ∙ flat_map-append meaning_line so_far (f j ∷ []) ∙ ap (λ (text : List ℕ). lines so_far ++ text) last in
    append_assoc old (lines so_far) (meaning_line (f j)) ∙ ap (λ (text : List ℕ). old ++ text) (sym next) ∙ ap (λ (k : ℕ). old ++ lines (map f (range_with_len a k))) (sym after)

-- the lines of one number more
pub rows_more : (f : ℕ → List Meaning) (old : List ℕ) (a n j m : ℕ) → a + n ≡ j → m ≡ n + 1 → (old ++ lines (flat_map f (range_with_len a n))) ++ lines (f j) ≡ old ++ lines (flat_map f (range_with_len a m))
rows_more f old a n j m is after =
    let numbers = range_with_len a n in
    let range : range_with_len a (n + 1) ≡ numbers ++ j ∷ [] =
    sym (map-id (range_with_len a (n + 1))) ∙ map-range_with_len_more (λ k. k) a n j is ∙ ap (λ (ks : List ℕ). ks ++ j ∷ []) (map-id numbers) in
    let items : flat_map f (range_with_len a (n + 1)) ≡ flat_map f numbers ++ f j =
    ap (flat_map f) range ∙ flat_map-append f numbers (j ∷ []) ∙ ap (λ (ms : List Meaning). flat_map f numbers ++ ms) (append-nil (f j)) in
    append_assoc old (lines (flat_map f numbers)) (lines (f j)) ∙ ap (λ (text : List ℕ). old ++ text) (sym (ap lines items ∙ flat_map-append meaning_line (flat_map f numbers) (f j))) ∙ ap (λ (k : ℕ). old ++ lines (flat_map f (range_with_len a k))) (sym after)
