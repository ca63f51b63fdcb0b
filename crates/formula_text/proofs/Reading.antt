-- The text of a formula is read as a header and the formula's clauses.
use Rattle.std.proofs.Common.{◌≡◌, ℕ, ◌≤◌, List, [], ◌∷◌, ◌++◌, map, length, codes, refl, sym, ap, ◌∙◌, ◌<◌, arith}
use Rattle.std.specs.List.{AllByRecursion, flat_map, join_with_byte}
use Rattle.std.proofs.lemmas.Bool.{cond-true}
use Rattle.std.proofs.lemmas.List.{append-nil}
use Rattle.std.proofs.lemmas.List.Elements.{All-from_recursion}
use Rattle.bspl_types.specs.declared.expanded.Expanded.{Expanded}
use Rattle.clause_core.specs.declared.formula.Formula.{Formula}
use Rattle.clause_core.specs.declared.literal.Lit.{Lit}
use Rattle.dimacs.specs.Dimacs.{IsDimacs, clause_limit, clause_words, from_first_words, has_words, header_words, line_words, text_lines, variable_limit}
use Rattle.list_base.specs.Numeral.{numeral}
use Rattle.bspl_types.specs.declared.property.Property.{Property}
use Rattle.formula_text.specs.FormulaText.{clause_line, formula_lines, meaning_line, text_of}
use Rattle.formula_text.specs.Legend.{Meaning, legend}
use Rattle.formula_text.proofs.LegendWords.{IsOneLine, legend_lacks, meaning_words}
use Rattle.formula_text.proofs.Numbers.{clause_printed, clause_read, numeral_printed}
use Rattle.formula_text.proofs.Words.{IsPrinted, LacksLf, line_then, lines_then, printed_lacks, words_joined}

-- printed words have no LF
words_lack : (words : List (List ℕ)) → AllByRecursion IsPrinted words → AllByRecursion LacksLf words
words_lack [] all = tt
words_lack (word ∷ words) all = (printed_lacks word all.0, words_lack words all.1)

-- the words of a header are printed
p_printed : IsPrinted (codes "p")
p_printed = record { past = All-from_recursion (λ byte. 32 < byte) (codes "p") (omega arith, tt); some = refl }

cnf_printed : IsPrinted (codes "cnf")
cnf_printed = record { past = All-from_recursion (λ byte. 32 < byte) (codes "cnf") (omega arith, (omega arith, (omega arith, tt))); some = refl }

header_printed : (vars clauses : ℕ) → AllByRecursion IsPrinted (header_words vars clauses)
header_printed vars clauses = (p_printed, (cnf_printed, (numeral_printed vars, (numeral_printed clauses, tt))))

-- each clause's words have no LF
clauses_lack : (clauses : List (List Lit)) → AllByRecursion (λ c. AllByRecursion LacksLf (clause_words c)) clauses
clauses_lack [] = tt
clauses_lack (c ∷ clauses) = (words_lack (clause_words c) (clause_printed c), clauses_lack clauses)

-- the lines without their ends
abbrev meaning_body : Meaning → List ℕ
meaning_body meaning = join_with_byte 32 (meaning_words meaning)

abbrev clause_body : List Lit → List ℕ
clause_body clause = join_with_byte 32 (clause_words clause)

abbrev header_body : Formula → List ℕ
header_body f = join_with_byte 32 (header_words f.vars (length f.clauses))

-- the lines after the header; the text ends with an LF, so the last one is empty
abbrev after_header : Formula → List (List ℕ)
after_header f = map clause_body f.clauses ++ [] ∷ []

-- the lines of a text
lines_are : (meanings : List Meaning) (f : Formula) → AllByRecursion IsOneLine meanings → text_lines (flat_map meaning_line meanings ++ formula_lines f) ≡ map meaning_body meanings ++ header_body f ∷ after_header f
lines_are meanings f lack =
    let ends : flat_map clause_line f.clauses ≡ flat_map clause_line f.clauses ++ [] = sym (append-nil (flat_map clause_line f.clauses)) in
    let clauses : text_lines (flat_map clause_line f.clauses) ≡ after_header f = ap text_lines ends ∙ lines_then clause_words f.clauses [] (clauses_lack f.clauses) in
    let header = line_then (header_words f.vars (length f.clauses)) (flat_map clause_line f.clauses) (words_lack (header_words f.vars (length f.clauses)) (header_printed f.vars (length f.clauses))) in
    lines_then meaning_words meanings (formula_lines f) lack ∙ ap (λ (lines : List (List ℕ)). map meaning_body meanings ++ lines) (header ∙ ap (λ (lines : List (List ℕ)). header_body f ∷ lines) clauses)

-- the legend is skipped
legend_skipped : (meanings : List Meaning) (lines : List (List ℕ)) → from_first_words (map meaning_body meanings ++ lines) ≡ from_first_words lines
legend_skipped [] lines = refl
legend_skipped (meaning ∷ meanings) lines = legend_skipped meanings lines

-- the words of the header
header_read : (f : Formula) → line_words (header_body f) ≡ header_words f.vars (length f.clauses)
header_read f = words_joined (codes "p") (codes "cnf" ∷ numeral f.vars ∷ numeral (length f.clauses) ∷ []) (header_printed f.vars (length f.clauses))

header_found : (f : Formula) (lines : List (List ℕ)) → from_first_words (header_body f ∷ lines) ≡ header_body f ∷ lines
header_found f lines =
    cond-true (has_words (line_words (header_body f))) (header_body f ∷ lines) (from_first_words lines) (ap has_words (header_read f))

-- the words of the clauses' lines
clauses_read : (clauses : List (List Lit)) → flat_map line_words (map clause_body clauses ++ [] ∷ []) ≡ flat_map clause_words clauses
clauses_read [] = refl
clauses_read (c ∷ clauses) =
    ap (λ (words : List (List ℕ)). words ++ flat_map line_words (map clause_body clauses ++ [] ∷ [])) (clause_read c) ∙ ap (λ (words : List (List ℕ)). clause_words c ++ words) (clauses_read clauses)

-- so the text is in DIMACS form, whatever the variables mean
pub meanings_read : (meanings : List Meaning) (f : Formula) → AllByRecursion IsOneLine meanings → f.vars ≤ variable_limit → length f.clauses ≤ clause_limit → IsDimacs (flat_map meaning_line meanings ++ formula_lines f) f.vars f.clauses
meanings_read meanings f lack few few_clauses = record {
  after = after_header f;
  header = record {
    line = header_body f;
    found = ap from_first_words (lines_are meanings f lack) ∙ legend_skipped meanings (header_body f ∷ after_header f) ∙ header_found f (after_header f);
    header = record { words_are = header_read f; few_variables = few; few_clauses = few_clauses };
  };
  clauses = clauses_read f.clauses;
  variables = f.variables_exist;
}

-- the text of a property is
pub text_read : (property : Property) (x : Expanded) (f : Formula) → f.vars ≤ variable_limit → length f.clauses ≤ clause_limit → IsDimacs (text_of property x f) f.vars f.clauses
text_read property x f few few_clauses = meanings_read (legend property x) f (legend_lacks property x) few few_clauses
