-- The text of a question's formula: its legend has each variable once, and it is read as the
-- formula.
use Rattle.std.proofs.Common.{◌≡◌, ◌≢◌, ℕ, zero, suc, ◌+◌, ◌-◌, ◌≤◌, List, [], ◌∷◌, ◌++◌, map, codes, eqb, false, refl, sym, ap, subst, ◌∙◌, arith, append_assoc}
use Rattle.std.specs.List.{All, AllByRecursion, flat_map, range_with_len}
use Rattle.std.proofs.lemmas.Bool.{ne_eqb}
use Rattle.std.proofs.lemmas.List.{append-nil, map-append}
use Rattle.std.proofs.lemmas.List.Elements.{All-from_recursion, All-weaker}
use Rattle.bspl_types.specs.declared.expanded.Expanded.{Expanded}
use Rattle.clause_core.specs.declared.formula.Formula.{Formula}
use Rattle.clause_core.specs.declared.literal.Lit.{Lit}
use Rattle.clause_encoding.specs.Formula.{plain_variables}
use Rattle.clause_encoding.specs.Variables.{variable_count}
use Rattle.dimacs.specs.Dimacs.{IsDimacs, from_first_words}
use Rattle.formula_text.specs.AskedText.{FitsText, part, parts, question_legend, question_line, text_of_question}
use Rattle.formula_text.specs.FormulaText.{formula_lines, meaning_line}
use Rattle.formula_text.specs.Legend.{Meaning, occurrences, orders}
use Rattle.formula_text.proofs.LegendWords.{IsOneLine, all_both, all_mapped, c_lacks, kinds_lack, one_line, pairs_lack}
use Rattle.formula_text.proofs.Numbering.{all_numbered, number, numbers, range_both}
use Rattle.formula_text.proofs.Reading.{meanings_read}
use Rattle.formula_text.proofs.Words.{LacksLf, line_then}

-- the variables of parts
parts_numbered : (a n : ℕ) → numbers (map part (range_with_len a n)) ≡ range_with_len a n
parts_numbered a zero = refl
parts_numbered a (suc n) = ap (λ (rest : List ℕ). a ∷ rest) (parts_numbered (a + 1) n)

-- those of the kinds and of order
others_numbered : (x : Expanded) → numbers (occurrences x (plain_variables x) ++ orders x (plain_variables x)) ≡ range_with_len 1 (variable_count (plain_variables x))
others_numbered x =
    let vars = plain_variables x in
    ap (λ (first : List Meaning). numbers (first ++ orders x vars)) (sym (append-nil (occurrences x vars))) ∙ all_numbered x vars [] 0 (omega arith) refl

-- all variables, if those of order are among them
pub asked_numbered : (x : Expanded) (n : ℕ) → variable_count (plain_variables x) ≤ n → numbers (question_legend x n) ≡ range_with_len 1 n
asked_numbered x n order =
    let vars = plain_variables x in
    let others = variable_count vars in
    let first = occurrences x vars ++ orders x vars in
    let all : others + (n - others) ≡ n = omega (arith, order) in
    map-append number first (parts x n) ∙ (λ k. others_numbered x k ++ parts_numbered (others + 1) (n - others) k) ∙ range_both 1 others (others + 1) (n - others) (omega arith) ∙ ap (range_with_len 1) all

-- the words have no LF
part_lacks : LacksLf (codes "part")
part_lacks = All-from_recursion (λ byte. eqb byte 10 ≡ false) (codes "part") (refl, (refl, (refl, (refl, tt))))

ask_lacks : LacksLf (codes "ask")
ask_lacks = All-from_recursion (λ byte. eqb byte 10 ≡ false) (codes "ask") (refl, (refl, (refl, tt)))

-- so it is with those of a legend
asked_lack : (x : Expanded) (n : ℕ) → AllByRecursion IsOneLine (question_legend x n)
asked_lack x n =
    let vars = plain_variables x in
    let others = variable_count vars in
    let variables = range_with_len (others + 1) (n - others) in
    let those_of_parts = all_mapped IsOneLine part (λ variable. one_line variable (part variable).1 (part_lacks, tt)) variables in
    all_both IsOneLine (occurrences x vars ++ orders x vars) (parts x n) (all_both IsOneLine (occurrences x vars) (orders x vars) (kinds_lack x vars) (pairs_lack x vars)) those_of_parts

-- a comment line before a text is skipped
after_line : (spelling text : List ℕ) (vars : ℕ) (written : List (List Lit)) → All (λ byte. byte ≢ 10) spelling → IsDimacs text vars written → IsDimacs (question_line spelling ++ text) vars written
after_line spelling text vars written one_line is =
    let lacks = All-weaker (λ byte. byte ≢ 10) (λ byte. eqb byte 10 ≡ false) (λ byte other. ne_eqb byte 10 other) spelling one_line in
    let lines = line_then (codes "c" ∷ codes "ask" ∷ spelling ∷ []) text (c_lacks, (ask_lacks, (lacks, tt))) in
    record {
      after = is.after;
      header = record { line = is.header.line; found = ap from_first_words lines ∙ is.header.found; header = is.header.header };
      clauses = is.clauses;
      variables = is.variables;
    }

-- so the text is in DIMACS form
pub asked_read : (spelling : List ℕ) (x : Expanded) (f : Formula) → All (λ byte. byte ≢ 10) spelling → FitsText f → IsDimacs (text_of_question spelling x f) f.vars f.clauses
asked_read spelling x f one_line fits =
    let meanings = question_legend x f.vars in
    let is = meanings_read meanings f (asked_lack x f.vars) fits.few_variables fits.few_clauses in
    subst (λ (text : List ℕ). IsDimacs text f.vars f.clauses) (sym (append_assoc (question_line spelling) (flat_map meaning_line meanings) (formula_lines f)))
    (after_line spelling (flat_map meaning_line meanings ++ formula_lines f) f.vars f.clauses one_line is)
