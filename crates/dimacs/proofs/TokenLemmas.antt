-- Tokens make up clauses one by one, and their words are those of the clauses.
use Rattle.std.proofs.Common.{◌≡◌, ℕ, suc, ◌<◌, ◌≤◌, All, get_or, List, [], ◌∷◌, ◌++◌, map, length, refl, sym, ap, subst, ◌∙◌}
use Rattle.std.proofs.lemmas.List.{append_assoc, map-append, append-nil}
use Rattle.std.proofs.lemmas.List.Elements.{All-contains, All-cons, All-head, All-tail, Contains-get_or}
use Rattle.std.proofs.lemmas.Grind.{flat_map-append}
use Rattle.std.specs.List.{flat_map}
use Rattle.clause_core.specs.declared.literal.Lit.{Lit}
use Rattle.clause_core.specs.declared.formula.Formula.{Formula}
use Rattle.clause_core.specs.Clause.{HasExactly, VariablesExist}
use Rattle.refutation_log.specs.LogText.{pivot_text}
use Rattle.dimacs.specs.declared.token.Token.{Token}
use Rattle.dimacs.specs.declared.token.Token.TheVariants.{Literal, End}
use Rattle.dimacs.specs.Dimacs.{HasHeader, clause_words, line_words, text_lines}
use Rattle.dimacs.specs.Verdict.{HaveExactly, IsFormulaOf}
use Rattle.dimacs.specs.inner.Reading.{AreClauses, clause_tokens, token_word}

exactly_push : (clauses written : List (List Lit)) (c w : List Lit) → HaveExactly clauses written → HasExactly c w → HaveExactly (clauses ++ c ∷ []) (written ++ w ∷ [])
exactly_push [] [] c w same one = (one, tt)
exactly_push [] (x ∷ xs) c w same one = absurd same
exactly_push (x ∷ xs) [] c w same one = absurd same
exactly_push (x ∷ xs) (y ∷ ys) c w same one = (same.0, exactly_push xs ys c w same.1 one)

pub exactly_as_many : (clauses written : List (List Lit)) → HaveExactly clauses written → length clauses ≡ length written
exactly_as_many [] [] same = refl
exactly_as_many [] (y ∷ ys) same = absurd same
exactly_as_many (x ∷ xs) [] same = absurd same
exactly_as_many (x ∷ xs) (y ∷ ys) same = ap suc (exactly_as_many xs ys same.1)

-- no token is no clause
pub no_clauses : AreClauses [] [] []
no_clauses = record { written = []; tokens_are = refl; same = tt }

-- a literal goes to the clause that has not ended
pub literal_more : (tokens : List Token) (clauses : List (List Lit)) (pending : List Lit) (l : Lit) → AreClauses tokens clauses pending → AreClauses (tokens ++ Literal l ∷ []) clauses (pending ++ l ∷ [])
literal_more tokens clauses pending l are = record {
  written = are.written;
  tokens_are =
      ap (λ ts. ts ++ Literal l ∷ []) are.tokens_are ∙ append_assoc (flat_map clause_tokens are.written) (map Literal pending) (Literal l ∷ []) ∙ ap (λ ts. flat_map clause_tokens are.written ++ ts) (sym (map-append Literal pending (l ∷ [])));
  same = are.same;
}

tokens_of_last : (written : List (List Lit)) (pending : List Lit) → (flat_map clause_tokens written ++ map Literal pending) ++ End ∷ [] ≡ flat_map clause_tokens (written ++ pending ∷ []) ++ []
tokens_of_last written pending =
    append_assoc (flat_map clause_tokens written) (map Literal pending) (End ∷ []) ∙ ap (λ ts. flat_map clause_tokens written ++ ts) (sym (append-nil (clause_tokens pending))) ∙ sym (flat_map-append clause_tokens written (pending ∷ [])) ∙ sym (append-nil (flat_map clause_tokens (written ++ pending ∷ [])))

-- at an end the clause of the pending literals comes to the others
pub end_more : (tokens : List Token) (clauses : List (List Lit)) (pending c : List Lit) → HasExactly c pending → AreClauses tokens clauses pending → AreClauses (tokens ++ End ∷ []) (clauses ++ c ∷ []) []
end_more tokens clauses pending c one are = record {
  written = are.written ++ pending ∷ [];
  tokens_are = ap (λ ts. ts ++ End ∷ []) are.tokens_are ∙ tokens_of_last are.written pending;
  same = exactly_push clauses are.written c pending are.same one;
}

literal_words : (lits : List Lit) → map token_word (map Literal lits) ≡ map pivot_text lits
literal_words [] = refl
literal_words (l ∷ lits) = ap (λ ws. pivot_text l ∷ ws) (literal_words lits)

clause_tokens_words : (clause : List Lit) → map token_word (clause_tokens clause) ≡ clause_words clause
clause_tokens_words clause = map-append token_word (map Literal clause) (End ∷ []) ∙ ap (λ ws. ws ++ token_word End ∷ []) (literal_words clause)

pub words_of_tokens : (written : List (List Lit)) → map token_word (flat_map clause_tokens written) ≡ flat_map clause_words written
words_of_tokens [] = refl
words_of_tokens (w ∷ written) =
    map-append token_word (clause_tokens w) (flat_map clause_tokens written) ∙ ap (λ ws. ws ++ map token_word (flat_map clause_tokens written)) (clause_tokens_words w) ∙ ap (λ ws. clause_words w ++ ws) (words_of_tokens written)

-- a written clause has no other variables than the clause
pub variables_move : (vars : ℕ) (c w : List Lit) → HasExactly c w → VariablesExist vars c → VariablesExist vars w
variables_move vars c w same exist k d within =
    All-contains (λ l. (0 < l.var) × (l.var ≤ vars)) c (get_or w k d) exist ((same (get_or w k d)).1 (Contains-get_or w k d within))

written_variables : (vars : ℕ) (clauses written : List (List Lit)) → HaveExactly clauses written → All (VariablesExist vars) clauses → All (VariablesExist vars) written
written_variables vars [] [] same all = all
written_variables vars [] (w ∷ ws) same all = absurd same
written_variables vars (c ∷ cs) [] same all = absurd same
written_variables vars (c ∷ cs) (w ∷ ws) same all =
    All-cons (VariablesExist vars) w ws (variables_move vars c w same.0 (All-head (VariablesExist vars) c cs all)) (written_variables vars cs ws same.1 (All-tail (VariablesExist vars) c cs all))

-- header, tokens and clauses of a text make its formula
pub formula_read : (text : List ℕ) (vars count : ℕ) (after : List (List ℕ)) (tokens : List Token) (clauses : List (List Lit)) (f : Formula) → HasHeader (text_lines text) vars count after → map token_word tokens ≡ flat_map line_words after → AreClauses tokens clauses [] → length clauses ≡ count → f.vars ≡ vars → f.clauses ≡ clauses → IsFormulaOf text f
formula_read text vars count after tokens clauses f header reads are counted of_vars of_clauses =
    let written = are.written in
    let words : flat_map line_words after ≡ flat_map clause_words written = sym reads ∙ ap (map token_word) (are.tokens_are ∙ append-nil (flat_map clause_tokens written)) ∙ words_of_tokens written in
    let many : count ≡ length written = sym counted ∙ exactly_as_many clauses written are.same in
    let exactly = subst (λ cs. HaveExactly cs written) (sym of_clauses) are.same in
    record {
      written = written;
      read = record {
        after = after;
        header = subst (λ n. HasHeader (text_lines text) n (length written) after) (sym of_vars) (subst (λ n. HasHeader (text_lines text) vars n after) many header);
        clauses = words;
        variables = written_variables f.vars f.clauses written exactly f.variables_exist;
      };
      same = exactly;
    }
