-- Why a text that is refused is no formula: its header, its tokens and its clauses are unique.
use Rattle.std.proofs.Common.{◌≡◌, ◌≢◌, ℕ, ◌<◌, ◌≤◌, Bool, true, false, All, List, [], ◌∷◌, ◌++◌, map, length, inl, inr, refl, sym, ap, subst, ◌∙◌, arith, codes}
use Rattle.std.proofs.lemmas.List.{append_assoc, append-nil}
use Rattle.std.proofs.lemmas.List.Elements.{All-append, All-cons, All-head, All-map, All-nil, All-tail}
use Rattle.std.specs.List.{flat_map}
use Rattle.clause_core.specs.declared.literal.Lit.{Lit}
use Rattle.clause_core.specs.Clause.{VariablesExist}
use Rattle.refutation_log.specs.LogText.{pivot_text}
use Rattle.list_base.specs.Numeral.{numeral}
use Rattle.list_base.proofs.Numerals.{has_digits, same_from_numeral}
use Rattle.dimacs.specs.declared.token.Token.{Token}
use Rattle.dimacs.specs.declared.token.Token.TheVariants.{Literal, End}
use Rattle.dimacs.specs.Dimacs.{HasHeader, IsDimacs, IsNoFormula, clause_words, header_words, line_words, text_lines}
use Rattle.dimacs.specs.Verdict.{HaveExactly}
use Rattle.dimacs.specs.RefusedLine.{IsClauseWord}
use Rattle.dimacs.specs.inner.Reading.{AreClauses, TokenExists, clause_tokens, token_word}
use Rattle.dimacs.proofs.TokenLemmas.{exactly_as_many, variables_move, words_of_tokens}

-- `0` is the numeral of 0 alone
only_zero : (n : ℕ) → codes "0" ≡ numeral n → n ≡ 0
unfolding numeral
only_zero n same = sym (same_from_numeral 0 n same)

-- no numeral begins with a minus sign
no_minus : (n : ℕ) (rest : List ℕ) → numeral n ≡ 45 ∷ rest → ⊥
no_minus n rest same =
    let digit = All-head (λ byte. (48 ≤ byte) × (byte ≤ 57)) 45 rest (subst (All (λ byte. (48 ≤ byte) × (byte ≤ 57))) same (has_digits (numeral n) (n, refl))) in
    absurd (omega (arith, digit.0))

-- one literal has a text
pub pivot_same : (m n : ℕ) (p q : Bool) → pivot_text (record { var = m; positive = p }) ≡ pivot_text (record { var = n; positive = q }) → (m ≡ n) × (p ≡ q)
pivot_same m n true true same = (same_from_numeral m n same, refl)
pivot_same m n true false same = absurd (no_minus m (numeral n) same)
pivot_same m n false true same = absurd (no_minus n (numeral m) (sym same))
pivot_same m n false false same =
    let tails : numeral m ≡ numeral n = cc in
    (same_from_numeral m n tails, refl)

-- lists with another first byte differ
other_first : (a b : ℕ) (xs ys : List ℕ) → a ∷ xs ≡ b ∷ ys → b < a → ⊥
other_first a b xs ys same lower =
    let heads : a ≡ b = cc in
    omega arith

-- `0` is no literal's text
no_literal : (n : ℕ) (p : Bool) → 0 < n → codes "0" ≡ pivot_text (record { var = n; positive = p }) → ⊥
no_literal n true positive same =
    let zero : n ≡ 0 = only_zero n same in
    omega arith
no_literal n false positive same = other_first 48 45 [] (numeral n) same (omega arith)

-- a literal is its variable and its sign
lit_same : (l m : Lit) → l.var ≡ m.var → l.positive ≡ m.positive → l ≡ m
lit_same l m vars signs =
    let with_var : ℕ → Lit = λ v. record { var = v; positive = l.positive } in
    let with_sign : Bool → Lit = λ p. record { var = m.var; positive = p } in
    ap with_var vars ∙ ap with_sign signs

-- one token has a word
token_same : (vars : ℕ) (s t : Token) → TokenExists vars s → TokenExists vars t → token_word s ≡ token_word t → s ≡ t
token_same vars (Literal l) (Literal m) s_exists t_exists same =
    let one = pivot_same l.var m.var l.positive m.positive same in
    ap Literal (lit_same l m one.0 one.1)
token_same vars (Literal l) End s_exists t_exists same = absurd (no_literal l.var l.positive s_exists.0 (sym same))
token_same vars End (Literal m) s_exists t_exists same = absurd (no_literal m.var m.positive t_exists.0 same)
token_same vars End End s_exists t_exists same = refl

-- one list of tokens has these words
tokens_same : (vars : ℕ) (ss ts : List Token) → All (TokenExists vars) ss → All (TokenExists vars) ts → map token_word ss ≡ map token_word ts → ss ≡ ts
tokens_same vars [] [] ss_exist ts_exist same = refl
tokens_same vars [] (t ∷ ts) ss_exist ts_exist same = cc
tokens_same vars (s ∷ ss) [] ss_exist ts_exist same = cc
tokens_same vars (s ∷ ss) (t ∷ ts) ss_exist ts_exist same =
    let heads : token_word s ≡ token_word t = cc in
    let tails : map token_word ss ≡ map token_word ts = cc in
    let one = token_same vars s t (All-head (TokenExists vars) s ss ss_exist) (All-head (TokenExists vars) t ts ts_exist) heads in
    let more = tokens_same vars ss ts (All-tail (TokenExists vars) s ss ss_exist) (All-tail (TokenExists vars) t ts ts_exist) tails in
    ap (λ x. x ∷ ss) one ∙ ap (λ xs. t ∷ xs) more

-- the literal's variable exists
abbrev IsWithin : ℕ → Lit → Type 0
IsWithin vars l = (0 < l.var) × (l.var ≤ vars)

-- the tokens of written clauses exist
clause_exists : (vars : ℕ) (clause : List Lit) → VariablesExist vars clause → All (TokenExists vars) (clause_tokens clause)
clause_exists vars [] exist = All-cons (TokenExists vars) End [] tt (All-nil (TokenExists vars))
clause_exists vars (l ∷ clause) exist =
    All-cons (TokenExists vars) (Literal l) (clause_tokens clause) (All-head (IsWithin vars) l clause exist) (clause_exists vars clause (All-tail (IsWithin vars) l clause exist))

tokens_exist : (vars : ℕ) (written : List (List Lit)) → All (VariablesExist vars) written → All (TokenExists vars) (flat_map clause_tokens written)
tokens_exist vars [] exist = All-nil (TokenExists vars)
tokens_exist vars (w ∷ written) exist =
    All-append (TokenExists vars) (clause_tokens w) (flat_map clause_tokens written)
    (clause_exists vars w (All-head (VariablesExist vars) w written exist))
    (tokens_exist vars written (All-tail (VariablesExist vars) w written exist))

-- a clause whose tokens exist
clause_of_tokens : (vars : ℕ) (clause : List Lit) (more : List Token) → All (TokenExists vars) (clause_tokens clause ++ more) → VariablesExist vars clause × All (TokenExists vars) more
clause_of_tokens vars [] more exist = (All-nil _, All-tail (TokenExists vars) End more exist)
clause_of_tokens vars (l ∷ clause) more exist =
    let rest = clause_of_tokens vars clause more (All-tail (TokenExists vars) (Literal l) (clause_tokens clause ++ more) exist) in
    (All-cons (IsWithin vars) l clause (All-head (TokenExists vars) (Literal l) (clause_tokens clause ++ more) exist) rest.0, rest.1)

clauses_of_tokens : (vars : ℕ) (written : List (List Lit)) → All (TokenExists vars) (flat_map clause_tokens written) → All (VariablesExist vars) written
clauses_of_tokens vars [] exist = All-nil (VariablesExist vars)
clauses_of_tokens vars (w ∷ written) exist =
    let parts = clause_of_tokens vars w (flat_map clause_tokens written) exist in
    All-cons (VariablesExist vars) w written parts.0 (clauses_of_tokens vars written parts.1)

-- the first clause of the tokens is determined
clause_same : (c d : List Lit) (more others : List Token) → clause_tokens c ++ more ≡ clause_tokens d ++ others → (c ≡ d) × (more ≡ others)
clause_same [] [] more others same = (refl, cc)
clause_same [] (m ∷ d) more others same = cc
clause_same (l ∷ c) [] more others same = cc
clause_same (l ∷ c) (m ∷ d) more others same =
    let heads : l ≡ m = cc in
    let tails : clause_tokens c ++ more ≡ clause_tokens d ++ others = cc in
    let rest = clause_same c d more others tails in
    (ap (λ x. x ∷ c) heads ∙ ap (λ xs. m ∷ xs) rest.0, rest.1)

-- literals alone are no clause that has ended
no_clause : (c pending : List Lit) (more : List Token) → clause_tokens c ++ more ≡ map Literal pending → ⊥
no_clause [] [] more same = cc
no_clause [] (m ∷ pending) more same = cc
no_clause (l ∷ c) [] more same = cc
no_clause (l ∷ c) (m ∷ pending) more same =
    let tails : clause_tokens c ++ more ≡ map Literal pending = cc in
    no_clause c pending more tails

-- the clauses of the tokens are determined, and none is open
clauses_same : (written others : List (List Lit)) (pending : List Lit) → flat_map clause_tokens written ≡ flat_map clause_tokens others ++ map Literal pending → (written ≡ others) × (pending ≡ [])
clauses_same [] [] [] same = (refl, refl)
clauses_same [] [] (l ∷ pending) same = cc
clauses_same [] ([] ∷ others) pending same = cc
clauses_same [] ((l ∷ o) ∷ others) pending same = cc
clauses_same (w ∷ written) [] pending same = absurd (no_clause w pending (flat_map clause_tokens written) same)
clauses_same (w ∷ written) (o ∷ others) pending same =
    let parts = clause_same w o (flat_map clause_tokens written) (flat_map clause_tokens others ++ map Literal pending) (same ∙ append_assoc (clause_tokens o) (flat_map clause_tokens others) (map Literal pending)) in
    let rest = clauses_same written others pending parts.1 in
    (ap (λ x. x ∷ written) parts.0 ∙ ap (λ xs. o ∷ xs) rest.0, rest.1)

-- tokens of which a clause has not ended are no written clauses
pub open_clause : (tokens : List Token) (clauses : List (List Lit)) (pending : List Lit) → AreClauses tokens clauses pending → pending ≢ [] → (written : List (List Lit)) → tokens ≢ flat_map clause_tokens written
open_clause tokens clauses pending are some written same =
    some (clauses_same written are.written pending (sym same ∙ are.tokens_are)).1

-- the header of the lines is determined
pub header_same : (lines : List (List ℕ)) (vars count : ℕ) (after : List (List ℕ)) (vars' count' : ℕ) (after' : List (List ℕ)) → HasHeader lines vars count after → HasHeader lines vars' count' after' → (vars ≡ vars') × (count ≡ count') × (after ≡ after')
header_same lines vars count after vars' count' after' one other =
    let found : one.line ∷ after ≡ other.line ∷ after' = sym one.found ∙ other.found in
    let line : one.line ≡ other.line = cc in
    let rest : after ≡ after' = cc in
    let words : header_words vars count ≡ header_words vars' count' = sym one.header.words_are ∙ ap line_words line ∙ other.header.words_are in
    let first : numeral vars ≡ numeral vars' = cc in
    let second : numeral count ≡ numeral count' = cc in
    (same_from_numeral vars vars' first, same_from_numeral count count' second, rest)

-- the word of a token whose variable exists may stand in a clause
word_of_token : (vars : ℕ) (t : Token) → TokenExists vars t → IsClauseWord vars (token_word t)
word_of_token vars (Literal lit) exists = inr (record { lit = lit; word_is = refl; exists = exists })
word_of_token vars End exists = inl refl

pub words_of_all : (vars : ℕ) (tokens : List Token) → All (TokenExists vars) tokens → All (λ t. IsClauseWord vars (token_word t)) tokens
words_of_all vars [] exist = All-nil (λ t. IsClauseWord vars (token_word t))
words_of_all vars (t ∷ tokens) exist =
    All-cons (λ t. IsClauseWord vars (token_word t)) t tokens (word_of_token vars t (All-head (TokenExists vars) t tokens exist)) (words_of_all vars tokens (All-tail (TokenExists vars) t tokens exist))

-- the words of a formula are those of tokens whose variables exist
words_exist : (vars : ℕ) (written : List (List Lit)) → All (VariablesExist vars) written → All (IsClauseWord vars) (flat_map clause_words written)
words_exist vars written exist =
    subst (All (IsClauseWord vars)) (words_of_tokens written)
    (All-map (IsClauseWord vars) token_word (flat_map clause_tokens written) (words_of_all vars (flat_map clause_tokens written) (tokens_exist vars written exist)))

-- tokens and count of a text that has a header are those of its formula
read_back : (text : List ℕ) (vars count : ℕ) (after : List (List ℕ)) (tokens : List Token) → HasHeader (text_lines text) vars count after → map token_word tokens ≡ flat_map line_words after → All (TokenExists vars) tokens → (vars' : ℕ) (written : List (List Lit)) → IsDimacs text vars' written → (tokens ≡ flat_map clause_tokens written) × (count ≡ length written)
read_back text vars count after tokens header reads exist vars' written is_dimacs =
    let one = header_same (text_lines text) vars count after vars' (length written) is_dimacs.after header is_dimacs.header in
    let words : map token_word tokens ≡ map token_word (flat_map clause_tokens written) =
    reads ∙ ap (flat_map line_words) one.2 ∙ is_dimacs.clauses ∙ sym (words_of_tokens written) in
    (tokens_same vars tokens (flat_map clause_tokens written) exist (tokens_exist vars written (subst (λ n. All (VariablesExist n) written) (sym one.0) is_dimacs.variables)) words, one.1)

-- a text without a header is no formula
pub no_header : (text : List ℕ) → ((vars count : ℕ) (after : List (List ℕ)) → ¬ HasHeader (text_lines text) vars count after) → IsNoFormula text
no_header text none vars written is_dimacs = none vars (length written) is_dimacs.after is_dimacs.header

-- nor is one with a word that is no token
pub bad_word : (text : List ℕ) (vars count : ℕ) (after : List (List ℕ)) → HasHeader (text_lines text) vars count after → ¬ All (IsClauseWord vars) (flat_map line_words after) → IsNoFormula text
bad_word text vars count after header bad vars' written is_dimacs =
    let one = header_same (text_lines text) vars count after vars' (length written) is_dimacs.after header is_dimacs.header in
    let exist = words_exist vars written (subst (λ n. All (VariablesExist n) written) (sym one.0) is_dimacs.variables) in
    bad (subst (All (IsClauseWord vars)) (sym (ap (flat_map line_words) one.2 ∙ is_dimacs.clauses)) exist)

-- nor one whose last clause has no end
pub no_end : (text : List ℕ) (vars count : ℕ) (after : List (List ℕ)) (tokens : List Token) → HasHeader (text_lines text) vars count after → map token_word tokens ≡ flat_map line_words after → All (TokenExists vars) tokens → ((written : List (List Lit)) → tokens ≢ flat_map clause_tokens written) → IsNoFormula text
no_end text vars count after tokens header reads exist unended vars' written is_dimacs =
    unended written (read_back text vars count after tokens header reads exist vars' written is_dimacs).0

-- nor one with another number of clauses
pub other_count : (text : List ℕ) (vars count : ℕ) (after : List (List ℕ)) (tokens : List Token) (clauses : List (List Lit)) → HasHeader (text_lines text) vars count after → map token_word tokens ≡ flat_map line_words after → All (TokenExists vars) tokens → AreClauses tokens clauses [] → length clauses ≢ count → IsNoFormula text
other_count text vars count after tokens clauses header reads exist are differs vars' written is_dimacs =
    let back = read_back text vars count after tokens header reads exist vars' written is_dimacs in
    let same = clauses_same written are.written [] (sym back.0 ∙ are.tokens_are) in
    differs (exactly_as_many clauses are.written are.same ∙ ap length (sym same.0) ∙ sym back.1)

-- the variables of clauses are those of the written ones
clauses_exist : (vars : ℕ) (clauses written : List (List Lit)) → HaveExactly clauses written → All (VariablesExist vars) written → All (VariablesExist vars) clauses
clauses_exist vars [] [] same all = all
clauses_exist vars [] (w ∷ ws) same all = absurd same
clauses_exist vars (c ∷ cs) [] same all = absurd same
clauses_exist vars (c ∷ cs) (w ∷ ws) same all =
    All-cons (VariablesExist vars) c cs (variables_move vars w c (λ l. ((same.0 l).1, (same.0 l).0)) (All-head (VariablesExist vars) w ws all)) (clauses_exist vars cs ws same.1 (All-tail (VariablesExist vars) w ws all))

-- clauses of tokens whose variables exist have no other variables
pub variables_within : (vars : ℕ) (tokens : List Token) (clauses : List (List Lit)) → All (TokenExists vars) tokens → AreClauses tokens clauses [] → All (VariablesExist vars) clauses
variables_within vars tokens clauses exist are =
    clauses_exist vars clauses are.written are.same
    (clauses_of_tokens vars are.written (subst (All (TokenExists vars)) (are.tokens_are ∙ append-nil (flat_map clause_tokens are.written)) exist))
