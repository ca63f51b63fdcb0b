-- What is learnt of a word that is no number, no token or no header.
use Rattle.std.proofs.Common.{◌≡◌, ◌≢◌, ℕ, ◌<◌, ◌≤◌, All, List, [], ◌∷◌, ◌++◌, length, Option, Some, None, IsSome, Result, Ok, Err, IfErr, IsErrAnd, inl, inr, refl, sym, ap, subst, ◌∙◌, arith, codes}
use Rattle.std.proofs.lemmas.List.{map-append}
use Rattle.std.proofs.lemmas.List.Elements.{All-cons, All-head, All-nil, All-push, All-tail}
use Rattle.clause_core.specs.declared.literal.Lit.{Lit}
use Rattle.refutation_log.specs.declared.line_error.LineError.{LineError}
use Rattle.refutation_log.specs.declared.line_error.LineError.TheVariants as errors
use Rattle.refutation_log.specs.LogText.{pivot_text}
use Rattle.refutation_log.specs.NumberRange.{IsInRange}
use Rattle.refutation_log.specs.LineParts.{IsReading}
use Rattle.dimacs.specs.declared.token.Token.{Token}
use Rattle.dimacs.specs.Dimacs.{variable_limit}
use Rattle.dimacs.specs.RefusedLine.{IsClauseWord}
use Rattle.dimacs.specs.inner.Reading.{AreClauses, AreTaken, TokenExists, token_word}
use Rattle.dimacs.proofs.FormulaLemmas.{pivot_same}
use Rattle.dimacs.proofs.TokenLemmas.{no_clauses}

-- an error that is handed on has what it had
pub handed_on : {A E : Type 0} (P : E → Type 0) (answer : Result A E) (error : E) → IsErrAnd answer (λ e. e ≡ error) → P error → IfErr answer P
handed_on P (Ok _) error same holds = tt
handed_on P (Err e) error same holds = subst P (sym same) holds

-- a word that spells no literal in range, and not `0`, may not stand in a clause
pub no_token : (vars : ℕ) (word : List ℕ) (error : LineError) → vars ≤ variable_limit → word ≢ codes "0" → IsReading pivot_text (λ pivot. IsInRange pivot.var) word (Err error) → error ≢ errors.NoMemory → IsClauseWord vars word → ⊥
no_token vars word errors.Form few other reading known (inl is) = other is
no_token vars word errors.Form few other reading known (inr literal) = reading literal.lit literal.word_is
no_token vars word errors.Number few other reading known (inl is) = other is
no_token vars word errors.Number few other reading known (inr literal) =
    let one : reading.0.var ≡ literal.lit.var = (pivot_same reading.0.var literal.lit.var reading.0.positive literal.lit.positive (sym reading.1 ∙ literal.word_is)).0 in
    let exists = literal.exists in
    reading.2 (record { low = omega (arith, exists.0); high = omega (arith, exists.1) })
no_token vars word errors.NoMemory few other reading known token = known refl

-- nor is a literal past the variables
pub no_variable : (vars : ℕ) (word : List ℕ) (lit : Lit) → word ≢ codes "0" → word ≡ pivot_text lit → vars < lit.var → IsClauseWord vars word → ⊥
no_variable vars word lit other is past (inl is') = other is'
no_variable vars word lit other is past (inr literal) =
    let one : lit.var ≡ literal.lit.var = (pivot_same lit.var literal.lit.var lit.positive literal.lit.positive (sym is ∙ literal.word_is)).0 in
    let exists = literal.exists in
    omega (arith, exists.1)

-- a word more was taken as the token that it is
pub word_taken : (vars : ℕ) (clauses new : List (List Lit)) (pending after : List Lit) (t : Token) (word : List ℕ) (before : List (List ℕ)) → token_word t ≡ word → TokenExists vars t → ((tokens : List Token) → AreClauses tokens clauses pending → AreClauses (tokens ++ t ∷ []) new after) → AreTaken vars before clauses pending → AreTaken vars (before ++ word ∷ []) new after
word_taken vars clauses new pending after t word before is exists takes taken = record {
  tokens = taken.tokens ++ t ∷ [];
  words_are =
      map-append token_word taken.tokens (t ∷ [])
      ∙ ap (λ ws. ws ++ token_word t ∷ []) taken.words_are
      ∙ ap (λ w. before ++ w ∷ []) is;
  exist = All-push (TokenExists vars) taken.tokens t taken.exist exists;
  clauses_are = takes taken.tokens taken.clauses_are;
}

-- a list without items
pub empty_list : {X : Type 0} (xs : List X) → length xs ≡ 0 → xs ≡ []
empty_list [] none = refl
empty_list (x ∷ xs) none = cc

-- nothing was taken yet
pub none_taken : (vars : ℕ) → AreTaken vars [] [] []
none_taken vars = record { tokens = []; words_are = refl; exist = All-nil (TokenExists vars); clauses_are = no_clauses }

-- what holds of all items holds of the later ones
pub all_after : {X : Type 0} (P : X → Type 0) (xs ys : List X) → All P (xs ++ ys) → All P ys
all_after P [] ys all = all
all_after P (x ∷ xs) ys all = all_after P xs ys (All-tail P x (xs ++ ys) all)

-- and of the earlier ones
pub all_before : {X : Type 0} (P : X → Type 0) (xs ys : List X) → All P (xs ++ ys) → All P xs
all_before P [] ys all = All-nil P
all_before P (x ∷ xs) ys all = All-cons P x xs (All-head P x (xs ++ ys) all) (all_before P xs ys (All-tail P x (xs ++ ys) all))

-- an option that is none is not some
pub none_is_some : {A : Type 0} (found : Option A) → IsSome found → found ≡ None → ⊥
none_is_some (Some _) present none = cc
none_is_some None present none = cc
