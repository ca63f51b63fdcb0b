-- Reading item after item, as a loop does.
use Rattle.std.proofs.Common.{◌≡◌, ℕ, zero, suc, pred, ◌≤◌, ◌<◌, true, false, List, [], ◌∷◌, ◌++◌, length, Ok, Err, refl, sym, ap, ◌∙◌, append_assoc, arith}
use Rattle.std.proofs.lemmas.List.{append-nil}
use Rattle.bspl_parser.specs.declared.parse_error.ErrorPosition.{ErrorPosition}
use Rattle.bspl_parser.specs.declared.parse_error.ParseError.{ParseError}
use Rattle.bspl_parser.specs.declared.parse_error.ParseError.TheVariants as error
use Rattle.bspl_parser.specs.declared.list_kind.ListKind.{ListKind}
use Rattle.bspl_parser.specs.declared.list_kind.ListKind.TheVariants as list_kind
use Rattle.bspl_parser.specs.declared.token.Token.{Token}
use Rattle.bspl_parser.specs.inner.ParseResult.{ParseResult, Fails}
use Rattle.bspl_parser.specs.inner.GrammarParsers.{has_more, parse_separator, with_prefix, parse_many_within}

-- what was read and what is still read from here on make the whole reading; there is room for the tokens that are left
pub record IsLoopReading {X : Type 0} (kind : ListKind) (one : List Token → ParseResult X) (whole : ParseResult (List X)) (prefix : List X) (ts : List Token) : Type 0 where
  pub room : ℕ
  pub enough : length ts ≤ room
  pub rest : with_prefix prefix (parse_many_within kind one room ts) ≡ whole

-- a list has no more items without tokens
pub has_more-nil : (kind : ListKind) → has_more kind [] ≡ false
has_more-nil list_kind.Comma = refl
has_more-nil list_kind.CommaName = refl
has_more-nil list_kind.Name = refl
has_more-nil list_kind.Rest = refl

-- if a list has more items there is a token
some_token : (kind : ListKind) (ts : List Token) → has_more kind ts ≡ true → 0 < length ts
some_token kind [] goes = absurd (cc (has_more-nil kind))
some_token kind (t ∷ ts) goes = omega arith

-- one more item before
regroup : {X : Type 0} (prefix : List X) (x : X) (reading : ParseResult (List X)) → with_prefix prefix (with_prefix (x ∷ []) reading) ≡ with_prefix (prefix ++ x ∷ []) reading
regroup prefix x (Ok more) = ap (λ xs. Ok (xs, more.1)) (sym (append_assoc prefix (x ∷ []) more.0))
regroup prefix x (Err position) = refl

module _ {X : Type 0} (kind : ListKind) (one : List Token → ParseResult X) (n : ℕ) (ts : List Token) (goes : has_more kind ts ≡ true) where
  -- one turn of the reading
  turn : (after left : List Token) (x : X) → parse_separator kind ts ≡ Ok after → one after ≡ Ok (x, left) → parse_many_within kind one (suc n) ts ≡ with_prefix (x ∷ []) (parse_many_within kind one n left)
  unfolding parse_many_within
  turn after left x separator read = rw (goes, separator, read) refl

  -- a turn without a separator
  turn_without_separator : (position : ErrorPosition) → parse_separator kind ts ≡ Err position → parse_many_within kind one (suc n) ts ≡ Err position
  unfolding parse_many_within
  turn_without_separator position separator = rw (goes, separator) refl

  -- a turn whose item fails
  turn_phraseless : (after : List Token) (position : ErrorPosition) → parse_separator kind ts ≡ Ok after → one after ≡ Err position → parse_many_within kind one (suc n) ts ≡ Err position
  unfolding parse_many_within
  turn_phraseless after position separator read = rw (goes, separator, read) refl

-- no turn is left
pub no_turn : {X : Type 0} (kind : ListKind) (one : List Token → ParseResult X) (n : ℕ) (ts : List Token) → has_more kind ts ≡ false → parse_many_within kind one n ts ≡ Ok ([], ts)
unfolding parse_many_within
no_turn kind one zero ts goes = refl
no_turn kind one (suc n) ts goes = rw goes refl

-- an item was read
pub goes_further : {X : Type 0} (kind : ListKind) (one : List Token → ParseResult X) (whole : ParseResult (List X)) (prefix : List X) (ts : List Token) → IsLoopReading kind one whole prefix ts → (after left : List Token) (x : X) → has_more kind ts ≡ true → parse_separator kind ts ≡ Ok after → length after ≤ length ts → one after ≡ Ok (x, left) → length left < length after → IsLoopReading kind one whole (prefix ++ x ∷ []) left
goes_further kind one whole prefix ts loop_reading after left x goes separator no_longer read shorter =
    let some = some_token kind ts goes in
    let n : ℕ = pred loop_reading.room in
    let room : loop_reading.room ≡ suc n = omega (arith, loop_reading.enough) in
    record {
      room = n;
      enough = omega (arith, loop_reading.enough);
      rest = sym (regroup prefix x (parse_many_within kind one n left)) ∙ ap (with_prefix prefix) (sym (turn kind one n ts goes after left x separator read)) ∙ ap (λ r. with_prefix prefix (parse_many_within kind one r ts)) (sym room) ∙ loop_reading.rest;
    }

-- a separator was not read
pub separator_fails : {X : Type 0} (kind : ListKind) (one : List Token → ParseResult X) (whole : ParseResult (List X)) (prefix : List X) (ts : List Token) → IsLoopReading kind one whole prefix ts → (position : ErrorPosition) → has_more kind ts ≡ true → parse_separator kind ts ≡ Err position → whole ≡ Err position
separator_fails kind one whole prefix ts loop_reading position goes fails =
    let some = some_token kind ts goes in
    let n : ℕ = pred loop_reading.room in
    let room : loop_reading.room ≡ suc n = omega (arith, loop_reading.enough) in
    sym loop_reading.rest ∙ ap (λ r. with_prefix prefix (parse_many_within kind one r ts)) room ∙ ap (with_prefix prefix) (turn_without_separator kind one n ts goes position fails)

-- an item was not read
pub phrase_fails : {X : Type 0} (kind : ListKind) (one : List Token → ParseResult X) (whole : ParseResult (List X)) (prefix : List X) (ts : List Token) → IsLoopReading kind one whole prefix ts → (stopped : ParseError) (after : List Token) → has_more kind ts ≡ true → parse_separator kind ts ≡ Ok after → Fails stopped (one after) → Fails stopped whole
phrase_fails kind one whole prefix ts loop_reading error.NoMemory after goes separator fails = tt
phrase_fails kind one whole prefix ts loop_reading (error.Invalid position) after goes separator fails =
    let some = some_token kind ts goes in
    let n : ℕ = pred loop_reading.room in
    let room : loop_reading.room ≡ suc n = omega (arith, loop_reading.enough) in
    sym loop_reading.rest ∙ ap (λ r. with_prefix prefix (parse_many_within kind one r ts)) room ∙ ap (with_prefix prefix) (turn_phraseless kind one n ts goes after position separator fails)

-- no further item comes
pub is_done : {X : Type 0} (kind : ListKind) (one : List Token → ParseResult X) (whole : ParseResult (List X)) (prefix : List X) (ts : List Token) → IsLoopReading kind one whole prefix ts → has_more kind ts ≡ false → whole ≡ Ok (prefix, ts)
is_done kind one whole prefix ts loop_reading goes =
    sym loop_reading.rest ∙ ap (with_prefix prefix) (no_turn kind one loop_reading.room ts goes) ∙ ap (λ xs. Ok (xs, ts)) (append-nil prefix)
