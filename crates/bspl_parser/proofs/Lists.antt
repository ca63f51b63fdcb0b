-- Reading items one after another, and lists of them.
use Rattle.std.proofs.Common.{◌≡◌, ℕ, zero, suc, ◌<◌, ◌≤◌, Bool, true, false, cond, List, [], ◌∷◌, ◌++◌, length, Ok, refl, ap, arith}
use Rattle.std.specs.List.{All, flat_map}
use Rattle.std.proofs.lemmas.List.Elements.{All-nil, All-cons, All-head, All-tail}
use Rattle.bspl_parser.specs.declared.list_kind.ListKind.{ListKind}
use Rattle.bspl_parser.specs.declared.symbol.Symbol.TheVariants.{Comma}
use Rattle.bspl_parser.specs.declared.token.Token.{Token}
use Rattle.bspl_parser.specs.Sign.{Sign, Plain}
use Rattle.bspl_parser.specs.inner.ParseResult.{◌>>=◌, ParseResult}
use Rattle.bspl_parser.specs.inner.TokenParsers.{parse_symbol}
use Rattle.bspl_parser.specs.inner.GrammarParsers.{has_more, has_comma, parse_separator, with_prefix, parse_many_within, parse_many}
use Rattle.bspl_parser.proofs.Spelled.{Spelled, Spelled-then, Reads, bind_then, split_then, took, ok_is}
use Rattle.bspl_parser.proofs.Primitives.{plain_sound, plain_complete}

-- what comes before each further item
abbrev pub separator : ListKind → List Sign
separator kind = cond (has_comma kind) (Plain Comma ∷ []) []

-- the comma that is taken is spelled by its sign, by the test for it
separator_found : (comma : Bool) (ts after : List Token) → cond comma (parse_symbol Comma ts >>= λ c. Ok c.1) (Ok ts) ≡ Ok after → Spelled (cond comma (Plain Comma ∷ []) []) ts after
separator_found true ts after e =
    bind_then (parse_symbol Comma ts) _ after e (λ comma read made. rw (← ok_is comma.1 after made) (plain_sound Comma ts comma.1 comma.0 read))
separator_found false ts after e = ok_is ts after e

-- the comma that is taken is spelled by its sign
pub separator_sound : (kind : ListKind) (ts after : List Token) → parse_separator kind ts ≡ Ok after → Spelled (separator kind) ts after
separator_sound kind ts after e = separator_found (has_comma kind) ts after e

-- the comma that its sign spells is taken, by the test for it
separator_taken : (comma : Bool) (ts after : List Token) → Spelled (cond comma (Plain Comma ∷ []) []) ts after → cond comma (parse_symbol Comma ts >>= λ c. Ok c.1) (Ok ts) ≡ Ok after
separator_taken true ts after spelled = rw (plain_complete Comma ts after spelled).1 refl
separator_taken false ts after spelled = ap (λ (left : List Token). Ok left) spelled

-- and the one that its sign spells is taken
pub separator_complete : (kind : ListKind) (ts after : List Token) → Spelled (separator kind) ts after → parse_separator kind ts ≡ Ok after
separator_complete kind ts after spelled = separator_taken (has_comma kind) ts after spelled

-- items with what comes before each
abbrev pub repeated : {X : Type 0} → ListKind → (X → List Sign) → List X → List Sign
repeated kind signs xs = flat_map (λ x. separator kind ++ signs x) xs

-- before a further item the list has more, the item before may be followed by it, and it takes tokens
pub record Repeats {X : Type 0} (kind : ListKind) (signs : X → List Sign) (May : List Token → Type 0) : Type 0 where
  pub goes : (x : X) (ts rest : List Token) → Spelled (separator kind ++ signs x) ts rest → has_more kind ts ≡ true
  pub seam : (x : X) (ts rest : List Token) → Spelled (separator kind ++ signs x) ts rest → May ts
  pub shorter : (x : X) (ts rest : List Token) → Spelled (separator kind ++ signs x) ts rest → length rest < length ts

module _ {X : Type 0} (kind : ListKind) (one : List Token → ParseResult X) (signs : X → List Sign) (Good : X → Type 0) (May : List Token → Type 0) (reads : Reads one signs Good May) where
  -- one item and the others are spelled by their signs if the others are
  turn_sound : (n : ℕ) → ((ts rest : List Token) (xs : List X) → parse_many_within kind one n ts ≡ Ok (xs, rest) → Spelled (repeated kind signs xs) ts rest × All Good xs)
      → (goes : Bool) (ts rest : List Token) (xs : List X) → cond goes (parse_separator kind ts >>= λ after. one after >>= λ x. with_prefix (x.0 ∷ []) (parse_many_within kind one n x.1)) (Ok ([], ts)) ≡ Ok (xs, rest) → Spelled (repeated kind signs xs) ts rest × All Good xs
  turn_sound n others true ts rest xs e =
      bind_then (parse_separator kind ts) _ (xs, rest) e (λ after separator_read then_phrase.
      bind_then (one after) _ (xs, rest) then_phrase (λ x phrase_read then_more.
      bind_then (parse_many_within kind one n x.1) _ (xs, rest) then_more (λ more more_read made.
      let phrase = reads.sound after x.1 x.0 phrase_read in
      let further = others x.1 more.1 more.0 more_read in
      let first = Spelled-then (separator kind) (signs x.0) ts after x.1 (separator_sound kind ts after separator_read) phrase.0 in
      took (repeated kind signs) (All Good) ts (x.0 ∷ more.0, more.1) (xs, rest) made
      (Spelled-then (separator kind ++ signs x.0) (repeated kind signs more.0) ts x.1 more.1 first further.0)
      (All-cons Good x.0 more.0 phrase.1 further.1))))
  turn_sound n others false ts rest xs e = took (repeated kind signs) (All Good) ts ([], ts) (xs, rest) e refl (All-nil Good)

  -- the items that are read are spelled by their signs, for each number of turns
  parse_many_within-sound : (n : ℕ) (ts rest : List Token) (xs : List X) → parse_many_within kind one n ts ≡ Ok (xs, rest) → Spelled (repeated kind signs xs) ts rest × All Good xs
  unfolding parse_many_within
  parse_many_within-sound zero ts rest xs e = took (repeated kind signs) (All Good) ts ([], ts) (xs, rest) e refl (All-nil Good)
  parse_many_within-sound (suc n) ts rest xs e = turn_sound n (parse_many_within-sound n) (has_more kind ts) ts rest xs e

  -- the items that are read are spelled by their signs
  pub many-sound : (ts rest : List Token) (xs : List X) → parse_many kind one ts ≡ Ok (xs, rest) → Spelled (repeated kind signs xs) ts rest × All Good xs
  many-sound ts rest xs e = parse_many_within-sound (length ts) ts rest xs e

module _ {X : Type 0} (kind : ListKind) (one : List Token → ParseResult X) (signs : X → List Sign) (Good : X → Type 0) (May : List Token → Type 0) (reads : Reads one signs Good May) (repeats : Repeats kind signs May) where
  -- what follows an item may follow it
  seam : (xs : List X) (ts rest : List Token) → Spelled (repeated kind signs xs) ts rest → May rest → May ts
  seam [] ts rest spelled may = rw spelled may
  seam (x ∷ xs) ts rest spelled may =
      split_then (separator kind ++ signs x) (repeated kind signs xs) ts rest spelled (λ mid first further. repeats.seam x ts mid first)

  -- the items that signs spell are read, for each number of turns
  parse_many_within-complete : (n : ℕ) (xs : List X) (ts rest : List Token) → length ts ≤ n → Spelled (repeated kind signs xs) ts rest → All Good xs → has_more kind rest ≡ false → May rest → parse_many_within kind one n ts ≡ Ok (xs, rest)
  unfolding parse_many_within
  parse_many_within-complete zero [] ts rest enough spelled good ends may = ap (λ (left : List Token). Ok ([], left)) spelled
  parse_many_within-complete (suc n) [] ts rest enough spelled good ends may = rw (spelled, ends) refl
  parse_many_within-complete zero (x ∷ xs) ts rest enough spelled good ends may =
      split_then (separator kind ++ signs x) (repeated kind signs xs) ts rest spelled (λ mid first further.
      absurd (omega (arith, repeats.shorter x ts mid first)))
  parse_many_within-complete (suc n) (x ∷ xs) ts rest enough spelled good ends may =
      split_then (separator kind ++ signs x) (repeated kind signs xs) ts rest spelled (λ mid first further.
      split_then (separator kind) (signs x) ts mid first (λ after separator_first phrase.
      let goes = repeats.goes x ts mid first in
      let separator_read = separator_complete kind ts after separator_first in
      let phrase_read = reads.complete after mid x phrase (All-head Good x xs good) (seam xs mid rest further may) in
      let further_read = parse_many_within-complete n xs mid rest (omega (arith, repeats.shorter x ts mid first)) further (All-tail Good x xs good) ends may in
      rw (goes, separator_read, phrase_read, further_read) refl))

  -- and those that signs spell are read
  pub many-complete : (ts rest : List Token) (xs : List X) → Spelled (repeated kind signs xs) ts rest → All Good xs → has_more kind rest ≡ false → May rest → parse_many kind one ts ≡ Ok (xs, rest)
  many-complete ts rest xs spelled good ends may = parse_many_within-complete (length ts) xs ts rest (omega arith) spelled good ends may
