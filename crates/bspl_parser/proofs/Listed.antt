-- Lists with commas, and what tokens begin with.
use Rattle.std.proofs.Common.{◌≡◌, ◌≢◌, true, false, List, [], ◌∷◌, Ok, inl, inr, refl, ap, ◌∙◌}
use Rattle.std.specs.List.{All}
use Rattle.std.proofs.lemmas.List.Elements.{All-cons, All-head, All-tail}
use Rattle.bspl_parser.specs.declared.list_kind.ListKind.TheVariants as list_kind
use Rattle.bspl_parser.specs.declared.symbol.Symbol.{Symbol}
use Rattle.bspl_parser.specs.declared.symbol.Symbol.TheVariants.{Comma, Key}
use Rattle.bspl_parser.specs.declared.token.Token.{Token}
use Rattle.bspl_parser.specs.declared.word.Word.{Word}
use Rattle.bspl_parser.specs.inner.SymbolTable.{same_symbol}
use Rattle.bspl_parser.specs.Sign.{Sign, Named, Plain, OneOf, after_commas, listed}
use Rattle.bspl_parser.specs.Grammar.{signs_of_word, signs_of_formal}
use Rattle.bspl_parser.specs.inner.ParseResult.{ParseResult}
use Rattle.bspl_parser.specs.inner.TokenParsers.{begins_with, begins_with_name}
use Rattle.bspl_parser.specs.inner.GrammarParsers.{parse_many, parse_list}
use Rattle.bspl_parser.proofs.Spelled.{Spelled, Spelled-then, Spelled-shorter, Reads, bind_then, split_then, took}
use Rattle.bspl_parser.proofs.Formals.{Keyless}
use Rattle.bspl_parser.proofs.Lists.{Repeats, many-sound, many-complete}

-- the first token shows which symbol, or that it is a name
pub begins-plain : (s t : Symbol) (signs : List Sign) (ts rest : List Token) → Spelled (Plain s ∷ signs) ts rest → begins_with t ts ≡ same_symbol s t
begins-plain s t signs ts rest spelled = ap (begins_with t) (spelled.2 ∙ ap (λ first. first ∷ spelled.1) spelled.3.1)

-- a name is no symbol
pub begins-named : (w : Word) (t : Symbol) (signs : List Sign) (ts rest : List Token) → Spelled (Named w ∷ signs) ts rest → begins_with t ts ≡ false
begins-named w t signs ts rest spelled = ap (begins_with t) (spelled.2 ∙ ap (λ first. first ∷ spelled.1) spelled.3)

-- a name comes first
pub named_begins : (w : Word) (signs : List Sign) (ts rest : List Token) → Spelled (Named w ∷ signs) ts rest → begins_with_name ts ≡ true
named_begins w signs ts rest spelled = ap begins_with_name (spelled.2 ∙ ap (λ first. first ∷ spelled.1) spelled.3)

-- a symbol is no name
pub plain_is_no_name : (s : Symbol) (signs : List Sign) (ts rest : List Token) → Spelled (Plain s ∷ signs) ts rest → begins_with_name ts ≡ false
plain_is_no_name s signs ts rest spelled = ap begins_with_name (spelled.2 ∙ ap (λ first. first ∷ spelled.1) spelled.3.1)

-- one of two symbols is no third
pub begins-either : (a b t : Symbol) (signs : List Sign) (ts rest : List Token) → same_symbol a t ≡ false → same_symbol b t ≡ false → Spelled (OneOf a b ∷ signs) ts rest → begins_with t ts ≡ false
begins-either a b t signs ts rest other_a other_b spelled =
    elim spelled.3.1 [
      | inl is ↦ ap (begins_with t) (spelled.2 ∙ ap (λ first. first ∷ spelled.1) is) ∙ other_a
      | inr is ↦ ap (begins_with t) (spelled.2 ∙ ap (λ first. first ∷ spelled.1) is) ∙ other_b
    ]

-- items after commas form a list
pub commas_repeat : {X : Type 0} (signs : X → List Sign) (May : List Token → Type 0) → ((ts rest : List Token) (others : List Sign) → Spelled (Plain Comma ∷ others) ts rest → May ts) → Repeats list_kind.Comma signs May
commas_repeat signs May may =
    record {
      goes = λ x ts rest spelled. begins-plain Comma Comma (signs x) ts rest spelled;
      seam = λ x ts rest spelled. may ts rest (signs x) spelled;
      shorter = λ x ts rest spelled. Spelled-shorter (Plain Comma) (signs x) ts rest spelled;
    }

pub words_repeat : Repeats list_kind.Comma signs_of_word (λ ts. Unit {0})
words_repeat = commas_repeat signs_of_word (λ ts. Unit {0}) (λ ts rest others spelled. tt)

pub formals_repeat : Repeats list_kind.Comma signs_of_formal Keyless
formals_repeat = commas_repeat signs_of_formal Keyless (λ ts rest others spelled. begins-plain Comma Key others ts rest spelled)

-- a list that is not empty, of good items
pub record GoodList {X : Type 0} (Good : X → Type 0) (xs : List X) : Type 0 where
  pub some : xs ≢ []
  pub each : All Good xs

module _ {X : Type 0} (one : List Token → ParseResult X) (signs : X → List Sign) (Good : X → Type 0) (May : List Token → Type 0) (reads : Reads one signs Good May) where
  pub listed-sound : (ts rest : List Token) (xs : List X) → parse_list one ts ≡ Ok (xs, rest) → Spelled (listed signs xs) ts rest × GoodList Good xs
  unfolding parse_list
  listed-sound ts rest xs e =
      bind_then (one ts) _ (xs, rest) e (λ first first_read then_more.
      bind_then (parse_many list_kind.Comma one first.1) _ (xs, rest) then_more (λ more more_read made.
      let phrase = reads.sound ts first.1 first.0 first_read in
      let further = many-sound list_kind.Comma one signs Good May reads first.1 more.1 more.0 more_read in
      took (listed signs) (GoodList Good) ts (first.0 ∷ more.0, more.1) (xs, rest) made
      (Spelled-then (signs first.0) (after_commas signs more.0) ts first.1 more.1 phrase.0 further.0)
      (record { some = λ is. cc; each = All-cons Good first.0 more.0 phrase.1 further.1 })))

  pub listed-complete : Repeats list_kind.Comma signs May → (ts rest : List Token) (xs : List X) → Spelled (listed signs xs) ts rest → GoodList Good xs → begins_with Comma rest ≡ false → May rest → parse_list one ts ≡ Ok (xs, rest)
  unfolding parse_list
  listed-complete repeats ts rest [] spelled good ends may = absurd (good.some refl)
  listed-complete repeats ts rest (x ∷ xs) spelled good ends may =
      split_then (signs x) (after_commas signs xs) ts rest spelled (λ mid first further.
      let first_read = reads.complete ts mid x first (All-head Good x xs good.each) (seam_of xs mid further) in
      let more_read = many-complete list_kind.Comma one signs Good May reads repeats mid rest xs further (All-tail Good x xs good.each) ends may in
      rw (first_read, more_read) refl)
    where
      seam_of : (xs : List X) (mid : List Token) → Spelled (after_commas signs xs) mid rest → May mid
      seam_of [] mid further = rw further may
      seam_of (y ∷ ys) mid further = split_then (Plain Comma ∷ signs y) (after_commas signs ys) mid rest further (λ left first more. repeats.seam y mid left first)
