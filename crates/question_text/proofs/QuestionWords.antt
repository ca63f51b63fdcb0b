-- The words of a question are names and parentheses, and each such word is the text of a token.
use Rattle.std.proofs.Common.{◌≡◌, ℕ, suc, List, [], ◌∷◌, ◌++◌, inl, inr, refl, sym, codes, arith}
use Rattle.std.specs.Prelude.{map}
use Rattle.std.specs.List.{All, flat_map}
use Rattle.std.proofs.lemmas.List.Elements.{All-nil, All-cons}
use Rattle.bspl_types.specs.Name.{is_name}
use Rattle.bspl_parser.specs.declared.symbol.Symbol.TheVariants.{OpenParen, CloseParen}
use Rattle.bspl_parser.specs.declared.token.Token.{Token}
use Rattle.bspl_parser.specs.declared.token.Token.TheVariants.{Name, Fixed}
use Rattle.bspl_parser.specs.Separated.{IsNameOrParen}
use Rattle.bspl_parser.specs.Token.{token_text}
use Rattle.question_text.specs.declared.tree.Said.{Said}
use Rattle.question_text.specs.declared.tree.Said.TheVariants as said
use Rattle.question_text.specs.Levels.{Level, HasLevel, HasNames, IsName, QuestionLevel, TermLevel, FactorLevel}
use Rattle.question_text.specs.Tree.{Phrase, Happened, Before, After, Can, Rest, Not, And, Or, Bracketed, words_of_phrase, words_of_said}

-- the words of the language are names
record AreNames : Type 0 where
  sent : IsName (codes "sent")
  received : IsName (codes "received")
  knows : IsName (codes "knows")
  bound : IsName (codes "bound")
  can : IsName (codes "can")
  rest : IsName (codes "rest")
  but : IsName (codes "but")
  before : IsName (codes "before")
  after : IsName (codes "after")
  both : IsName (codes "and")
  either : IsName (codes "or")
  negation : IsName (codes "not")

language : AreNames
unfolding is_name
language = record {
  sent = refl;
  received = refl;
  knows = refl;
  bound = refl;
  can = refl;
  rest = refl;
  but = refl;
  before = refl;
  after = refl;
  both = refl;
  either = refl;
  negation = refl;
}

-- words that are names or parentheses
abbrev pub Plain : List (List ℕ) → Type 0
Plain [] = Unit {0}
Plain (word ∷ words) = IsNameOrParen word × Plain words

plain-append : (a b : List (List ℕ)) → Plain a → Plain b → Plain (a ++ b)
plain-append [] b p q = q
plain-append (word ∷ a) b p q = (p.0, plain-append a b p.1 q)

-- the words after some of them
pub suffix_plain : (words more : List (List ℕ)) → Plain (words ++ more) → Plain more
suffix_plain [] more p = p
suffix_plain (word ∷ words) more p = suffix_plain words more p.1

-- each of them is one
pub all_plain : (words : List (List ℕ)) → Plain words → All IsNameOrParen words
all_plain [] p = All-nil IsNameOrParen
all_plain (word ∷ words) p = All-cons IsNameOrParen word words p.0 (all_plain words p.1)

said_plain : (h : Said) → HasNames h → Plain (words_of_said h)
said_plain (said.Sent m) n = (inl language.sent, (inl n, tt))
said_plain (said.Received m) n = (inl language.received, (inl n, tt))
said_plain (said.Knows r p) n = (inl language.knows, (inl n.0, (inl n.1, tt)))
said_plain (said.Bound p) n = (inl language.bound, (inl n, tt))

excused_plain : (excused : List (List ℕ)) → All IsName excused → Plain (flat_map (λ m. codes "but" ∷ m ∷ []) excused)
excused_plain [] n = tt
excused_plain (m ∷ ms) n =
    let rest : All IsName ms = λ k d lt. n (suc k) d (omega arith) in
    (inl language.but, (inl (n 0 m (omega arith)), excused_plain ms rest))

-- two parts with a word between them
two_parts : (a b : List (List ℕ)) (word : List ℕ) → IsName word → Plain a → Plain b → Plain (a ++ word ∷ b)
two_parts a b word n p q = plain-append a (word ∷ b) p (inl n, q)

-- the words of a phrase of any level
pub phrase_plain : (q : Phrase) (level : Level) → HasLevel level q → Plain (words_of_phrase q)
phrase_plain (Happened h) level f = said_plain h f
phrase_plain (Before one other) level f = two_parts (words_of_said one) (words_of_said other) (codes "before") language.before (said_plain one f.0) (said_plain other f.1)
phrase_plain (After one other) level f = two_parts (words_of_said one) (words_of_said other) (codes "after") language.after (said_plain one f.0) (said_plain other f.1)
phrase_plain (Can m) level f = (inl language.can, (inl f, tt))
phrase_plain (Rest excused) level f = (inl language.rest, excused_plain excused f)
phrase_plain (Not q) level f = (inl language.negation, phrase_plain q FactorLevel f)
phrase_plain (And q r) level f = two_parts (words_of_phrase q) (words_of_phrase r) (codes "and") language.both (phrase_plain q TermLevel f.1) (phrase_plain r FactorLevel f.2)
phrase_plain (Or q r) level f = two_parts (words_of_phrase q) (words_of_phrase r) (codes "or") language.either (phrase_plain q QuestionLevel f.1) (phrase_plain r TermLevel f.2)
phrase_plain (Bracketed q) level f =
    (inr (inl refl), plain-append (words_of_phrase q) (codes ")" ∷ []) (phrase_plain q QuestionLevel f) (inr (inr refl), tt))

-- a token of that text
token_of_word : (word : List ℕ) → IsNameOrParen word → (t : Token) × (token_text t ≡ word)
token_of_word word (inl n) = (Name (record { text = word; offset = 0; named = n }), refl)
token_of_word word (inr (inl e)) = (Fixed OpenParen 0, sym e)
token_of_word word (inr (inr e)) = (Fixed CloseParen 0, sym e)

-- tokens of these words
pub tokens_of_words : (words : List (List ℕ)) → Plain words → (ts : List Token) × (map token_text ts ≡ words)
tokens_of_words [] p = ([], refl)
tokens_of_words (word ∷ words) p =
    let first = token_of_word word p.0 in
    let others = tokens_of_words words p.1 in
    (first.0 ∷ others.0, (let a = first.1 in let b = others.1 in cc))
