-- Names and parentheses with one space between each two are read as themselves.
use Rattle.std.proofs.Common.{◌≡◌, ℕ, suc, ◌+◌, List, [], ◌∷◌, ◌++◌, length, inl, inr, refl, sym, subst, ◌∙◌, codes, arith}
use Rattle.std.specs.Prelude.{map, IsTrue}
use Rattle.std.specs.List.{All, flat_map}
use Rattle.bspl_types.specs.Name.{is_name}
use Rattle.bspl_parser.specs.declared.symbol.Symbol.{Symbol}
use Rattle.bspl_parser.specs.declared.symbol.Symbol.TheVariants.{OpenParen, CloseParen}
use Rattle.bspl_parser.specs.declared.token.Token.{Token}
use Rattle.bspl_parser.specs.declared.token.Token.TheVariants.{Name, Fixed}
use Rattle.bspl_parser.specs.Separated.{HasWords, IsNameOrParen, space_separated}
use Rattle.bspl_parser.specs.Symbol.{spelling}
use Rattle.bspl_parser.specs.Token.{offset_of, token_text}
use Rattle.bspl_parser.specs.Tokens.{nothing, blank, SpellsToken, IsLongestToken, TokensTo}
use Rattle.bspl_parser.proofs.MaximalMunch.{at_space, word_is_longest, mark_is_longest}
use Rattle.bspl_parser.proofs.NameLemmas.{name_is_accepted}
use Rattle.bspl_parser.proofs.Scanned.{AtEnd, gap_before}
use Rattle.bspl_parser.proofs.Texts.{mark_of}

-- the bytes from the offset on have tokens of these words
record AreScanned (offset : ℕ) (bytes : List ℕ) (words : List (List ℕ)) : Type 0 where
  tokens : List Token
  scanned : TokensTo AtEnd offset bytes tokens
  worded : map token_text tokens ≡ words

-- each word, with a space before it
abbrev after_spaces : List (List ℕ) → List ℕ
after_spaces words = flat_map (λ word. codes " " ++ word) words

-- nothing makes a longer token at the end
longest_at_end : (text : List ℕ) → IsLongestToken text []
longest_at_end text [] after longer parts spells = refl
longest_at_end text (b ∷ more) after longer parts spells = absurd cc

-- a name is alone before what has a space first
name_alone : (word : List ℕ) → IsTrue (is_name word) → (words : List (List ℕ)) → IsLongestToken word (after_spaces words)
name_alone word named [] = longest_at_end word
name_alone word named (next ∷ words) = word_is_longest word (name_is_accepted word named) (after_spaces (next ∷ words)) (at_space (next ++ after_spaces words))

-- a token before the others
token_first : (t : Token) (word : List ℕ) (words : List (List ℕ)) (offset : ℕ) → token_text t ≡ word → offset_of t ≡ offset → SpellsToken word t → IsLongestToken word (after_spaces words) → AreScanned (offset + length word) (after_spaces words) words → AreScanned offset (word ++ after_spaces words) (word ∷ words)
token_first t word words offset text at spells longest others =
    let same : offset + length word ≡ offset + 0 + length word = omega arith in
    record {
      tokens = t ∷ others.tokens;
      scanned = (
        [],
        word,
        after_spaces words,
        record { parts = refl; skipped = nothing; spelled = spells; longest = longest; at_offset = at ∙ (omega arith) },
        subst (λ o. TokensTo AtEnd o (after_spaces words) others.tokens) same others.scanned,
      );
      worded = (let b = others.worded in cc);
    }

-- a parenthesis before the others
paren_first : (s : Symbol) (word : List ℕ) (words : List (List ℕ)) (offset : ℕ) → word ≡ spelling s → ((rest : List ℕ) → IsLongestToken (spelling s) rest) → AreScanned (offset + length word) (after_spaces words) words → AreScanned offset (word ++ after_spaces words) (word ∷ words)
paren_first s word words offset is longest others =
    token_first (Fixed s offset) word words offset (sym is) refl (inl is) (subst (λ w. IsLongestToken w (after_spaces words)) (sym is) (longest (after_spaces words))) others

word_first : (word : List ℕ) (words : List (List ℕ)) (offset : ℕ) → IsNameOrParen word → AreScanned (offset + length word) (after_spaces words) words → AreScanned offset (word ++ after_spaces words) (word ∷ words)
word_first word words offset (inl named) others =
    token_first (Name (record { text = word; offset = offset; named = named })) word words offset refl refl refl (name_alone word named words) others
word_first word words offset (inr (inl is)) others = paren_first OpenParen word words offset is (mark_is_longest (spelling OpenParen) (mark_of OpenParen refl)) others
word_first word words offset (inr (inr is)) others = paren_first CloseParen word words offset is (mark_is_longest (spelling CloseParen) (mark_of CloseParen refl)) others

-- the words after the first
others_of : (word : List ℕ) (words : List (List ℕ)) → All IsNameOrParen (word ∷ words) → All IsNameOrParen words
others_of word words all = λ k d lt. all (suc k) d (omega arith)

first_of : (word : List ℕ) (words : List (List ℕ)) → All IsNameOrParen (word ∷ words) → IsNameOrParen word
first_of word words all = all 0 word (omega arith)

-- words, each with a space before it
spaces_scanned : (words : List (List ℕ)) (offset : ℕ) → All IsNameOrParen words → AreScanned offset (after_spaces words) words
spaces_scanned [] offset all = record { tokens = []; scanned = ([], [], nothing, refl, inl refl); worded = refl }
spaces_scanned (word ∷ words) offset all =
    let others = spaces_scanned words (offset + 1 + length word) (others_of word words all) in
    let first = word_first word words (offset + 1) (first_of word words all) others in
    record {
      tokens = first.tokens;
      scanned = gap_before AtEnd (codes " ") (blank refl nothing) offset (word ++ after_spaces words) first.tokens first.scanned;
      worded = first.worded;
    }

pub separated_scanned : (words : List (List ℕ)) → All IsNameOrParen words → HasWords (space_separated words) words
separated_scanned [] all = record { tokens = []; scanned = ([], [], nothing, refl, inl refl); worded = refl }
separated_scanned (word ∷ words) all =
    let others = spaces_scanned words (0 + length word) (others_of word words all) in
    let first = word_first word words 0 (first_of word words all) others in
    record { tokens = first.tokens; scanned = first.scanned; worded = first.worded }
