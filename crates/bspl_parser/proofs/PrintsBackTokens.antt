-- Names, reserved words, marks and blanks are scanned as themselves.
use Rattle.std.proofs.Common.{◌≡◌, ℕ, true, false, [], ◌∷◌, ◌++◌, inl, refl, codes}
use Rattle.bspl_parser.specs.declared.document.Adorn.{Adorn}
use Rattle.bspl_parser.specs.declared.document.Adorn.TheVariants as adorn
use Rattle.bspl_parser.specs.declared.name_length.State.TheVariants.{Start}
use Rattle.bspl_parser.specs.declared.symbol.Symbol.{Symbol}
use Rattle.bspl_parser.specs.declared.symbol.Symbol.TheVariants.{Arrow, OpenBrace, CloseBrace, Comma, Colon}
use Rattle.bspl_parser.specs.declared.token.Token.TheVariants.{Name, Fixed}
use Rattle.bspl_parser.specs.declared.word.Word.{Word}
use Rattle.bspl_parser.specs.Alike.{word_without_offset}
use Rattle.bspl_parser.specs.Grammar.{signs_of_word, symbol_of}
use Rattle.bspl_parser.specs.Sign.{Sign, Named, Located, Plain, Matches}
use Rattle.bspl_parser.specs.Symbol.{spelling}
use Rattle.bspl_parser.specs.Tokens.{nothing, blank}
use Rattle.bspl_parser.proofs.MaximalMunch.{IsSeparated, at_space, word_is_longest, mark_is_longest}
use Rattle.bspl_parser.proofs.PrintsBack.{PrintsBack, PrintsBack-as, PrintsBack-then, Anything, AnyOf, none, gap_prints_back, token_prints_back}
use Rattle.bspl_parser.proofs.NameLemmas.{name_is_accepted}
use Rattle.bspl_parser.proofs.NameLengthLemmas.{accepts}
use Rattle.bspl_parser.proofs.Texts.{mark_of}

-- a name
pub name_prints_back : (w : Word) → PrintsBack IsSeparated w.text signs_of_word (λ v. word_without_offset v ≡ word_without_offset w)
name_prints_back w =
    PrintsBack-as signs_of_word (λ v. word_without_offset v ≡ word_without_offset w) (λ (o : ℕ). record w { offset = o }) (λ o. refl) (λ o like. refl)
    (token_prints_back IsSeparated w.text (λ o. Name (record w { offset = o })) (λ o. Named (record w { offset = o })) (λ o. refl) (λ o. refl) (λ o. refl) (word_is_longest w.text (name_is_accepted w.text w.named)))

-- a reserved word, as a sign that says it
pub word_prints_back : (s : Symbol) (sign : ℕ → Sign) → accepts Start (spelling s) ≡ true → ((o : ℕ) → Matches (sign o) (Fixed s o)) → PrintsBack IsSeparated (spelling s) (λ (o : ℕ). sign o ∷ []) (AnyOf ℕ)
word_prints_back s sign word matches = token_prints_back IsSeparated (spelling s) (λ o. Fixed s o) sign (λ o. inl refl) (λ o. refl) matches (word_is_longest (spelling s) word)

-- a mark
pub mark_prints_back : (s : Symbol) → accepts Start (spelling s) ≡ false → PrintsBack Anything (spelling s) (λ (o : ℕ). Plain s ∷ []) (AnyOf ℕ)
mark_prints_back s no_word = token_prints_back Anything (spelling s) (λ o. Fixed s o) (λ o. Plain s) (λ o. inl refl) (λ o. refl) (λ o. (o, refl)) (λ rest may. mark_is_longest (spelling s) (mark_of s no_word) rest)

-- an adornment
adorn_word : (a : Adorn) → accepts Start (spelling (symbol_of a)) ≡ true
adorn_word adorn.In = refl
adorn_word adorn.Out = refl
adorn_word adorn.Nil = refl
adorn_word adorn.Any = refl
adorn_word adorn.Opt = refl

pub adorn_prints_back : (a : Adorn) → PrintsBack IsSeparated (spelling (symbol_of a)) (λ (o : ℕ). Located (symbol_of a) o ∷ []) (AnyOf ℕ)
adorn_prints_back a = word_prints_back (symbol_of a) (λ o. Located (symbol_of a) o) (adorn_word a) (λ o. refl)

-- blanks
pub space_prints_back : PrintsBack Anything (codes " ") none (AnyOf (Unit {0}))
space_prints_back = gap_prints_back (blank refl nothing)

pub indent_prints_back : PrintsBack Anything (codes "  ") none (AnyOf (Unit {0}))
indent_prints_back = gap_prints_back (blank refl (blank refl nothing))

pub lf_prints_back : PrintsBack Anything (codes "\n") none (AnyOf (Unit {0}))
lf_prints_back = gap_prints_back (blank refl nothing)

-- a reserved word and a space
pub spaced_prints_back : (s : Symbol) (sign : ℕ → Sign) → accepts Start (spelling s) ≡ true → ((o : ℕ) → Matches (sign o) (Fixed s o)) → PrintsBack Anything (spelling s ++ codes " ") (λ (o : ℕ). sign o ∷ []) (AnyOf ℕ)
spaced_prints_back s sign word matches = PrintsBack-as (λ (o : ℕ). sign o ∷ []) (AnyOf ℕ) (λ (v : ℕ × Unit {0}). v.0) (λ v. refl) (λ v like. tt) (PrintsBack-then (λ rest must. at_space rest) (word_prints_back s sign word matches) space_prints_back)

-- marks among blanks
pub comma_prints_back : PrintsBack Anything (codes ", ") (λ (o : ℕ). Plain Comma ∷ []) (AnyOf ℕ)
comma_prints_back = PrintsBack-as (λ (o : ℕ). Plain Comma ∷ []) (AnyOf ℕ) (λ (v : ℕ × Unit {0}). v.0) (λ v. refl) (λ v like. tt) (PrintsBack-then (λ rest must. tt) (mark_prints_back Comma refl) space_prints_back)

pub colon_prints_back : PrintsBack Anything (codes ": ") (λ (o : ℕ). Plain Colon ∷ []) (AnyOf ℕ)
colon_prints_back = PrintsBack-as (λ (o : ℕ). Plain Colon ∷ []) (AnyOf ℕ) (λ (v : ℕ × Unit {0}). v.0) (λ v. refl) (λ v like. tt) (PrintsBack-then (λ rest must. tt) (mark_prints_back Colon refl) space_prints_back)

pub arrow_prints_back : PrintsBack Anything (codes " -> ") (λ (o : ℕ). Plain Arrow ∷ []) (AnyOf ℕ)
arrow_prints_back =
    PrintsBack-as (λ (o : ℕ). Plain Arrow ∷ []) (AnyOf ℕ) (λ (v : (Unit {0} × ℕ) × Unit {0}). v.0.1) (λ v. refl) (λ v like. tt)
    (PrintsBack-then (λ rest must. tt) (PrintsBack-then (λ rest must. tt) space_prints_back (mark_prints_back Arrow refl)) space_prints_back)

pub open_prints_back : PrintsBack Anything (codes " {\n") (λ (o : ℕ). Plain OpenBrace ∷ []) (AnyOf ℕ)
open_prints_back =
    PrintsBack-as (λ (o : ℕ). Plain OpenBrace ∷ []) (AnyOf ℕ) (λ (v : (Unit {0} × ℕ) × Unit {0}). v.0.1) (λ v. refl) (λ v like. tt)
    (PrintsBack-then (λ rest must. tt) (PrintsBack-then (λ rest must. tt) space_prints_back (mark_prints_back OpenBrace refl)) lf_prints_back)

pub close_prints_back : PrintsBack Anything (codes "}\n") (λ (o : ℕ). Plain CloseBrace ∷ []) (AnyOf ℕ)
close_prints_back = PrintsBack-as (λ (o : ℕ). Plain CloseBrace ∷ []) (AnyOf ℕ) (λ (v : ℕ × Unit {0}). v.0) (λ v. refl) (λ v like. tt) (PrintsBack-then (λ rest must. tt) (mark_prints_back CloseBrace refl) lf_prints_back)
