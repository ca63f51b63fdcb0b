-- The texts of tokens: words, and marks.
use Rattle.std.proofs.Common.{◌≡◌, ℕ, zero, suc, Bool, true, false, not, ◌&&◌, eqb, List, [], ◌∷◌, ◌++◌, length, take, Option, Some, None, ◌⊎◌, inl, inr, refl, sym, ap, subst, ◌∙◌}
use Rattle.std.specs.List.{find}
use Rattle.std.specs.Str.{bytes_eq}
use Rattle.std.proofs.lemmas.Bool.{cases_Bool, eqb-true, and_parts}
use Rattle.bspl_types.specs.Name.{begins_name, is_name}
use Rattle.bspl_parser.specs.declared.name_length.State.TheVariants.{Start}
use Rattle.bspl_parser.specs.declared.symbol.Symbol.{Symbol}
use Rattle.bspl_parser.specs.declared.symbol.Symbol.TheVariants.{Roles, Role, Parameters, Parameter, Private, In, Out, Nil, Any, Opt, Key, Arrow, OpenBrace, CloseBrace, OpenBracket, CloseBracket, OpenParen, CloseParen, Comma, Colon}
use Rattle.bspl_parser.specs.declared.token.Token.{Token}
use Rattle.bspl_parser.specs.declared.token.Token.TheVariants.{Name, Fixed}
use Rattle.bspl_parser.specs.Symbol.{spelling}
use Rattle.bspl_parser.specs.inner.SymbolTable.{words, marks}
use Rattle.bspl_parser.specs.inner.Scanner.{mark_at}
use Rattle.bspl_parser.specs.Tokens.{is_blank_byte, long_arrow, SpellsSymbol, SpellsToken}
use Rattle.bspl_parser.proofs.Gaps.{NoPiece}
use Rattle.bspl_parser.proofs.NameLemmas.{name_is_accepted}
use Rattle.bspl_parser.proofs.NameLengthLemmas.{accepts}

-- it begins with a byte that is no blank and no slash
pub record IsSolid (text : List ℕ) : Type 0 where
  pub first : ℕ
  pub others : List ℕ
  pub is : text ≡ first ∷ others
  pub no_blank : is_blank_byte first ≡ false
  pub no_slash : eqb first 47 ≡ false

-- the text of a mark: what begins with it is found to begin with the mark, and begins with no name
pub record IsMarkText (text : List ℕ) : Type 0 where
  pub symbol : Symbol
  pub again : (rest : List ℕ) → mark_at (text ++ rest) ≡ Some (symbol, length text)
  pub no_name : (rest : List ℕ) → (n : ℕ) → accepts Start (take n (text ++ rest)) ≡ false
  pub solid : IsSolid text

-- it begins with a byte that begins no name, no blank and no comment
abbrev begins_mark : List ℕ → Bool
begins_mark [] = false
begins_mark (b ∷ bs) = (not (begins_name b) && not (is_blank_byte b)) && not (eqb b 47)

-- no name begins with a byte that begins no name
no_name_begins : (b : ℕ) (bs : List ℕ) → begins_name b ≡ false → (n : ℕ) → accepts Start (take n (b ∷ bs)) ≡ false
no_name_begins b bs none zero = refl
no_name_begins b bs none (suc n) = rw none refl

not_true : (b : Bool) → not b ≡ true → b ≡ false
not_true true is = absurd cc
not_true false is = refl

-- a text that is found again as a mark, and begins as a mark does
mark : (text : List ℕ) (symbol : Symbol) → ((rest : List ℕ) → mark_at (text ++ rest) ≡ Some (symbol, length text)) → begins_mark text ≡ true → IsMarkText text
mark [] symbol again begins = absurd cc
mark (b ∷ bs) symbol again begins =
    let parts = and_parts (not (begins_name b) && not (is_blank_byte b)) (not (eqb b 47)) begins in
    let firsts = and_parts (not (begins_name b)) (not (is_blank_byte b)) parts.0 in
    record {
      symbol = symbol;
      again = again;
      no_name = λ rest. no_name_begins b (bs ++ rest) (not_true (begins_name b) firsts.0);
      solid = record { first = b; others = bs; is = refl; no_blank = not_true (is_blank_byte b) firsts.1; no_slash = not_true (eqb b 47) parts.1 };
    }

-- each symbol is a word or a mark
kinds : (s : Symbol) → (accepts Start (spelling s) ≡ true) ⊎ IsMarkText (spelling s)
unfolding mark_at
kinds Roles = inl refl
kinds Role = inl refl
kinds Parameters = inl refl
kinds Parameter = inl refl
kinds Private = inl refl
kinds In = inl refl
kinds Out = inl refl
kinds Nil = inl refl
kinds Any = inl refl
kinds Opt = inl refl
kinds Key = inl refl
kinds Arrow = inr (mark (spelling Arrow) Arrow (λ rest. refl) refl)
kinds OpenBrace = inr (mark (spelling OpenBrace) OpenBrace (λ rest. refl) refl)
kinds CloseBrace = inr (mark (spelling CloseBrace) CloseBrace (λ rest. refl) refl)
kinds OpenBracket = inr (mark (spelling OpenBracket) OpenBracket (λ rest. refl) refl)
kinds CloseBracket = inr (mark (spelling CloseBracket) CloseBracket (λ rest. refl) refl)
kinds OpenParen = inr (mark (spelling OpenParen) OpenParen (λ rest. refl) refl)
kinds CloseParen = inr (mark (spelling CloseParen) CloseParen (λ rest. refl) refl)
kinds Comma = inr (mark (spelling Comma) Comma (λ rest. refl) refl)
kinds Colon = inr (mark (spelling Colon) Colon (λ rest. refl) refl)

-- a symbol that is no word is a mark
pub mark_of : (s : Symbol) → accepts Start (spelling s) ≡ false → IsMarkText (spelling s)
mark_of s no_word =
    elim (kinds s) [
      | inl word ↦ absurd cc
      | inr is_mark ↦ is_mark
    ]

-- the other arrow is a mark
long_arrow_mark : IsMarkText long_arrow
unfolding mark_at
long_arrow_mark = mark long_arrow Arrow (λ rest. refl) refl

-- each token's text is a name, a word or a mark
pub texts : (text : List ℕ) (t : Token) → SpellsToken text t → (accepts Start text ≡ true) ⊎ IsMarkText text
texts text (Name w) spells = inl (name_is_accepted text (subst (λ x. is_name x ≡ true) spells w.named))
texts text (Fixed s o) (inl spells) =
    elim (kinds s) [
      | inl word ↦ inl (rw spells word)
      | inr is_mark ↦ inr (subst IsMarkText (sym spells) is_mark)
    ]
texts text (Fixed s o) (inr spells) = inr (subst IsMarkText (sym spells.1) long_arrow_mark)

-- the symbol of a text
abbrev known : List ℕ → Option Symbol
known text = find (λ s. bytes_eq (spelling s) text) (words ++ marks)

-- each symbol is known by its spelling
known-spelling : (s : Symbol) → known (spelling s) ≡ Some s
known-spelling Roles = refl
known-spelling Role = refl
known-spelling Parameters = refl
known-spelling Parameter = refl
known-spelling Private = refl
known-spelling In = refl
known-spelling Out = refl
known-spelling Nil = refl
known-spelling Any = refl
known-spelling Opt = refl
known-spelling Key = refl
known-spelling Arrow = refl
known-spelling OpenBrace = refl
known-spelling CloseBrace = refl
known-spelling OpenBracket = refl
known-spelling CloseBracket = refl
known-spelling OpenParen = refl
known-spelling CloseParen = refl
known-spelling Comma = refl
known-spelling Colon = refl

-- one value of `Some`
pub some_is : {A : Type 0} (x y : A) → Some x ≡ Some y → x ≡ y
some_is x y e = cc

-- the other arrow is no symbol's spelling
other_spelling : (s : Symbol) (text : List ℕ) → text ≡ spelling s → text ≡ long_arrow → ⊥
other_spelling s text short long =
    let is = known-spelling s in
    let none : known (spelling s) ≡ None = ap known (sym short ∙ long) in
    cc

-- symbols of one text are one
pub spelling_is : (text : List ℕ) (s t : Symbol) → SpellsSymbol text s → SpellsSymbol text t → s ≡ t
spelling_is text s t (inl of_s) (inl of_t) = some_is s t (sym (known-spelling s) ∙ ap known (sym of_s ∙ of_t) ∙ known-spelling t)
spelling_is text s t (inl of_s) (inr of_t) = absurd (other_spelling s text of_s of_t.1)
spelling_is text s t (inr of_s) (inl of_t) = absurd (other_spelling t text of_t of_s.1)
spelling_is text s t (inr of_s) (inr of_t) = of_s.0 ∙ sym of_t.0

-- neither a blank nor a slash begins a name
begins_solid : (b : ℕ) → begins_name b ≡ true → (is_blank_byte b ≡ false) × (eqb b 47 ≡ false)
begins_solid b begins = (no_blank, no_slash)
  where
    no : (c : ℕ) → begins_name c ≡ false → eqb b c ≡ false
    no c none =
        elim (cases_Bool (eqb b c)) [
          | inl is ↦ absurd (let at_c : begins_name c ≡ true = subst (λ x. begins_name x ≡ true) (eqb-true b c is) begins in cc)
          | inr other ↦ other
        ]

    no_slash : eqb b 47 ≡ false
    no_slash = no 47 refl

    no_blank : is_blank_byte b ≡ false
    no_blank = rw (no 32 refl, no 9 refl, no 10 refl, no 13 refl) refl

word_solid : (text : List ℕ) → accepts Start text ≡ true → IsSolid text
word_solid [] word = absurd cc
word_solid (b ∷ bs) word =
    elim (cases_Bool (begins_name b)) [
      | inl begins ↦ let solid = begins_solid b begins in record { first = b; others = bs; is = refl; no_blank = solid.0; no_slash = solid.1 }
      | inr other ↦ absurd (let none : accepts Start (b ∷ bs) ≡ false = rw other refl in cc)
    ]

-- each token's text is solid
pub texts_solid : (text : List ℕ) (t : Token) → SpellsToken text t → IsSolid text
texts_solid text t spells =
    elim (texts text t spells) [
      | inl word ↦ word_solid text word
      | inr is_mark ↦ is_mark.solid
    ]

-- what begins with a solid text begins with no piece of a gap
pub solid_is_no_piece : (text rest : List ℕ) → IsSolid text → NoPiece (text ++ rest)
solid_is_no_piece text rest solid =
    let prefix : text ++ rest ≡ solid.first ∷ (solid.others ++ rest) = ap (λ x. x ++ rest) solid.is in
    record {
      no_blank = λ b more e is. (let first : solid.first ≡ b = (let both = sym prefix ∙ e in cc) in let other : is_blank_byte b ≡ false = subst (λ c. is_blank_byte c ≡ false) first solid.no_blank in cc);
      no_comment = λ t more line e. (let first : solid.first ≡ 47 = (let both = sym prefix ∙ e in cc) in let other : eqb 47 47 ≡ false = subst (λ c. eqb c 47 ≡ false) first solid.no_slash in cc);
    }
