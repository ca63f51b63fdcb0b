-- A text has one list of tokens up to one end.
use Rattle.std.proofs.Common.{◌≡◌, ℕ, ◌+◌, true, false, eqb, List, [], ◌∷◌, ◌++◌, length, ◌⊎◌, inl, inr, refl, sym, ap, subst, ◌∙◌}
use Rattle.std.proofs.lemmas.List.{append-nil, append_cancel_left}
use Rattle.bspl_types.specs.Name.{is_name}
use Rattle.bspl_parser.specs.declared.token.Token.{Token}
use Rattle.bspl_parser.specs.declared.token.Token.TheVariants.{Name, Fixed}
use Rattle.bspl_parser.specs.declared.symbol.Symbol.{Symbol}
use Rattle.bspl_parser.specs.declared.word.Word.{Word}
use Rattle.bspl_parser.specs.Symbol.{spelling}
use Rattle.bspl_parser.specs.Token.{offset_of}
use Rattle.bspl_parser.specs.Tokens.{IsGap, IsEnd, SpellsSymbol, SpellsToken, IsLongestToken, BeginsWithToken, TokensTo, Tokens, BeginsNothing, IsBadByte, long_arrow}
use Rattle.bspl_parser.proofs.Gaps.{NoPiece, same_gap, end_is_no_piece}
use Rattle.bspl_parser.proofs.NameLemmas.{symbol_is_no_name, arrow_is_no_name}
use Rattle.bspl_parser.proofs.Texts.{texts_solid, spelling_is, solid_is_no_piece}
use Rattle.bspl_parser.proofs.WordLemmas.{Word_same}

-- of two prefixes of one list one is a prefix of the other
prefixes : (x r y s : List ℕ) → x ++ r ≡ y ++ s → ((more : List ℕ) × (y ≡ x ++ more) × (r ≡ more ++ s)) ⊎ ((more : List ℕ) × (x ≡ y ++ more) × (s ≡ more ++ r))
prefixes [] r y s e = inl (y, refl, e)
prefixes (b ∷ x) r [] s e = inr (b ∷ x, refl, sym e)
prefixes (b ∷ x) r (c ∷ y) s e =
    let heads : b ≡ c = cc in
    let tails : x ++ r ≡ y ++ s = cc in
    elim (prefixes x r y s tails) [
      | inl h ↦ inl (h.0, rw (h.1, heads) refl, h.2)
      | inr h ↦ inr (h.0, rw (h.1, heads) refl, h.2)
    ]

-- a name and a symbol have not one text
not_both : (text : List ℕ) (w : Word) (s : Symbol) → w.text ≡ text → SpellsSymbol text s → ⊥
not_both text w s named (inl spelled) =
    let name : is_name (spelling s) ≡ true = subst (λ t. is_name t ≡ true) (named ∙ spelled) w.named in
    let no_name = symbol_is_no_name s in
    cc
not_both text w s named (inr spelled) =
    let name : is_name long_arrow ≡ true = subst (λ t. is_name t ≡ true) (named ∙ spelled.1) w.named in
    let no_name = arrow_is_no_name in
    cc

-- a text and an offset make one token
same_token : (text : List ℕ) (t u : Token) → SpellsToken text t → SpellsToken text u → offset_of t ≡ offset_of u → t ≡ u
same_token text (Name v) (Name w) of_t of_u same_offset = ap Name (Word_same v w (of_t ∙ sym of_u) same_offset)
same_token text (Name v) (Fixed s o) of_t of_u same_offset = absurd (not_both text v s of_t of_u)
same_token text (Fixed s o) (Name w) of_t of_u same_offset = absurd (not_both text w s of_u of_t)
same_token text (Fixed s o) (Fixed s' o') of_t of_u same_offset = let same : s ≡ s' = spelling_is text s s' of_t of_u in let same_offset' : o ≡ o' = same_offset in cc

-- the longest texts at one offset are one
same_text : (x r y s : List ℕ) (t u : Token) → SpellsToken x t → IsLongestToken x r → SpellsToken y u → IsLongestToken y s → x ++ r ≡ y ++ s → x ≡ y
same_text x r y s t u of_t longest_t of_u longest_u e =
    elim (prefixes x r y s e) [
      | inl h ↦ sym (h.1 ∙ ap (λ more. x ++ more) (longest_t h.0 s u h.2 (subst (λ text. SpellsToken text u) h.1 of_u)) ∙ append-nil x)
      | inr h ↦ h.1 ∙ ap (λ more. y ++ more) (longest_u h.0 r t h.2 (subst (λ text. SpellsToken text t) h.1 of_t)) ∙ append-nil y
    ]

-- what two tokens at the start of the same bytes share
pub record IsOne (t u : Token) (g h x y r s : List ℕ) : Type 0 where
  pub token : t ≡ u
  pub gap : g ≡ h
  pub text : x ≡ y
  pub rest : r ≡ s

-- two tokens at the start of the same bytes are one
pub same_first : (offset : ℕ) (bytes : List ℕ) (t u : Token) (g x r h y s : List ℕ) → BeginsWithToken offset bytes t g x r → BeginsWithToken offset bytes u h y s → IsOne t u g h x y r s
same_first offset bytes t u g x r h y s of_t of_u =
    let none_t = solid_is_no_piece x r (texts_solid x t of_t.spelled) in
    let none_u = solid_is_no_piece y s (texts_solid y u of_u.spelled) in
    let parts = same_gap of_t.skipped of_u.skipped (x ++ r) (y ++ s) none_t none_u (sym of_t.parts ∙ of_u.parts) in
    let text = same_text x r y s t u of_t.spelled of_t.longest of_u.spelled of_u.longest parts.1 in
    let same_offset : offset_of t ≡ offset_of u = of_t.at_offset ∙ ap (λ g. offset + length g) parts.0 ∙ sym of_u.at_offset in
    record {
      token = same_token y t u (subst (λ x. SpellsToken x t) text of_t.spelled) of_u.spelled same_offset;
      gap = parts.0;
      text = text;
      rest = append_cancel_left y r s (ap (λ x. x ++ r) (sym text) ∙ parts.1);
    }

-- no token begins, and no piece of a gap
pub record IsLast (bytes : List ℕ) : Type 0 where
  pub no_piece : NoPiece bytes
  pub no_token : (text rest : List ℕ) (t : Token) → bytes ≡ text ++ rest → SpellsToken text t → ⊥

-- nothing begins where the tokens end
abbrev pub AreLast : (ℕ → List ℕ → Type 0) → Type 0
AreLast End = (offset : ℕ) (rest : List ℕ) → End offset rest → IsLast rest

-- no token begins there
last_is_no_token : (offset : ℕ) (bytes g rest : List ℕ) (u : Token) (h y s : List ℕ) → IsGap g → bytes ≡ g ++ rest → IsLast rest → BeginsWithToken offset bytes u h y s → ⊥
last_is_no_token offset bytes g rest u h y s gap parts last of_u =
    let same = same_gap gap of_u.skipped rest (y ++ s) last.no_piece (solid_is_no_piece y s (texts_solid y u of_u.spelled)) (sym parts ∙ of_u.parts) in
    last.no_token y s u same.1 of_u.spelled

-- one list of tokens, one offset and one rest
pub record SameTokens (E F : ℕ → List ℕ → Type 0) (ts us : List Token) : Type 0 where
  pub tokens : ts ≡ us
  pub offset : ℕ
  pub rest : List ℕ
  pub one : E offset rest
  pub other : F offset rest

-- the tokens of bytes, and where they end, are determined
pub TokensTo_unique : (E F : ℕ → List ℕ → Type 0) → AreLast E → AreLast F → (offset : ℕ) (bytes : List ℕ) (ts us : List Token) → TokensTo E offset bytes ts → TokensTo F offset bytes us → SameTokens E F ts us
TokensTo_unique E F last_e last_f offset bytes [] [] of_ts of_us =
    let g = of_ts.0 in
    let r = of_ts.1 in
    let same = same_gap of_ts.2 of_us.2 r of_us.1 (last_e (offset + length g) r of_ts.4).no_piece (last_f (offset + length of_us.0) of_us.1 of_us.4).no_piece (sym of_ts.3 ∙ of_us.3) in
    let same_offset : offset + length of_us.0 ≡ offset + length g = ap (λ g. offset + length g) (sym same.0) in
    record {
      tokens = refl;
      offset = offset + length g;
      rest = r;
      one = of_ts.4;
      other = subst (λ o. F o r) same_offset (subst (F (offset + length of_us.0)) (sym same.1) of_us.4);
    }
TokensTo_unique E F last_e last_f offset bytes [] (u ∷ us) of_ts of_us = absurd (last_is_no_token offset bytes of_ts.0 of_ts.1 u of_us.0 of_us.1 of_us.2 of_ts.2 of_ts.3 (last_e (offset + length of_ts.0) of_ts.1 of_ts.4) of_us.3)
TokensTo_unique E F last_e last_f offset bytes (t ∷ ts) [] of_ts of_us = absurd (last_is_no_token offset bytes of_us.0 of_us.1 t of_ts.0 of_ts.1 of_ts.2 of_us.2 of_us.3 (last_f (offset + length of_us.0) of_us.1 of_us.4) of_ts.3)
TokensTo_unique E F last_e last_f offset bytes (t ∷ ts) (u ∷ us) of_ts of_us =
    let one = same_first offset bytes t u of_ts.0 of_ts.1 of_ts.2 of_us.0 of_us.1 of_us.2 of_ts.3 of_us.3 in
    let same_offset : offset + length of_ts.0 + length of_ts.1 ≡ offset + length of_us.0 + length of_us.1 = ap (λ g. offset + length g + length of_ts.1) one.gap ∙ ap (λ x. offset + length of_us.0 + length x) one.text in
    let rest : TokensTo E (offset + length of_us.0 + length of_us.1) of_us.2 ts = subst (λ o. TokensTo E o of_us.2 ts) same_offset (subst (λ r. TokensTo E (offset + length of_ts.0 + length of_ts.1) r ts) one.rest of_ts.4) in
    let others = TokensTo_unique E F last_e last_f (offset + length of_us.0 + length of_us.1) of_us.2 ts us rest of_us.4 in
    let first = one.token in
    let tail = others.tokens in
    record { tokens = cc; offset = others.offset; rest = others.rest; one = others.one; other = others.other }

-- a solid text does not begin an end
end_is_last : (bytes : List ℕ) → IsEnd bytes → IsLast bytes
end_is_last bytes (inl none) =
    record {
      no_piece = end_is_no_piece bytes (inl none);
      no_token = λ text rest t parts spells. (let solid = texts_solid text t spells in let prefix : [] ≡ solid.first ∷ (solid.others ++ rest) = sym none ∙ parts ∙ ap (λ x. x ++ rest) solid.is in cc);
    }
end_is_last bytes (inr line) =
    record {
      no_piece = end_is_no_piece bytes (inr line);
      no_token = λ text rest t parts spells. (let solid = texts_solid text t spells in
          let prefix : 47 ∷ 47 ∷ line.0 ≡ solid.first ∷ (solid.others ++ rest) = sym line.2 ∙ parts ∙ ap (λ x. x ++ rest) solid.is in
          let first : solid.first ≡ 47 = cc in
          let other : eqb 47 47 ≡ false = subst (λ c. eqb c 47 ≡ false) first solid.no_slash in
          cc);
    }

-- nor does anything begin where nothing does
nothing_is_last : (bytes : List ℕ) → BeginsNothing bytes → IsLast bytes
nothing_is_last bytes none =
    record {
      no_piece = record { no_blank = none.no_blank; no_comment = λ text rest line e. none.no_comment (text ++ 10 ∷ rest) e };
      no_token = none.no_token;
    }

-- a text has one list of tokens
pub Tokens_unique : (text : List ℕ) (ts us : List Token) → Tokens text ts → Tokens text us → ts ≡ us
Tokens_unique text ts us of_ts of_us = (TokensTo_unique (λ offset rest. IsEnd rest) (λ offset rest. IsEnd rest) (λ offset rest. end_is_last rest) (λ offset rest. end_is_last rest) 0 text ts us of_ts of_us).tokens

-- and none where a byte is bad
pub bad_has_no_tokens : (text : List ℕ) (bad : ℕ) (ts : List Token) → IsBadByte text bad → Tokens text ts → ⊥
bad_has_no_tokens text bad ts is_bad of_ts = no (same.rest) same.one.1 same.other
  where
    same : SameTokens (λ offset rest. (offset ≡ bad) × BeginsNothing rest) (λ offset rest. IsEnd rest) is_bad.0 ts
    same = TokensTo_unique (λ offset rest. (offset ≡ bad) × BeginsNothing rest) (λ offset rest. IsEnd rest) (λ offset rest is. nothing_is_last rest is.1) (λ offset rest. end_is_last rest) 0 text is_bad.0 ts is_bad.1 of_ts

    no : (rest : List ℕ) → BeginsNothing rest → IsEnd rest → ⊥
    no rest none (inl empty) = none.some empty
    no rest none (inr line) = none.no_comment line.0 line.2

-- one byte is the first bad one
pub bad_unique : (text : List ℕ) (a b : ℕ) → IsBadByte text a → IsBadByte text b → a ≡ b
bad_unique text a b is_a is_b =
    let E : ℕ → ℕ → List ℕ → Type 0 = λ bad offset rest. (offset ≡ bad) × BeginsNothing rest in
    let same = TokensTo_unique (E a) (E b) (λ offset rest is. nothing_is_last rest is.1) (λ offset rest is. nothing_is_last rest is.1) 0 text is_a.0 is_b.0 is_a.1 is_b.1 in
    sym same.one.0 ∙ same.other.0
