-- Texts that are scanned as some signs say, whatever follows.
use Rattle.std.proofs.Common.{◌≡◌, ℕ, ◌+◌, List, [], ◌∷◌, ◌++◌, length, refl, sym, subst, ◌∙◌, append_assoc, arith}
use Rattle.std.proofs.lemmas.List.{length-append}
use Rattle.bspl_parser.specs.declared.token.Token.{Token}
use Rattle.bspl_parser.specs.Sign.{Sign, Matches}
use Rattle.bspl_parser.specs.Token.{offset_of}
use Rattle.bspl_parser.specs.Tokens.{IsGap, nothing, SpellsToken, IsLongestToken, TokensTo}
use Rattle.bspl_parser.proofs.Scanned.{AtEnd, gap_before}
use Rattle.bspl_parser.proofs.Spelled.{Spelled, Spelled-then}

-- tokens of the bytes spell a value, and then come those
pub record IsPrintedBack {X : Type 0} (signs : X → List Sign) (Like : X → Type 0) (offset : ℕ) (bytes : List ℕ) (rest : List Token) : Type 0 where
  pub value : X
  pub like : Like value
  pub tokens : List Token
  pub scanned : TokensTo AtEnd offset bytes tokens
  pub spelled : Spelled (signs value) tokens rest

-- at each offset, before what may follow it, the text is scanned as tokens that spell a value of that kind
pub record PrintsBack {X : Type 0} (May : List ℕ → Type 0) (text : List ℕ) (signs : X → List Sign) (Like : X → Type 0) : Type 0 where
  pub prints_back : (offset : ℕ) (rest : List ℕ) (ts : List Token) → May rest → TokensTo AtEnd (offset + length text) rest ts → IsPrintedBack signs Like offset (text ++ rest) ts

-- anything may follow
abbrev pub Anything : List ℕ → Type 0
Anything rest = Unit {0}

-- no signs
abbrev pub none : Unit {0} → List Sign
none empty = []

-- whatever the value
abbrev pub AnyOf : (X : Type 0) → X → Type 0
AnyOf X x = Unit {0}

module _ {X Y : Type 0} {May : List ℕ → Type 0} {text : List ℕ} {signs : X → List Sign} {Like : X → Type 0} where
  -- the same text, for a value that is made of this one
  pub PrintsBack-as : (signs_of : Y → List Sign) (Alike : Y → Type 0) (make : X → Y) → ((x : X) → signs x ≡ signs_of (make x)) → ((x : X) → Like x → Alike (make x)) → PrintsBack May text signs Like → PrintsBack May text signs_of Alike
  PrintsBack-as signs_of Alike make same alike prints = record { prints_back = made }
    where
      made : (offset : ℕ) (rest : List ℕ) (ts : List Token) → May rest → TokensTo AtEnd (offset + length text) rest ts → IsPrintedBack signs_of Alike offset (text ++ rest) ts
      made offset rest ts may of_ts =
          let one = prints.prints_back offset rest ts may of_ts in
          record {
            value = make one.value;
            like = alike one.value one.like;
            tokens = one.tokens;
            scanned = one.scanned;
            spelled = subst (λ s. Spelled s one.tokens ts) (same one.value) one.spelled;
          }

module _ {X : Type 0} {May : List ℕ → Type 0} {text : List ℕ} {signs : X → List Sign} {Like : X → Type 0} where
  -- where less may follow
  pub PrintsBack-before : (Must : List ℕ → Type 0) → ((rest : List ℕ) → Must rest → May rest) → PrintsBack May text signs Like → PrintsBack Must text signs Like
  PrintsBack-before Must may prints = record { prints_back = λ offset rest ts must of_ts. prints.prints_back offset rest ts (may rest must) of_ts }

module _ {X Y : Type 0} {May Must : List ℕ → Type 0} {a b : List ℕ} {signs_a : X → List Sign} {signs_b : Y → List Sign} {Like_a : X → Type 0} {Like_b : Y → Type 0} where
  -- one text and another
  pub PrintsBack-then : ((rest : List ℕ) → Must rest → May (b ++ rest)) → PrintsBack May a signs_a Like_a → PrintsBack Must b signs_b Like_b → PrintsBack Must (a ++ b) (λ (v : X × Y). signs_a v.0 ++ signs_b v.1) (λ v. Like_a v.0 × Like_b v.1)
  PrintsBack-then seam prints_a prints_b = record { prints_back = both }
    where
      both : (offset : ℕ) (rest : List ℕ) (ts : List Token) → Must rest → TokensTo AtEnd (offset + length (a ++ b)) rest ts → IsPrintedBack (λ (v : X × Y). signs_a v.0 ++ signs_b v.1) (λ v. Like_a v.0 × Like_b v.1) offset ((a ++ b) ++ rest) ts
      both offset rest ts must of_ts =
          let same_offset : offset + length (a ++ b) ≡ offset + length a + length b = omega (arith, length-append a b) in
          let second = prints_b.prints_back (offset + length a) rest ts must (subst (λ o. TokensTo AtEnd o rest ts) same_offset of_ts) in
          let first = prints_a.prints_back offset (b ++ rest) second.tokens (seam rest must) second.scanned in
          record {
            value = (first.value, second.value);
            like = (first.like, second.like);
            tokens = first.tokens;
            scanned = subst (λ bytes. TokensTo AtEnd offset bytes first.tokens) (sym (append_assoc a b rest)) first.scanned;
            spelled = Spelled-then (signs_a first.value) (signs_b second.value) first.tokens second.tokens ts first.spelled second.spelled;
          }

-- a gap prints nothing
pub gap_prints_back : {gap : List ℕ} → IsGap gap → PrintsBack Anything gap none (AnyOf (Unit {0}))
gap_prints_back {gap} is_gap = record { prints_back = λ offset rest ts may of_ts. record { value = tt; like = tt; tokens = ts; scanned = gap_before AtEnd gap is_gap offset rest ts of_ts; spelled = refl } }

-- a token's text, before what makes no longer token of it
pub token_prints_back : (May : List ℕ → Type 0) (text : List ℕ) (token : ℕ → Token) (sign : ℕ → Sign) → ((o : ℕ) → SpellsToken text (token o)) → ((o : ℕ) → offset_of (token o) ≡ o) → ((o : ℕ) → Matches (sign o) (token o)) → ((rest : List ℕ) → May rest → IsLongestToken text rest) → PrintsBack May text (λ (o : ℕ). sign o ∷ []) (AnyOf ℕ)
token_prints_back May text token sign spells at_offset matches longest = record { prints_back = one }
  where
    one : (offset : ℕ) (rest : List ℕ) (ts : List Token) → May rest → TokensTo AtEnd (offset + length text) rest ts → IsPrintedBack (λ (o : ℕ). sign o ∷ []) (AnyOf ℕ) offset (text ++ rest) ts
    one offset rest ts may of_ts =
        let same_offset : offset + length text ≡ offset + 0 + length text = omega arith in
        let start : offset ≡ offset + 0 = omega arith in
        record {
          value = offset;
          like = tt;
          tokens = token offset ∷ ts;
          scanned = (
            [],
            text,
            rest,
            record { parts = refl; skipped = nothing; spelled = spells offset; longest = longest rest may; at_offset = at_offset offset ∙ start },
            subst (λ o. TokensTo AtEnd o rest ts) same_offset of_ts,
          );
          spelled = (token offset, ts, refl, matches offset, refl);
        }
