-- What was read is read again if what follows begins alike; an error stays, whatever follows its token.
use Rattle.std.proofs.Common.{◌≡◌, Bool, true, false, cond, eqb, List, [], ◌∷◌, ◌++◌, length, Ok, Err, refl, sym, ap, subst, ◌∙◌, append_assoc, arith}
use Rattle.std.proofs.lemmas.Bool.{ne_eqb}
use Rattle.bspl_parser.specs.declared.parse_error.ErrorPosition.{ErrorPosition}
use Rattle.bspl_parser.specs.declared.parse_error.ErrorPosition.TheVariants.{At, End}
use Rattle.bspl_parser.specs.declared.symbol.Symbol.{Symbol}
use Rattle.bspl_parser.specs.declared.token.Token.{Token}
use Rattle.bspl_parser.specs.declared.token.Token.TheVariants.{Name, Fixed}
use Rattle.bspl_parser.specs.inner.ParseResult.{ParseResult, ◌>>=◌}
use Rattle.bspl_parser.specs.Token.{offset_of}
use Rattle.bspl_parser.specs.inner.TokenParsers.{begins_with, begins_with_name}
use Rattle.bspl_parser.proofs.Spelled.{ok_is}

-- the position of an error: the first of the tokens, or the end if there are none
abbrev pub position_of : List Token → ErrorPosition
position_of [] = End
position_of (t ∷ ts) = At (offset_of t)

-- they begin alike
pub record Alike (a b : List Token) : Type 0 where
  pub symbols : (s : Symbol) → begins_with s a ≡ begins_with s b
  pub names : begins_with_name a ≡ begins_with_name b
  pub ends : eqb (length a) 0 ≡ eqb (length b) 0

some_tokens : (t : Token) (ts : List Token) → eqb (length (t ∷ ts)) 0 ≡ false
some_tokens t ts = ne_eqb (length (t ∷ ts)) 0 (λ is. omega arith)

-- where the first token is one they do
pub alike_first : (t : Token) (a b : List Token) → Alike (t ∷ a) (t ∷ b)
alike_first (Name w) a b = record { symbols = λ s. refl; names = refl; ends = some_tokens (Name w) a ∙ sym (some_tokens (Name w) b) }
alike_first (Fixed s o) a b = record { symbols = λ s. refl; names = refl; ends = some_tokens (Fixed s o) a ∙ sym (some_tokens (Fixed s o) b) }

-- after a prefix as well
pub alike_after : (prefix a b : List Token) → Alike a b → Alike (prefix ++ a) (prefix ++ b)
alike_after [] a b alike = alike
alike_after (t ∷ prefix) a b alike = alike_first t (prefix ++ a) (prefix ++ b)

-- what was read is read again if what follows begins alike
pub record StableSuccess {X : Type 0} (one : List Token → ParseResult X) (ts rest : List Token) (x : X) : Type 0 where
  pub used : List Token
  pub parts : ts ≡ used ++ rest
  pub again : (other : List Token) → Alike rest other → one (used ++ other) ≡ Ok (x, other)

-- an error stays, whatever follows its token
pub record StableFailure {X : Type 0} (one : List Token → ParseResult X) (ts : List Token) (f : ErrorPosition) : Type 0 where
  pub prefix : List Token
  pub left : List Token
  pub parts : ts ≡ prefix ++ left
  pub position : f ≡ position_of left
  pub again : (t : Token) (after : List Token) → left ≡ t ∷ after → (more : List Token) → one (prefix ++ t ∷ more) ≡ Err f

pub record PrefixStable {X : Type 0} (one : List Token → ParseResult X) : Type 0 where
  pub success : (ts rest : List Token) (x : X) → one ts ≡ Ok (x, rest) → StableSuccess one ts rest x

-- nothing is read
pub nothing_stable : {X : Type 0} (x : X) → PrefixStable {X = X} (λ ts. Ok (x, ts))
nothing_stable {X} x =
    record {
      success = λ ts rest y e. (let same = ok_is (x, ts) (y, rest) e in
          record { used = []; parts = ap (λ p. p.1) same; again = λ other alike. ap (λ p. Ok (p.0, other)) same });
    }

module _ {X Y : Type 0} (one : List Token → ParseResult X) (next : X → List Token → ParseResult Y) (stable : PrefixStable one) (others : (x : X) → PrefixStable (next x)) where
  then_success : (ts rest : List Token) (y : Y) (first : ParseResult X) → one ts ≡ first → (first >>= λ p. next p.0 p.1) ≡ Ok (y, rest) → StableSuccess (λ ts. one ts >>= λ p. next p.0 p.1) ts rest y
  then_success ts rest y (Err f) read e = absurd cc
  then_success ts rest y (Ok p) read e =
      let a = stable.success ts p.1 p.0 read in
      let b = (others p.0).success p.1 rest y e in
      record {
        used = a.used ++ b.used;
        parts = a.parts ∙ ap (λ m. a.used ++ m) b.parts ∙ sym (append_assoc a.used b.used rest);
        again = λ other alike.
            let mid : Alike p.1 (b.used ++ other) = subst (λ m. Alike m (b.used ++ other)) (sym b.parts) (alike_after b.used rest other alike) in
            let first : one ((a.used ++ b.used) ++ other) ≡ Ok (p.0, b.used ++ other) = ap one (append_assoc a.used b.used other) ∙ a.again (b.used ++ other) mid in
            rw first (b.again other alike);
      }

  -- one reading and then another
  pub then_stable : PrefixStable (λ ts. one ts >>= λ p. next p.0 p.1)
  then_stable =
      record {
        success = λ ts rest y e. then_success ts rest y (one ts) refl e;
      }

module _ {X : Type 0} (test : List Token → Bool) (notes : (a b : List Token) → Alike a b → test a ≡ test b) (one other : List Token → ParseResult X) (stable : PrefixStable one) (stable' : PrefixStable other) where
  -- one reading or another, by a test of the first token
  pub either_stable : PrefixStable (λ ts. cond (test ts) (one ts) (other ts))
  either_stable =
      record {
        success = λ ts rest x e. success_by ts rest x (test ts) refl e;
      }
    where
      at : (used rest left : List Token) → Alike rest left → test (used ++ left) ≡ test (used ++ rest)
      at used rest left alike = sym (notes (used ++ rest) (used ++ left) (alike_after used rest left alike))

      success_by : (ts rest : List Token) (x : X) (goes : Bool) → test ts ≡ goes → cond goes (one ts) (other ts) ≡ Ok (x, rest) → StableSuccess (λ ts. cond (test ts) (one ts) (other ts)) ts rest x
      success_by ts rest x true goes e =
          let a = stable.success ts rest x e in
          record { used = a.used; parts = a.parts; again = λ left alike. rw (at a.used rest left alike ∙ ap test (sym a.parts) ∙ goes) (a.again left alike) }
      success_by ts rest x false goes e =
          let a = stable'.success ts rest x e in
          record { used = a.used; parts = a.parts; again = λ left alike. rw (at a.used rest left alike ∙ ap test (sym a.parts) ∙ goes) (a.again left alike) }
