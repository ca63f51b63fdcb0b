-- The tokens before an error begin something valid, and the error stays, whatever follows its token.
use Rattle.std.proofs.Common.{◌≡◌, Bool, true, false, cond, List, [], ◌∷◌, ◌++◌, length, Ok, Err, inl, refl, sym, ap, subst, ◌∙◌, append_assoc, arith}
use Rattle.std.proofs.lemmas.List.{append-nil, append_cancel_right}
use Rattle.bspl_parser.specs.declared.parse_error.ErrorPosition.{ErrorPosition}
use Rattle.bspl_parser.specs.declared.token.Token.{Token}
use Rattle.bspl_parser.specs.declared.token.Token.TheVariants.{Name, Fixed}
use Rattle.bspl_parser.specs.inner.ParseResult.{ParseResult, ◌>>=◌}
use Rattle.bspl_parser.specs.Sign.{Sign, Named, Located, Plain, OneOf, Matches}
use Rattle.bspl_parser.proofs.Spelled.{Spelled, Spelled-then, Spelled-shorter}
use Rattle.bspl_parser.proofs.PrefixStable.{PrefixStable, StableFailure, Alike, alike_first, alike_after}

-- tokens that the signs spell
abbrev pub canon : List Sign → List Token
canon [] = []
canon (Named w ∷ signs) = Name w ∷ canon signs
canon (Located s o ∷ signs) = Fixed s o ∷ canon signs
canon (Plain s ∷ signs) = Fixed s 0 ∷ canon signs
canon (OneOf a b ∷ signs) = Fixed a 0 ∷ canon signs

pub canon_spelled : (signs : List Sign) → Spelled signs (canon signs) []
canon_spelled [] = refl
canon_spelled (Named w ∷ signs) = (Name w, canon signs, refl, refl, canon_spelled signs)
canon_spelled (Located s o ∷ signs) = (Fixed s o, canon signs, refl, refl, canon_spelled signs)
canon_spelled (Plain s ∷ signs) = (Fixed s 0, canon signs, refl, (0, refl), canon_spelled signs)
canon_spelled (OneOf a b ∷ signs) = (Fixed a 0, canon signs, refl, (0, inl refl), canon_spelled signs)

-- the tokens that were taken are spelled, whatever follows
pub Spelled-prefix : (signs : List Sign) (ts rest used : List Token) → Spelled signs ts rest → ts ≡ used ++ rest → (other : List Token) → Spelled signs (used ++ other) other
Spelled-prefix [] ts rest used spelled parts other = ap (λ u. u ++ other) (append_cancel_right used [] rest (sym parts ∙ spelled))
Spelled-prefix (s ∷ signs) ts rest [] spelled parts other = absurd (let shorter = Spelled-shorter s signs ts rest spelled in let len = ap length parts in omega arith)
Spelled-prefix (s ∷ signs) ts rest (t ∷ used) spelled parts other =
    let prefix : t ∷ (used ++ rest) ≡ spelled.0 ∷ spelled.1 = sym parts ∙ spelled.2 in
    let first : t ≡ spelled.0 = cc in
    let following : spelled.1 ≡ used ++ rest = cc in
    (t, used ++ other, refl, subst (λ u. Matches s u) (sym first) spelled.3, Spelled-prefix signs spelled.1 rest used spelled.4 following other)

-- reading fails at a token, and the tokens before it begin something good
pub record ViableFailure {X V : Type 0} (one : List Token → ParseResult X) (signs : V → List Sign) (Good : V → Type 0) (ts : List Token) (f : ErrorPosition) : Type 0 where
  pub failure : StableFailure one ts f
  pub value : V
  pub more : List Token
  pub good : Good value
  pub spelled : Spelled (signs value) (failure.prefix ++ more) []

-- each failure is one of those
abbrev pub FailsViably : {X V : Type 0} → (List Token → ParseResult X) → (V → List Sign) → (V → Type 0) → Type 0
FailsViably one signs Good = (ts : List Token) (f : ErrorPosition) → one ts ≡ Err f → ViableFailure one signs Good ts f

-- the completed value may be seen as another
pub viable_as : {X V W : Type 0} (one : List Token → ParseResult X) (signs : V → List Sign) (Good : V → Type 0) (signs' : W → List Sign) (Good' : W → Type 0) (view : V → W) → ((v : V) → signs v ≡ signs' (view v)) → ((v : V) → Good v → Good' (view v)) → FailsViably one signs Good → FailsViably one signs' Good'
viable_as one signs Good signs' Good' view same good viable ts f e =
    let b = viable ts f e in
    record { failure = b.failure; value = view b.value; more = b.more; good = good b.value b.good; spelled = subst (λ s. Spelled s (b.failure.prefix ++ b.more) []) (same b.value) b.spelled }

module _ {X Y V W : Type 0} (one : List Token → ParseResult X) (next : X → List Token → ParseResult Y) (signs : V → List Sign) (Good : V → Type 0) (signs' : W → List Sign) (Good' : W → Type 0)
    (stable : PrefixStable one) (seen : X → V) (sound : (ts rest : List Token) (x : X) → one ts ≡ Ok (x, rest) → Spelled (signs (seen x)) ts rest × Good (seen x))
    (viable : FailsViably one signs Good) (viable' : (x : X) → FailsViably (next x) signs' Good') (some : W) (some_good : Good' some) where
  then_by : (ts : List Token) (f : ErrorPosition) (first : ParseResult X) → one ts ≡ first → (first >>= λ p. next p.0 p.1) ≡ Err f → ViableFailure {X = Y} {V = V × W} (λ ts. one ts >>= λ p. next p.0 p.1) (λ v. signs v.0 ++ signs' v.1) (λ v. Good v.0 × Good' v.1) ts f
  then_by ts f (Err g) read e =
      let same : g ≡ f = cc in
      let b = viable ts f (read ∙ ap (λ (h : ErrorPosition). Err h) same) in
      let a = b.failure in
      let tail = canon (signs' some) in
      record {
        failure = record { prefix = a.prefix; left = a.left; parts = a.parts; position = a.position; again = λ t after is more. rw (a.again t after is more) refl };
        value = (b.value, some);
        more = b.more ++ tail;
        good = (b.good, some_good);
        spelled = subst (λ x. Spelled (signs b.value ++ signs' some) x []) (append_assoc a.prefix b.more tail)
            (Spelled-then (signs b.value) (signs' some) ((a.prefix ++ b.more) ++ tail) tail [] (Spelled-prefix (signs b.value) (a.prefix ++ b.more) [] (a.prefix ++ b.more) b.spelled (sym (append-nil (a.prefix ++ b.more))) tail) (canon_spelled (signs' some)));
      }
  then_by ts f (Ok p) read e =
      let a = stable.success ts p.1 p.0 read in
      let known = sound ts p.1 p.0 read in
      let c = viable' p.0 p.1 f e in
      let b = c.failure in
      record {
        failure = record {
          prefix = a.used ++ b.prefix;
          left = b.left;
          parts = a.parts ∙ ap (λ m. a.used ++ m) b.parts ∙ sym (append_assoc a.used b.prefix b.left);
          position = b.position;
          again = λ t after is more.
              let mid : Alike p.1 (b.prefix ++ t ∷ more) = subst (λ m. Alike m (b.prefix ++ t ∷ more)) (sym (b.parts ∙ ap (λ l. b.prefix ++ l) is)) (alike_after b.prefix (t ∷ after) (t ∷ more) (alike_first t after more)) in
              let first : one ((a.used ++ b.prefix) ++ t ∷ more) ≡ Ok (p.0, b.prefix ++ t ∷ more) = ap one (append_assoc a.used b.prefix (t ∷ more)) ∙ a.again (b.prefix ++ t ∷ more) mid in
              rw first (b.again t after is more);
        };
        value = (seen p.0, c.value);
        more = c.more;
        good = (known.1, c.good);
        spelled = subst (λ x. Spelled (signs (seen p.0) ++ signs' c.value) x []) (sym (append_assoc a.used b.prefix c.more))
            (Spelled-then (signs (seen p.0)) (signs' c.value) (a.used ++ (b.prefix ++ c.more)) (b.prefix ++ c.more) [] (Spelled-prefix (signs (seen p.0)) ts p.1 a.used known.0 a.parts (b.prefix ++ c.more)) c.spelled);
      }

  -- one reading and then another
  pub then_viable : FailsViably {X = Y} {V = V × W} (λ ts. one ts >>= λ p. next p.0 p.1) (λ v. signs v.0 ++ signs' v.1) (λ v. Good v.0 × Good' v.1)
  then_viable ts f e = then_by ts f (one ts) refl e

-- a reading that never stops
pub never_viable : {X V : Type 0} (one : List Token → ParseResult X) (signs : V → List Sign) (Good : V → Type 0) → ((ts : List Token) (f : ErrorPosition) → one ts ≡ Err f → ⊥) → FailsViably one signs Good
never_viable one signs Good never ts f e = absurd (never ts f e)

module _ {X V : Type 0} (test : List Token → Bool) (one other : List Token → ParseResult X) (signs : V → List Sign) (Good : V → Type 0)
    (same : (prefix left : List Token) (t : Token) → test (prefix ++ t ∷ left) ≡ test (prefix ++ t ∷ []))
    (viable : FailsViably one signs Good) (viable' : FailsViably other signs Good) where
  -- one reading or another, by a test of the first token
  pub either_viable : FailsViably (λ ts. cond (test ts) (one ts) (other ts)) signs Good
  either_viable ts f e = by_test (test ts) refl e
    where
      again_at : (goes : Bool) → test ts ≡ goes → (prefix left : List Token) → ts ≡ prefix ++ left → (t : Token) (after : List Token) → left ≡ t ∷ after → (more : List Token) → test (prefix ++ t ∷ more) ≡ goes
      again_at goes is prefix left parts t after first more = same prefix more t ∙ sym (same prefix after t) ∙ ap test (sym (parts ∙ ap (λ l. prefix ++ l) first)) ∙ is

      by_test : (goes : Bool) → test ts ≡ goes → cond goes (one ts) (other ts) ≡ Err f → ViableFailure (λ ts. cond (test ts) (one ts) (other ts)) signs Good ts f
      by_test true is e =
          let b = viable ts f e in
          let a = b.failure in
          record {
            failure = record { prefix = a.prefix; left = a.left; parts = a.parts; position = a.position; again = λ t after first more. rw (again_at true is a.prefix a.left a.parts t after first more) (a.again t after first more) };
            value = b.value;
            more = b.more;
            good = b.good;
            spelled = b.spelled;
          }
      by_test false is e =
          let b = viable' ts f e in
          let a = b.failure in
          record {
            failure = record { prefix = a.prefix; left = a.left; parts = a.parts; position = a.position; again = λ t after first more. rw (again_at false is a.prefix a.left a.parts t after first more) (a.again t after first more) };
            value = b.value;
            more = b.more;
            good = b.good;
            spelled = b.spelled;
          }
