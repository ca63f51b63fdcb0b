-- Tokens that begin with what some signs say.
use Rattle.std.proofs.Common.{◌≡◌, ◌<◌, List, [], ◌∷◌, ◌++◌, length, Result, Ok, Err, refl, subst, arith}
use Rattle.std.specs.List.{AllZip}
use Rattle.bspl_parser.specs.declared.parse_error.ErrorPosition.{ErrorPosition}
use Rattle.bspl_parser.specs.declared.token.Token.{Token}
use Rattle.bspl_parser.specs.Sign.{Sign, Matches}
use Rattle.bspl_parser.specs.inner.ParseResult.{◌>>=◌, ParseResult}

-- the tokens begin with what the signs say, and the rest comes then
abbrev pub Spelled : List Sign → List Token → List Token → Type 0
Spelled [] ts rest = ts ≡ rest
Spelled (s ∷ signs) ts rest = (t : Token) × (more : List Token) × (ts ≡ t ∷ more) × Matches s t × Spelled signs more rest

-- some signs, and then others
pub Spelled-then : (signs others : List Sign) (ts mid rest : List Token) → Spelled signs ts mid → Spelled others mid rest → Spelled (signs ++ others) ts rest
Spelled-then [] others ts mid rest first second = rw first second
Spelled-then (s ∷ signs) others ts mid rest first second = (first.0, first.1, first.2, first.3, Spelled-then signs others first.1 mid rest first.4 second)

-- and back
pub Spelled-split : (signs others : List Sign) (ts rest : List Token) → Spelled (signs ++ others) ts rest → (mid : List Token) × Spelled signs ts mid × Spelled others mid rest
Spelled-split [] others ts rest both = (ts, refl, both)
Spelled-split (s ∷ signs) others ts rest both =
    let split = Spelled-split signs others both.1 rest both.4 in
    (split.0, (both.0, both.1, both.2, both.3, split.1), split.2)

-- all tokens, one by one
pub Spelled-whole : (signs : List Sign) (ts : List Token) → AllZip Matches signs ts → Spelled signs ts []
Spelled-whole [] [] signed = refl
Spelled-whole [] (t ∷ ts) signed = absurd signed
Spelled-whole (s ∷ signs) [] signed = absurd signed
Spelled-whole (s ∷ signs) (t ∷ ts) signed = (t, ts, refl, signed.0, Spelled-whole signs ts signed.1)

-- and back, where nothing comes then
pub whole_from_Spelled : (signs : List Sign) (ts : List Token) → Spelled signs ts [] → AllZip Matches signs ts
whole_from_Spelled [] ts spelled = rw spelled tt
whole_from_Spelled (s ∷ signs) ts spelled = rw spelled.2 (spelled.3, whole_from_Spelled signs spelled.1 spelled.4)

-- the reading gives what the signs spell, and nothing else; what comes after may have to be of a kind
pub record Reads {X : Type 0} (one : List Token → ParseResult X) (signs : X → List Sign) (Good : X → Type 0) (May : List Token → Type 0) : Type 0 where
  pub sound : (ts rest : List Token) (x : X) → one ts ≡ Ok (x, rest) → Spelled (signs x) ts rest × Good x
  pub complete : (ts rest : List Token) (x : X) → Spelled (signs x) ts rest → Good x → May rest → one ts ≡ Ok (x, rest)

-- a step that did not fail, and what follows from its value
pub bind_then : {A B C : Type 0} (r : Result A ErrorPosition) (f : A → Result B ErrorPosition) (y : B) → (r >>= f) ≡ Ok y → ((x : A) → r ≡ Ok x → f x ≡ Ok y → C) → C
bind_then (Ok x) f y e goes_on = goes_on x refl e
bind_then (Err position) f y e goes_on = absurd cc

-- tokens of some signs and of others, and what follows from their seam
pub split_then : {C : Type 0} (signs others : List Sign) (ts rest : List Token) → Spelled (signs ++ others) ts rest → ((mid : List Token) → Spelled signs ts mid → Spelled others mid rest → C) → C
split_then signs others ts rest both goes_on = let split = Spelled-split signs others ts rest both in goes_on split.0 split.1 split.2

-- one value of `Ok`
pub ok_is : {A : Type 0} (x y : A) → ◌≡◌ {A = Result A ErrorPosition} (Ok x) (Ok y) → x ≡ y
ok_is x y e = cc

-- what was taken from the start spells a good value
pub took : {X : Type 0} (signs : X → List Sign) (Good : X → Type 0) (ts : List Token) (made p : X × List Token) → ◌≡◌ {A = ParseResult X} (Ok made) (Ok p) → Spelled (signs made.0) ts made.1 → Good made.0 → Spelled (signs p.0) ts p.1 × Good p.0
took {X} signs Good ts made p e spelled good = subst (λ (q : X × List Token). Spelled (signs q.0) ts q.1 × Good q.0) (ok_is made p e) (spelled, good)

-- signs are not for nothing
pub Spelled-shorter : (s : Sign) (signs : List Sign) (ts rest : List Token) → Spelled (s ∷ signs) ts rest → length rest < length ts
Spelled-shorter s [] ts rest spelled = rw (spelled.2, spelled.4) (omega arith)
Spelled-shorter s (s' ∷ signs) ts rest spelled = let shorter = Spelled-shorter s' signs spelled.1 rest spelled.4 in rw spelled.2 (omega arith)
