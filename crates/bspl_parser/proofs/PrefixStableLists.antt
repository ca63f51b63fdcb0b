-- Items that were read one after another are read again, whatever follows.
use Rattle.std.proofs.Common.{◌≡◌, ℕ, zero, suc, pred, ◌<◌, ◌≤◌, Bool, true, false, not, cond, inl, inr, List, [], ◌∷◌, ◌++◌, length, Result, Ok, Err, refl, sym, ap, subst, ◌∙◌, append_assoc, arith}
use Rattle.std.proofs.lemmas.Bool.{cases_Bool}
use Rattle.bspl_parser.specs.declared.parse_error.ErrorPosition.{ErrorPosition}
use Rattle.bspl_parser.specs.declared.list_kind.ListKind.{ListKind}
use Rattle.bspl_parser.specs.declared.list_kind.ListKind.TheVariants as list_kind
use Rattle.bspl_parser.specs.declared.symbol.Symbol.TheVariants.{Comma}
use Rattle.bspl_parser.specs.declared.token.Token.{Token}
use Rattle.bspl_parser.specs.inner.ParseResult.{ParseResult, ◌>>=◌}
use Rattle.bspl_parser.specs.inner.TokenParsers.{parse_symbol}
use Rattle.bspl_parser.specs.inner.GrammarParsers.{has_more, has_comma, parse_separator, with_prefix, parse_many_within, parse_many}
use Rattle.bspl_parser.proofs.Spelled.{ok_is}
use Rattle.bspl_parser.proofs.PrefixStable.{PrefixStable, StableSuccess, Alike, alike_first, alike_after, then_stable}
use Rattle.bspl_parser.proofs.PrefixStableTokens.{symbol_stable}
use Rattle.bspl_parser.proofs.LoopReading.{no_turn, has_more-nil}

-- of two readings that give the same, each has the property if the other has it
pub stable_same : {X : Type 0} (one other : List Token → ParseResult X) → ((ts : List Token) → one ts ≡ other ts) → PrefixStable one → PrefixStable other
stable_same one other same stable =
    record {
      success = λ ts rest x e. (let a = stable.success ts rest x (same ts ∙ e) in
          record { used = a.used; parts = a.parts; again = λ left alike. sym (same (a.used ++ left)) ∙ a.again left alike });
    }

-- a separator and an item
abbrev pub step : {X : Type 0} → ListKind → (List Token → ParseResult X) → List Token → ParseResult X
step kind one ts = parse_separator kind ts >>= λ after. one after

pub comma_step : {X : Type 0} (one : List Token → ParseResult X) (first : ParseResult ℕ) → (first >>= λ p. one p.1) ≡ ((first >>= λ c. Ok c.1) >>= λ after. one after)
comma_step one (Ok p) = refl
comma_step one (Err f) = refl

step_by : {X : Type 0} (one : List Token → ParseResult X) → PrefixStable one → (comma : Bool) → PrefixStable (λ ts. cond comma (parse_symbol Comma ts >>= λ c. Ok c.1) (Ok ts) >>= λ after. one after)
step_by one stable true = stable_same (λ ts. parse_symbol Comma ts >>= λ p. one p.1) (λ ts. (parse_symbol Comma ts >>= λ c. Ok c.1) >>= λ after. one after) (λ ts. comma_step one (parse_symbol Comma ts)) (then_stable (parse_symbol Comma) (λ o. one) (symbol_stable Comma) (λ o. stable))
step_by one stable false = stable

pub step_stable : {X : Type 0} (kind : ListKind) (one : List Token → ParseResult X) → PrefixStable one → PrefixStable (step kind one)
step_stable kind one stable = step_by one stable (has_comma kind)

-- a further item is read by a step, and then the others
pub turned : {X : Type 0} (kind : ListKind) (one : List Token → ParseResult X) (n : ℕ) (ts : List Token) → has_more kind ts ≡ true → parse_many_within kind one (suc n) ts ≡ (step kind one ts >>= λ x. with_prefix (x.0 ∷ []) (parse_many_within kind one n x.1))
unfolding parse_many_within
turned {X} kind one n ts goes = rw goes (regroup (parse_separator kind ts))
  where
    regroup : (first : Result (List Token) ErrorPosition) → (first >>= λ after. one after >>= λ x. with_prefix (x.0 ∷ []) (parse_many_within kind one n x.1)) ≡ ((first >>= λ after. one after) >>= λ x. with_prefix (x.0 ∷ []) (parse_many_within kind one n x.1))
    regroup (Ok after) = refl
    regroup (Err f) = refl

module _ {X : Type 0} (kind : ListKind) (one : List Token → ParseResult X) (stable : PrefixStable one)
    (shortens : (ts rest : List Token) (x : X) → step kind one ts ≡ Ok (x, rest) → length rest < length ts)
    (keeps : (ts rest : List Token) (x : X) (used : List Token) → step kind one ts ≡ Ok (x, rest) → ts ≡ used ++ rest → has_more kind ts ≡ true → (other : List Token) → has_more kind (used ++ other) ≡ true) where
  -- the items that were read are read again, with any room that is enough
  pub record ManySuccess (ts rest : List Token) (xs : List X) : Type 0 where
    pub used : List Token
    pub parts : ts ≡ used ++ rest
    pub again : (other : List Token) → Alike rest other → has_more kind rest ≡ has_more kind other → (m : ℕ) → length (used ++ other) ≤ m → parse_many_within kind one m (used ++ other) ≡ Ok (xs, other)

  ended : (ts rest : List Token) (xs : List X) → has_more kind ts ≡ false → ◌≡◌ {A = ParseResult (List X)} (Ok ([], ts)) (Ok (xs, rest)) → ManySuccess ts rest xs
  ended ts rest xs ends e =
      let same = ok_is ([], ts) (xs, rest) e in
      let left : ts ≡ rest = ap (λ p. p.1) same in
      record {
        used = [];
        parts = left;
        again = λ other alike goes m enough. no_turn kind one m other (sym goes ∙ ap (has_more kind) (sym left) ∙ ends) ∙ ap (λ p. Ok (p.0, other)) same;
      }

  -- one item and then the others
  more_success : (n : ℕ) (ts rest : List Token) (xs : List X) → has_more kind ts ≡ true → (first : ParseResult X) → step kind one ts ≡ first
      → ((mid : List Token) (ys : List X) → length mid < length ts → parse_many_within kind one n mid ≡ Ok (ys, rest) → ManySuccess mid rest ys)
      → (first >>= λ x. with_prefix (x.0 ∷ []) (parse_many_within kind one n x.1)) ≡ Ok (xs, rest) → ManySuccess ts rest xs
  more_success n ts rest xs goes (Err f) read others e = absurd cc
  more_success n ts rest xs goes (Ok x) read others e = following (parse_many_within kind one n x.1) refl e
    where
      shorter : length x.1 < length ts
      shorter = shortens ts x.1 x.0 read

      a : StableSuccess (step kind one) ts x.1 x.0
      a = (step_stable kind one stable).success ts x.1 x.0 read

      following : (others_read : ParseResult (List X)) → parse_many_within kind one n x.1 ≡ others_read → with_prefix (x.0 ∷ []) others_read ≡ Ok (xs, rest) → ManySuccess ts rest xs
      following (Err f) is made = absurd cc
      following (Ok ys) is made =
          let same = ok_is (x.0 ∷ ys.0, ys.1) (xs, rest) made in
          let left : ys.1 ≡ rest = ap (λ p. p.1) same in
          let b = others x.1 ys.0 shorter (is ∙ ap (λ r. Ok (ys.0, r)) left) in
          record {
            used = a.used ++ b.used;
            parts = a.parts ∙ ap (λ m. a.used ++ m) b.parts ∙ sym (append_assoc a.used b.used rest);
            again = λ other alike still m enough.
                let list : (a.used ++ b.used) ++ other ≡ a.used ++ (b.used ++ other) = append_assoc a.used b.used other in
                let mid : Alike x.1 (b.used ++ other) = subst (λ m. Alike m (b.used ++ other)) (sym b.parts) (alike_after b.used rest other alike) in
                let again : step kind one (a.used ++ (b.used ++ other)) ≡ Ok (x.0, b.used ++ other) = a.again (b.used ++ other) mid in
                let short = shortens (a.used ++ (b.used ++ other)) (b.used ++ other) x.0 again in
                let len = ap length list in
                let room : m ≡ suc (pred m) = omega arith in
                let goes' = keeps ts x.1 x.0 a.used read a.parts goes (b.used ++ other) in
                let rest_again = b.again other alike still (pred m) (omega arith) in
                ap (λ k. parse_many_within kind one k ((a.used ++ b.used) ++ other)) room ∙ ap (parse_many_within kind one (suc (pred m))) list ∙ turned kind one (pred m) (a.used ++ (b.used ++ other)) goes' ∙ rw (again, rest_again) (ap (λ p. Ok (p.0, other)) same);
          }

  pub many_success : (n : ℕ) (ts rest : List Token) (xs : List X) → length ts ≤ n → parse_many_within kind one n ts ≡ Ok (xs, rest) → ManySuccess ts rest xs
  unfolding parse_many_within
  many_success zero [] rest xs enough e = ended [] rest xs (has_more-nil kind) e
  many_success zero (t ∷ ts) rest xs enough e = absurd (omega arith)
  many_success (suc n) ts rest xs enough e =
      elim (cases_Bool (has_more kind ts)) [
        | inl goes ↦ more_success n ts rest xs goes (step kind one ts) refl (λ mid ys shorter read. many_success n mid rest ys (omega arith) read) (sym (turned kind one n ts goes) ∙ e)
        | inr ends ↦ ended ts rest xs ends (sym (no_turn kind one (suc n) ts ends) ∙ e)
      ]

  -- if the first token alone decides whether a list has more, the list is read again
  pub many_stable : ((a b : List Token) → Alike a b → has_more kind a ≡ has_more kind b) → PrefixStable (parse_many kind one)
  many_stable notes =
      record {
        success = λ ts rest xs e. (let a = many_success (length ts) ts rest xs (omega arith) e in
            record { used = a.used; parts = a.parts; again = λ other alike. a.again other alike (notes rest other alike) (length (a.used ++ other)) (omega arith) });
      }

-- what is taken from the start has a token
some_used : (ts used rest : List Token) → ts ≡ used ++ rest → length rest < length ts → (t : Token) × (more : List Token) × (used ≡ t ∷ more)
some_used ts [] rest parts shorter = absurd (let len = ap length parts in omega arith)
some_used ts (t ∷ used) rest parts shorter = (t, used, refl)

module _ {X : Type 0} (kind : ListKind) (one : List Token → ParseResult X) (stable : PrefixStable one)
    (shortens : (ts rest : List Token) (x : X) → step kind one ts ≡ Ok (x, rest) → length rest < length ts)
    (notes : (a b : List Token) → Alike a b → has_more kind a ≡ has_more kind b) where
  pub keeps_one : (ts rest : List Token) (x : X) (used : List Token) → step kind one ts ≡ Ok (x, rest) → ts ≡ used ++ rest → has_more kind ts ≡ true → (other : List Token) → has_more kind (used ++ other) ≡ true
  keeps_one ts rest x used read parts goes other =
      let some = some_used ts used rest parts (shortens ts rest x read) in
      let alike : Alike (used ++ other) (used ++ rest) = subst (λ u. Alike (u ++ other) (u ++ rest)) (sym some.2) (alike_first some.0 (some.1 ++ other) (some.1 ++ rest)) in
      notes (used ++ other) (used ++ rest) alike ∙ ap (has_more kind) (sym parts) ∙ goes

  pub keeps_failure : (ts : List Token) (f : ErrorPosition) (prefix left : List Token) → step kind one ts ≡ Err f → ts ≡ prefix ++ left → has_more kind ts ≡ true → (t : Token) (after : List Token) → left ≡ t ∷ after → (more : List Token) → has_more kind (prefix ++ t ∷ more) ≡ true
  keeps_failure ts f prefix left read parts goes t after is more =
      notes (prefix ++ t ∷ more) (prefix ++ t ∷ after) (alike_after prefix (t ∷ more) (t ∷ after) (alike_first t more after)) ∙ ap (has_more kind) (ap (λ l. prefix ++ l) (sym is) ∙ sym parts) ∙ goes

  -- the items of a list that goes by the first token are read again
  pub phrases_stable : PrefixStable (parse_many kind one)
  phrases_stable = many_stable kind one stable shortens keeps_one notes

-- a comma, a name and the end are known from the first token
pub comma_notes : (a b : List Token) → Alike a b → has_more list_kind.Comma a ≡ has_more list_kind.Comma b
comma_notes a b alike = alike.symbols Comma

pub name_notes : (a b : List Token) → Alike a b → has_more list_kind.Name a ≡ has_more list_kind.Name b
name_notes a b alike = alike.names

pub rest_notes : (a b : List Token) → Alike a b → has_more list_kind.Rest a ≡ has_more list_kind.Rest b
rest_notes a b alike = ap not alike.ends
