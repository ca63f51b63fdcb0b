-- The tokens before an error in a list begin a valid list.
use Rattle.std.proofs.Common.{◌≡◌, ℕ, zero, suc, pred, ◌<◌, ◌≤◌, true, inl, inr, List, [], ◌∷◌, ◌++◌, length, Ok, Err, refl, sym, ap, subst, ◌∙◌, append_assoc, arith}
use Rattle.std.specs.List.{All}
use Rattle.std.proofs.lemmas.Bool.{cases_Bool}
use Rattle.std.proofs.lemmas.List.{append-nil, length-append}
use Rattle.std.proofs.lemmas.List.Elements.{All-nil, All-cons}
use Rattle.bspl_parser.specs.declared.parse_error.ErrorPosition.{ErrorPosition}
use Rattle.bspl_parser.specs.declared.list_kind.ListKind.{ListKind}
use Rattle.bspl_parser.specs.declared.token.Token.{Token}
use Rattle.bspl_parser.specs.inner.ParseResult.{ParseResult, ◌>>=◌}
use Rattle.bspl_parser.specs.Sign.{Sign}
use Rattle.bspl_parser.specs.inner.GrammarParsers.{has_more, with_prefix, parse_many_within, parse_many}
use Rattle.bspl_parser.proofs.Spelled.{Spelled, Spelled-then}
use Rattle.bspl_parser.proofs.Lists.{separator, repeated}
use Rattle.bspl_parser.proofs.PrefixStable.{PrefixStable, StableSuccess, Alike, alike_first, alike_after, position_of}
use Rattle.bspl_parser.proofs.PrefixStableLists.{step, step_stable, keeps_one, keeps_failure, turned}
use Rattle.bspl_parser.proofs.LoopReading.{no_turn}
use Rattle.bspl_parser.proofs.ErrorPosition.{FailsViably, Spelled-prefix}

module _ {X : Type 0} (kind : ListKind) (one : List Token → ParseResult X) (signs : X → List Sign) (Good : X → Type 0) (stable : PrefixStable one)
    (shortens : (ts rest : List Token) (x : X) → step kind one ts ≡ Ok (x, rest) → length rest < length ts)
    (notes : (a b : List Token) → Alike a b → has_more kind a ≡ has_more kind b)
    (sound : (ts rest : List Token) (x : X) → step kind one ts ≡ Ok (x, rest) → Spelled (separator kind ++ signs x) ts rest × Good x)
    (viable : FailsViably (step kind one) (λ x. separator kind ++ signs x) Good) where
  -- an error in a list, with any room that is enough, and what completes the list
  record ManyViableFailure (ts : List Token) (f : ErrorPosition) : Type 0 where
    prefix : List Token
    left : List Token
    parts : ts ≡ prefix ++ left
    position : f ≡ position_of left
    again : (t : Token) (after : List Token) → left ≡ t ∷ after → (more : List Token) (m : ℕ) → length (prefix ++ t ∷ more) ≤ m → parse_many_within kind one m (prefix ++ t ∷ more) ≡ Err f
    value : List X
    more : List Token
    good : All Good value
    spelled : Spelled (repeated kind signs value) (prefix ++ more) []

  first_failure : (n : ℕ) (ts : List Token) (f : ErrorPosition) → has_more kind ts ≡ true → (first : ParseResult X) → step kind one ts ≡ first
      → ((mid : List Token) → length mid < length ts → parse_many_within kind one n mid ≡ Err f → ManyViableFailure mid f)
      → (first >>= λ x. with_prefix (x.0 ∷ []) (parse_many_within kind one n x.1)) ≡ Err f → ManyViableFailure ts f
  first_failure n ts f goes (Err g) read others e =
      let same : g ≡ f = cc in
      let failed : step kind one ts ≡ Err f = read ∙ ap (λ (h : ErrorPosition). Err h) same in
      let b = viable ts f failed in
      let a = b.failure in
      record {
        prefix = a.prefix;
        left = a.left;
        parts = a.parts;
        position = a.position;
        again = λ t after is more m enough.
            let long = length-append a.prefix (t ∷ more) in
            let room : m ≡ suc (pred m) = omega arith in
            let goes' = keeps_failure kind one stable shortens notes ts f a.prefix a.left failed a.parts goes t after is more in
            ap (λ k. parse_many_within kind one k (a.prefix ++ t ∷ more)) room ∙ turned kind one (pred m) (a.prefix ++ t ∷ more) goes' ∙ rw (a.again t after is more) refl;
        value = b.value ∷ [];
        more = b.more;
        good = All-cons Good b.value [] b.good (All-nil Good);
        spelled = subst (λ s. Spelled s (a.prefix ++ b.more) []) (sym (append-nil (separator kind ++ signs b.value))) b.spelled;
      }
  first_failure n ts f goes (Ok x) read others e = following (parse_many_within kind one n x.1) refl e
    where
      a : StableSuccess (step kind one) ts x.1 x.0
      a = (step_stable kind one stable).success ts x.1 x.0 read

      known : Spelled (separator kind ++ signs x.0) ts x.1 × Good x.0
      known = sound ts x.1 x.0 read

      following : (others_read : ParseResult (List X)) → parse_many_within kind one n x.1 ≡ others_read → with_prefix (x.0 ∷ []) others_read ≡ Err f → ManyViableFailure ts f
      following (Ok ys) is made = absurd cc
      following (Err g) is made =
          let same : g ≡ f = cc in
          let b = others x.1 (shortens ts x.1 x.0 read) (is ∙ ap (λ (h : ErrorPosition). Err h) same) in
          record {
            prefix = a.used ++ b.prefix;
            left = b.left;
            parts = a.parts ∙ ap (λ m. a.used ++ m) b.parts ∙ sym (append_assoc a.used b.prefix b.left);
            position = b.position;
            again = λ t after first more m enough.
                let list : (a.used ++ b.prefix) ++ t ∷ more ≡ a.used ++ (b.prefix ++ t ∷ more) = append_assoc a.used b.prefix (t ∷ more) in
                let mid : Alike x.1 (b.prefix ++ t ∷ more) = subst (λ m. Alike m (b.prefix ++ t ∷ more)) (sym (b.parts ∙ ap (λ l. b.prefix ++ l) first)) (alike_after b.prefix (t ∷ after) (t ∷ more) (alike_first t after more)) in
                let again : step kind one (a.used ++ (b.prefix ++ t ∷ more)) ≡ Ok (x.0, b.prefix ++ t ∷ more) = a.again (b.prefix ++ t ∷ more) mid in
                let short = shortens (a.used ++ (b.prefix ++ t ∷ more)) (b.prefix ++ t ∷ more) x.0 again in
                let len = ap length list in
                let room : m ≡ suc (pred m) = omega arith in
                let goes' = keeps_one kind one stable shortens notes ts x.1 x.0 a.used read a.parts goes (b.prefix ++ t ∷ more) in
                let rest_again = b.again t after first more (pred m) (omega arith) in
                ap (λ k. parse_many_within kind one k ((a.used ++ b.prefix) ++ t ∷ more)) room ∙ ap (parse_many_within kind one (suc (pred m))) list ∙ turned kind one (pred m) (a.used ++ (b.prefix ++ t ∷ more)) goes' ∙ rw (again, rest_again) refl;
            value = x.0 ∷ b.value;
            more = b.more;
            good = All-cons Good x.0 b.value known.1 b.good;
            spelled = subst (λ y. Spelled ((separator kind ++ signs x.0) ++ repeated kind signs b.value) y []) (sym (append_assoc a.used b.prefix b.more))
                (Spelled-then (separator kind ++ signs x.0) (repeated kind signs b.value) (a.used ++ (b.prefix ++ b.more)) (b.prefix ++ b.more) [] (Spelled-prefix (separator kind ++ signs x.0) ts x.1 a.used known.0 a.parts (b.prefix ++ b.more)) b.spelled);
          }

  many_failure : (n : ℕ) (ts : List Token) (f : ErrorPosition) → length ts ≤ n → parse_many_within kind one n ts ≡ Err f → ManyViableFailure ts f
  unfolding parse_many_within
  many_failure zero ts f enough e = absurd cc
  many_failure (suc n) ts f enough e =
      elim (cases_Bool (has_more kind ts)) [
        | inl goes ↦ first_failure n ts f goes (step kind one ts) refl (λ mid shorter read. many_failure n mid f (omega arith) read) (sym (turned kind one n ts goes) ∙ e)
        | inr ends ↦ absurd (let none = no_turn kind one (suc n) ts ends in cc)
      ]

  -- items one after another
  pub many_viable : FailsViably (parse_many kind one) (repeated kind signs) (All Good)
  many_viable ts f e =
      let b = many_failure (length ts) ts f (omega arith) e in
      record {
        failure = record { prefix = b.prefix; left = b.left; parts = b.parts; position = b.position; again = λ t after is more. b.again t after is more (length (b.prefix ++ t ∷ more)) (omega arith) };
        value = b.value;
        more = b.more;
        good = b.good;
        spelled = b.spelled;
      }
