-- What arguments are, and whether they give a budget and options.
use Rattle.std.proofs.Common.{◌≡◌, ◌≢◌, ℕ, ◌<◌, ◌≤◌, Bool, true, false, if◌then◌else◌, List, [], ◌∷◌, length, get_or, ap, refl, sym, subst, ◌∙◌, inl, inr, arith, codes, Option, None, Some}
use Rattle.std.specs.Prelude.{MatchOption}
use Rattle.list_base.specs.Numeral.{numeral}
use Rattle.refutation_log.specs.NumberRange.{IsInRange}
use Rattle.dimacs.specs.declared.arguments.Options.{Options}
use Rattle.dimacs.specs.Arguments.{GivesNoBudget, HasBudget, HasOptions, IsUsage}

-- the two words differ
other_words : codes "--budget" ≡ codes "--lrat" → ⊥
other_words same = cc

-- a list of two items
pub two_items : {X : Type 0} (xs : List X) (a b : X) → 2 ≤ length xs → length xs < 3 → a ≡ get_or xs 0 a → b ≡ get_or xs 1 b → xs ≡ a ∷ b ∷ []
two_items [] a b least most first second = absurd (omega arith)
two_items (x ∷ []) a b least most first second = absurd (omega arith)
two_items (x ∷ y ∷ []) a b least most first second = cc
two_items (x ∷ y ∷ z ∷ xs) a b least most first second = absurd (omega arith)

-- a number in range is a budget
pub number_given : (args : List (List ℕ)) (number : List ℕ) (budget : ℕ) → args ≡ codes "--budget" ∷ number ∷ [] → number ≡ numeral budget → IsInRange budget → HasBudget args budget
number_given args number budget are is within = inr (are ∙ ap (λ n. codes "--budget" ∷ n ∷ []) is, within)

-- what comes after `--lrat` gives the budget, and a proof is asked for
pub options_after : (args rest : List (List ℕ)) (options : Options) → args ≡ codes "--lrat" ∷ rest → HasBudget rest options.budget × (options.lrat ≡ true) → HasOptions args options
options_after args rest options are has = record {
  rest = rest;
  arguments = are ∙ sym (ap (λ (lrat : Bool). if lrat then codes "--lrat" ∷ rest else rest) has.1);
  budget = has.0;
}

-- all of them give it, and none is asked for
pub options_given : (args : List (List ℕ)) (options : Options) → HasBudget args options.budget × (options.lrat ≡ false) → HasOptions args options
options_given args options has = record {
  rest = args;
  arguments = sym (ap (λ (lrat : Bool). if lrat then codes "--lrat" ∷ args else args) has.1);
  budget = has.0;
}

-- `--lrat` and more give no budget
not_both : (args rest : List (List ℕ)) (budget : ℕ) → args ≡ codes "--lrat" ∷ rest → HasBudget args budget → ⊥
not_both args rest budget are (inl none) = let both : [] ≡ codes "--lrat" ∷ rest = sym none.0 ∙ are in cc
not_both args rest budget are (inr two) =
    let both : codes "--budget" ∷ numeral budget ∷ [] ≡ codes "--lrat" ∷ rest = sym two.0 ∙ are in
    let words : codes "--budget" ≡ codes "--lrat" = cc in
    other_words words

-- they are no options if what comes after `--lrat` gives no budget
pub no_options_after : (args rest : List (List ℕ)) → args ≡ codes "--lrat" ∷ rest → GivesNoBudget rest → IsUsage args
no_options_after args rest are none options has = split options.lrat refl
  where
    split : (lrat : Bool) → options.lrat ≡ lrat → ⊥
    split true is =
        let both : codes "--lrat" ∷ rest ≡ codes "--lrat" ∷ has.rest = sym are ∙ has.arguments ∙ ap (λ (lrat : Bool). if lrat then codes "--lrat" ∷ has.rest else has.rest) is in
        let same : rest ≡ has.rest = cc in
        none options.budget (subst (λ r. HasBudget r options.budget) (sym same) has.budget)
    split false is =
        let whole : args ≡ has.rest = has.arguments ∙ ap (λ (lrat : Bool). if lrat then codes "--lrat" ∷ has.rest else has.rest) is in
        not_both args rest options.budget are (subst (λ r. HasBudget r options.budget) (sym whole) has.budget)

-- nor are they if `--lrat` is not the first, and all of them give none
pub no_options : (args : List (List ℕ)) → ((rest : List (List ℕ)) → args ≢ codes "--lrat" ∷ rest) → GivesNoBudget args → IsUsage args
no_options args other none options has = split options.lrat refl
  where
    split : (lrat : Bool) → options.lrat ≡ lrat → ⊥
    split true is = other has.rest (has.arguments ∙ ap (λ (lrat : Bool). if lrat then codes "--lrat" ∷ has.rest else has.rest) is)
    split false is =
        let whole : args ≡ has.rest = has.arguments ∙ ap (λ (lrat : Bool). if lrat then codes "--lrat" ∷ has.rest else has.rest) is in
        none options.budget (subst (λ r. HasBudget r options.budget) (sym whole) has.budget)

-- what holds of an option's value, or of none, holds of what follows
pub matched : {A P Q : Type 0} {R S : A → Type 0} (found : Option A) → (P → Q) → ((a : A) → R a → S a) → MatchOption found P R → MatchOption found Q S
matched None none some is = none is
matched (Some a) none some is = some a is
