-- What the arguments of a call ask for.
use Rattle.std.specs.Prelude.{◌≡◌, ℕ, ◌⊎◌, List, [], ◌∷◌, if◌then◌else◌, codes}
use Rattle.list_base.specs.Numeral.{numeral}
use Rattle.refutation_log.specs.NumberRange.{IsInRange}
use Rattle.dimacs.specs.declared.arguments.Options.{Options}

-- the conflicts that are allowed if no number is given
abbrev pub default_budget : ℕ
default_budget = 10000

-- there is no argument; or there are `--budget` and a number from 1 to 2,147,483,647
abbrev pub HasBudget : List (List ℕ) → ℕ → Type 0
HasBudget args budget =
    ((args ≡ []) × (budget ≡ default_budget))
    ⊎ ((args ≡ codes "--budget" ∷ numeral budget ∷ []) × IsInRange budget)

-- the arguments give no budget
abbrev pub GivesNoBudget : List (List ℕ) → Type 0
GivesNoBudget args = (budget : ℕ) → ¬ HasBudget args budget

-- `--lrat` is the first argument if a proof is asked for, and the others give the budget
pub record HasOptions (args : List (List ℕ)) (options : Options) : Type 0 where
  pub rest : List (List ℕ)
  pub arguments : args ≡ (if options.lrat then codes "--lrat" ∷ rest else rest)
  pub budget : HasBudget rest options.budget

-- the arguments are invalid: they give no options
abbrev pub IsUsage : List (List ℕ) → Type 0
IsUsage args = (options : Options) → ¬ HasOptions args options
