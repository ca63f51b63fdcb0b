-- Which of the clauses so far are live, and which of them may be removed.
use Rattle.std.specs.Prelude.{ℕ, ◌-◌, List, [], ◌∷◌, map, Option, Some, None, Contains, slice_set}
use Rattle.clause_core.specs.declared.literal.Lit.{Lit}
use Rattle.clause_core.specs.Numbering.{HasNumber, live}

-- all clauses so far, in the order of their numbers; one that was removed is none any more
abbrev pub Ledger : Type 0
Ledger = List (Option (List Lit))

-- nothing was removed yet
abbrev pub all_live : List (List Lit) → Ledger
all_live clauses = map Some clauses

-- the clause of the number was removed
abbrev pub without : Ledger → ℕ → Ledger
without ledger number = slice_set ledger (number - 1) None

-- the clauses of the numbers were removed, one after the other
abbrev pub without_all : Ledger → List ℕ → Ledger
without_all ledger [] = ledger
without_all ledger (number ∷ numbers) = without_all (without ledger number) numbers

-- each number may be removed when its turn comes
abbrev pub AllRemoved : (Ledger → ℕ → Type 0) → Ledger → List ℕ → Type 0
AllRemoved MayEnd ledger [] = Unit {0}
AllRemoved MayEnd ledger (number ∷ numbers) =
    MayEnd ledger number × AllRemoved MayEnd (without ledger number) numbers

-- the number is of a live clause
pub record IsLive (ledger : Ledger) (number : ℕ) : Type 0 where
  pub clause : List Lit
  pub named : HasNumber (live ledger) number clause

-- the number's live clause contains another one, which is live right after its removal
pub record IsContaining (ledger : Ledger) (number : ℕ) : Type 0 where
  pub clause : List Lit
  pub named : HasNumber (live ledger) number clause
  pub other_number : ℕ
  pub other : List Lit
  pub kept : HasNumber (live (without ledger number)) other_number other
  pub contained : (l : Lit) → Contains other l → Contains clause l
