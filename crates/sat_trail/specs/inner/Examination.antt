-- What the values of the set literals say of one clause.
use Rattle.std.specs.Prelude.{◌≡◌, ℕ, Bool, Option, Some, List, Contains}
use Rattle.clause_core.specs.declared.literal.Lit.{Lit}
use Rattle.clause_core.specs.Numbering.{HasNumber, live}
use Rattle.clause_core.specs.Propagation.{OthersFalse, Falsifies, LeavesOnly}
use Rattle.sat_trail.specs.declared.examination.Finding.{Finding}
use Rattle.sat_trail.specs.declared.examination.Finding.TheVariants.{Settled, Forces, Falsified}

-- if the known values make all literals but one false, that one is true by now
pub record IsSettled (known now : ℕ → Option Bool) (clause : List Lit) : Type 0 where
  pub member : Lit
  pub among : Contains clause member
  pub last_true : (l : Lit) → Contains clause l → OthersFalse known clause l →
      now l.var ≡ Some l.positive

-- the finding is right about the clause
abbrev pub IsFinding : (ℕ → Option Bool) → List Lit → Finding → Type 0
IsFinding values clause Settled = IsSettled values values clause
IsFinding values clause (Forces l) = LeavesOnly values clause l
IsFinding values clause Falsified = Falsifies values clause

-- the clause of the number, if it is live, is settled
abbrev pub IsSettledAt : List (Option (List Lit)) → ℕ → (ℕ → Option Bool) → Type 0
IsSettledAt clauses number values = (clause : List Lit) →
    HasNumber (live clauses) number clause → IsSettled values values clause
