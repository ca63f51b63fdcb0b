-- What contracts see of a trail.
use Rattle.std.specs.Prelude.{ℕ, ◌<◌, ◌≤◌, Bool, Option, List, length}
use Rattle.clause_core.specs.declared.literal.Lit.{Lit}
use Rattle.clause_core.specs.Numbering.{Numbering, live}
use Rattle.sat_trail.specs.declared.entry.Entry.{Entry}

-- the clauses in the order of their numbers, with none where one was removed, and the entries in
-- the order of setting
pub record State : Type 0 where
  pub vars : ℕ
  pub clauses : List (Option (List Lit))
  pub entries : List Entry
  pub level : ℕ
  pub ready : Bool

-- the live clause of each number, if there is one
abbrev pub numbering_of : State → Numbering
numbering_of t = live t.clauses

-- the last number that was given to a clause
abbrev pub last_number : State → ℕ
last_number t = length t.clauses

-- variables and clauses are numbered from 1 on
pub record IsNumberUpTo (last n : ℕ) : Type 0 where
  pub from_one : 0 < n
  pub within : n ≤ last
