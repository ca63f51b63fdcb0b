-- The steps and removals of a log as one list, in the order of its text.
use Rattle.std.specs.Prelude.{◌≢◌, ℕ, ◌-◌, List, [], ◌∷◌, ◌++◌, map, take, drop}
use Rattle.refutation_log.specs.declared.refutation.Chain.{Chain}
use Rattle.refutation_log.specs.declared.refutation.Removal.{Removal}
use Rattle.refutation_log.specs.declared.refutation.Log.{Log}
use Rattle.refutation_log.specs.declared.refutation.Entry.{Entry}
use Rattle.refutation_log.specs.declared.refutation.Entry.TheVariants.{Step, Drop}

-- what comes after `done` steps: up to each removal stand the steps that it counts
abbrev pub entries_after : ℕ → List Chain → List Removal → List Entry
entries_after done steps [] = map Step (drop done steps)
entries_after done steps (removal ∷ removals) =
    map Step (take (removal.after - done) (drop done steps)) ++
    Drop removal.clauses ∷ entries_after removal.after steps removals

-- the steps and the removals of the log
abbrev pub entries : Log → List Entry
entries log = entries_after 0 log.steps log.removals

-- the steps among the entries
abbrev pub steps_of : List Entry → List Chain
steps_of [] = []
steps_of (Step step ∷ entries) = step ∷ steps_of entries
steps_of (Drop numbers ∷ entries) = steps_of entries

-- a removal names a clause
abbrev pub NamesClause : Entry → Type 0
NamesClause (Step step) = Unit {0}
NamesClause (Drop numbers) = numbers ≢ []
