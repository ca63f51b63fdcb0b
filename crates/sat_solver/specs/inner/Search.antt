-- What a search up to the next conflict leaves.
use Rattle.std.specs.Prelude.{◌≡◌, ℕ}
use Rattle.clause_core.specs.declared.formula.Formula.{Formula}
use Rattle.clause_core.specs.Propagation.{IsFalsified, IsPropagated}
use Rattle.sat_trail.specs.Entry.{values_of}
use Rattle.sat_trail.specs.State.{State, numbering_of, last_number}
use Rattle.sat_trail.specs.Trail.{IsTrail}
use Rattle.sat_solver.specs.declared.search.SearchResult.{SearchResult}
use Rattle.sat_solver.specs.declared.search.SearchResult.TheVariants.{Completed, Falsified}
use Rattle.sat_solver.specs.declared.search.SearchResult.TheVariants.{Finished}
use Rattle.sat_solver.specs.Outcome.{IsModel}
use Rattle.sat_solver.specs.inner.Choice.{AllSet}

-- the trail went on over the same clauses
pub record KeepsClauses (old new : State) : Type 0 where
  pub sound : IsTrail new
  pub vars : new.vars ≡ old.vars
  pub numbers : (n : ℕ) → numbering_of new n ≡ numbering_of old n
  pub last : last_number new ≡ last_number old

-- all variables are set, and no clause is false
pub record IsFinished (t : State) : Type 0 where
  pub propagated : IsPropagated (values_of t.entries) (numbering_of t)
  pub all_set : AllSet t

-- the clause of the number is false, the assignment is a model, or the search is finished
abbrev pub IsSearchResult : Formula → State → SearchResult → Type 0
IsSearchResult f t (Falsified number) = IsFalsified (numbering_of t) (values_of t.entries) number
IsSearchResult f t (Completed assignment) = IsModel f assignment
IsSearchResult f t Finished = IsFinished t
