-- What the steps of unit propagation add to the entries, and what a trail keeps of its parts.
use Rattle.std.specs.Prelude.{◌≡◌, ℕ, ◌<◌, ◌≤◌, IsTrue, Option, IsSome, Bool, List, [], ◌++◌}
use Rattle.std.specs.Prelude.{length, All}
use Rattle.clause_core.specs.declared.literal.Lit.{Lit}
use Rattle.clause_core.specs.Clause.{VariablesExist}
use Rattle.clause_core.specs.Numbering.{HasNumber, live}
use Rattle.sat_trail.specs.declared.entry.Entry.{Entry}
use Rattle.sat_trail.specs.declared.watch.Cell.{Cell}
use Rattle.sat_trail.specs.Entry.{last_level}
use Rattle.sat_trail.specs.State.{State}
use Rattle.sat_trail.specs.inner.Excuse.{AreWatched}
use Rattle.sat_trail.specs.inner.Growth.{Grows, IsGrown}
use Rattle.sat_trail.specs.inner.Storage.{Assigned}
use Rattle.sat_trail.specs.inner.Watches.{AreLinked}

-- the live clauses are over the variables of the entries, which grew up to the level
pub record CanPropagate
    (clauses : List (Option (List Lit))) (set : Assigned) (level : ℕ) : Type 0 where
  pub exist : (n : ℕ) (c : List Lit) → HasNumber (live clauses) n c → VariablesExist set.vars c
  pub few : length clauses < 4294967296
  pub reached : last_level set.entries ≡ level
  pub grown : Grows (live clauses) [] set.entries

-- forced entries of the level were added, over variables that exist
pub record Extends
    (clauses : List (Option (List Lit))) (level : ℕ) (old new : Assigned) : Type 0 where
  pub added : List Entry
  pub grows : new ≡ record old { entries = old.entries ++ added }
  pub follow : Grows (live clauses) old.entries added
  pub forced : All (λ e. (e.level ≡ level) × IsSome e.reason) added
  pub exist : All (λ e. (0 < e.lit.var) × (e.lit.var ≤ old.vars)) added
  pub stays : last_level new.entries ≡ level

-- what contracts see of the parts of a trail
abbrev pub state_of : List (Option (List Lit)) → Assigned → ℕ → Bool → State
state_of clauses set level ready = record {
  vars = set.vars;
  clauses = clauses;
  entries = set.entries;
  level = level;
  ready = ready;
}

-- the clauses watch literals, by how far propagation has come
abbrev pub HasWatches : List (Option (List Lit)) → List Cell → Assigned → ℕ → ℕ → ℕ → Type 0
HasWatches clauses cells set level head examined =
    AreWatched (live clauses) (length clauses) cells set.entries
    (record { level = level; head = head; examined = examined })

-- what a trail keeps of its parts: if it is ready, all entries and clauses are passed
pub record IsKept
    (clauses : List (Option (List Lit))) (cells : List Cell) (heads : List ℕ) (set : Assigned)
    (level head examined : ℕ) (ready : Bool) : Type 0 where
  pub few : length clauses < 4294967296
  pub trail : IsGrown (state_of clauses set level ready)
  pub linked : AreLinked set.vars cells heads
  pub watched : HasWatches clauses cells set level head examined
  pub complete : IsTrue ready → (head ≡ length set.entries) × (examined ≡ length clauses)
