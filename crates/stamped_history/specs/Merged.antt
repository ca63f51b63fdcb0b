-- The one run that the histories of all roles make.
use Rattle.std.specs.Prelude.{◌≡◌, ℕ, ◌<◌, ◌==◌, ◌⊎◌, List, map, filter, AllPairs}
use Rattle.bspl_types.specs.declared.event.Event.{Event}
use Rattle.stamped_history.specs.declared.entry.Entry.{Entry}
use Rattle.stamped_history.specs.declared.entry.RoleEntry.{RoleEntry}
use Rattle.stamped_history.specs.Explained.{history_at}

-- the first entry's stamp is lower, or the stamps are equal and its role is lower
abbrev pub ComesBefore : RoleEntry → RoleEntry → Type 0
ComesBefore a b = (a.entry.stamp < b.entry.stamp) ⊎
    ((a.entry.stamp ≡ b.entry.stamp) × (a.role < b.role))

-- the entries of the role, in order
abbrev pub entries_of : ℕ → List RoleEntry → List Entry
entries_of role all = map (λ e. e.entry) (filter (λ e. e.role == role) all)

-- the events of all histories, by stamp and then by role
pub record IsMerged (histories : List (List Entry)) (run : List Event) : Type 0 where
  pub all : List RoleEntry
  pub sorted : AllPairs ComesBefore all
  pub each : (role : ℕ) → entries_of role all ≡ history_at histories role
  pub events : run ≡ map (λ e. e.entry.event) all
