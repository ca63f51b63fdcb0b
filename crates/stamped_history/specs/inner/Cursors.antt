-- The entries that come next in the histories, and the lowest of them.
use Rattle.std.specs.Prelude.{◌≡◌, ◌≢◌, ℕ, List, Option, Some, None, slice_get, slice_index_or}
use Rattle.std.specs.Prelude.{if◌then◌else◌, nat_lt, MatchOption}
use Rattle.stamped_history.specs.declared.entry.Entry.{Entry}
use Rattle.stamped_history.specs.declared.entry.RoleEntry.{RoleEntry}
use Rattle.stamped_history.specs.Merged.{ComesBefore}
use Rattle.stamped_history.specs.declared.cursor.Cursor.{Cursor}

-- the cursor in these entries at the index
abbrev pub cursor_at : List Entry → ℕ → Cursor
cursor_at entries index = record { index = index; next = slice_get entries index }

-- the role's cursor, or one at the end
abbrev pub cursor_of : List Cursor → ℕ → Cursor
cursor_of cursors role = slice_index_or cursors role (record { index = 0; next = None })

-- the entry comes next in its role's history
abbrev pub IsNext : List Cursor → RoleEntry → Type 0
IsNext cursors e = (cursor_of cursors e.role).next ≡ Some e.entry

-- all histories are at their end
abbrev pub HasNoNext : List Cursor → Type 0
HasNoNext cursors = (e : RoleEntry) → ¬ IsNext cursors e

-- the entry comes next, before those that come next in the other histories
pub record IsLowest (cursors : List Cursor) (first : RoleEntry) : Type 0 where
  pub next : IsNext cursors first
  pub lowest : (e : RoleEntry) → e.role ≢ first.role → IsNext cursors e → ComesBefore first e

-- there is no next entry, or this is the lowest
abbrev pub IsLowestOf : List Cursor → Option RoleEntry → Type 0
IsLowestOf cursors found = MatchOption found (HasNoNext cursors) (IsLowest cursors)

-- the first of the two, unless the other has a lower stamp
abbrev pub earlier : RoleEntry → RoleEntry → RoleEntry
earlier first other = if nat_lt other.entry.stamp first.entry.stamp then other else first

-- the entry found so far, unless the role's next one has a lower stamp
abbrev pub lower : Option RoleEntry → ℕ → Option Entry → Option RoleEntry
lower found role None = found
lower None role (Some entry) = Some (record { role = role; entry = entry })
lower (Some first) role (Some entry) = Some (earlier first (record { role = role; entry = entry }))
