-- When the receipts of all roles' histories go back to emissions.
use Rattle.std.specs.Prelude.{◌≡◌, ℕ, ◌+◌, ◌<◌, max, List, [], ◌∷◌, ◌++◌, length, Some, slice_get}
use Rattle.std.specs.Prelude.{slice_index_or}
use Rattle.bspl_types.specs.declared.event.Event.TheVariants.{Emit, Receive}
use Rattle.bspl_types.specs.declared.event.Instance.{Instance}
use Rattle.bspl_types.specs.declared.expanded.Expanded.{Expanded}
use Rattle.bspl_types.specs.Expansion.{message_of}
use Rattle.stamped_history.specs.declared.entry.Entry.{Entry}
use Rattle.stamped_history.specs.Entries.{last_stamp}
use Rattle.stamped_history.specs.Local.{IsLocal}

-- the history of the role, in a list that has one for each role
abbrev pub history_at : List (List Entry) → ℕ → List Entry
history_at histories role = slice_index_or histories role []

-- there is one history for each role of the protocol, and it is local to the role
pub record AreLocal (x : Expanded) (histories : List (List Entry)) : Type 0 where
  pub count : length histories ≡ length x.roles
  pub each : (role : ℕ) → role < length histories → IsLocal x role (history_at histories role)

-- the receipt's number is that of an emission of the instance in its sender's history, and its
-- stamp is one more than the greater of that emission's and the one before the receipt
pub record IsExplained (x : Expanded) (histories : List (List Entry)) (before : List Entry)
    (i : Instance) (receipt : Entry) : Type 0 where
  pub emission : Entry
  pub numbered : slice_get (history_at histories (message_of x i.message).sender) receipt.number
      ≡ Some emission
  pub emitted : emission.event ≡ Emit i
  pub stamped : receipt.stamp ≡ max (last_stamp before) emission.stamp + 1

-- each receipt is explained
abbrev pub AreExplained : Expanded → List (List Entry) → Type 0
AreExplained x histories = (role : ℕ) (before after : List Entry) (e : Entry) (i : Instance) →
    history_at histories role ≡ before ++ e ∷ after → e.event ≡ Receive i →
    IsExplained x histories before i e
