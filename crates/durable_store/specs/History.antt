-- Which histories a role's store can have, and can be started from.
use Rattle.std.specs.Prelude.{ℕ, List}
use Rattle.std.specs.List.{All, Contains}
use Rattle.bspl_types.specs.declared.expanded.Expanded.{Expanded}
use Rattle.bspl_types.specs.declared.value.Value.{Value}
use Rattle.bspl_types.specs.History.{instance_of}
use Rattle.stamped_history.specs.declared.entry.Entry.{Entry}
use Rattle.stamped_history.specs.Local.{IsLocal}
use Rattle.role_journal.specs.EntryBody.{IsEntry}

-- each entry is under one of the keys
abbrev pub AreUnder : List (List Value) → List Entry → Type 0
AreUnder keys entries = All (λ e. Contains keys (instance_of e.event).key) entries

-- a local history of the role under these keys, each entry of which fits into a place
pub record IsHistory (x : Expanded) (role : ℕ) (keys : List (List Value)) (entries : List Entry)
    : Type 0 where
  pub sized : All (IsEntry x) entries
  pub local : IsLocal x role entries
  pub under : AreUnder keys entries
