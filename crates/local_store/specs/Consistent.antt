-- What is true of every store.
use Rattle.std.specs.Prelude.{◌≡◌, ◌≢◌, ℕ, ◌+◌, ◌<◌, ◌≤◌, List, length}
use Rattle.std.specs.List.{All, AllPairs, Contains}
use Rattle.bspl_types.specs.declared.value.Value.{Value}
use Rattle.bspl_types.specs.Admission.{IsAdmitted}
use Rattle.bspl_types.specs.History.{instance_of}
use Rattle.stamped_history.specs.Local.{IsLocal}
use Rattle.local_store.specs.State.{StoreState}

-- no key is held twice, and each has as many values as there are key parameters
pub record AreKeys (count : ℕ) (keys : List (List Value)) : Type 0 where
  pub distinct : AllPairs ◌≢◌ keys
  pub whole : All (λ key. length key ≡ count) keys

-- the protocol is admitted and has the role; the entries are a local history of the role, under
-- keys that are held; entries and spare ones have numbers of 32 bits
pub record IsConsistent (s : StoreState) : Type 0 where
  pub admitted : IsAdmitted s.protocol
  pub known_role : s.role < length s.protocol.roles
  pub keys : AreKeys (length s.protocol.keys) s.keys
  pub held : All (λ e. Contains s.keys (instance_of e.event).key) s.entries
  pub local : IsLocal s.protocol s.role s.entries
  pub few : length s.entries + s.spare ≤ 4294967295
