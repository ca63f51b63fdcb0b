-- Which expansions are admitted: the key of an enactment is known from each of its messages.
use Rattle.std.specs.Prelude.{◌≢◌, ℕ, ◌<◌, List, length}
use Rattle.std.specs.List.{All, AllPairs}
use Rattle.bspl_types.specs.declared.expanded.Expanded.{Expanded}
use Rattle.bspl_types.specs.declared.protocol.Message.{Message}
use Rattle.bspl_types.specs.Adornment.{Binds}

-- it goes to another role, its parameters are distinct, and it binds each key
pub record IsAdmittedMessage (keys : List ℕ) (m : Message) : Type 0 where
  pub two_roles : m.sender ≢ m.receiver
  pub distinct : AllPairs (λ c d. c.param ≢ d.param) m.carried
  pub whole_key : All (Binds m.carried) keys

-- there is a key, and each message is admitted
pub record IsAdmitted (x : Expanded) : Type 0 where
  pub some_key : 0 < length x.keys
  pub each_message : All (IsAdmittedMessage x.keys) x.messages
