-- Which kinds and variables the steps may name.
use Rattle.std.specs.Prelude.{◌≡◌, ◌≢◌, ℕ, ◌<◌, ◌≤◌}
use Rattle.bspl_types.specs.declared.expanded.Expanded.{Expanded}
use Rattle.clause_encoding.specs.declared.rivals.Rivals.{Rivals}
use Rattle.clause_encoding.specs.declared.variables.Variables.{Variables}
use Rattle.clause_encoding.specs.Variables.{IsSmall, kind_count, sent}

-- the variables are over the protocol's kinds
pub record AreOver (x : Expanded) (vars : Variables) : Type 0 where
  pub every_kind : vars.kinds ≡ kind_count x
  pub small : IsSmall vars

-- the kind is one of the protocol's, and not the emission of the message
pub record IsOtherKind (x : Expanded) (m kind : ℕ) : Type 0 where
  pub from_one : 0 < kind
  pub up_to : kind ≤ kind_count x
  pub other : kind ≢ sent m

-- both messages are among so many
pub record AreWithin (messages : ℕ) (rivals : Rivals) : Type 0 where
  pub first : rivals.first < messages
  pub second : rivals.second < messages
