-- An expansion made of its parts.
use Rattle.std.specs.Prelude.{◌≡◌, ℕ, List}
use Rattle.bspl_types.specs.declared.expanded.Expanded.{Expanded}
use Rattle.bspl_types.specs.declared.protocol.Message.{Message}
use Rattle.bspl_types.specs.declared.protocol.ParamInfo.{ParamInfo}

-- the expansion has these parts
pub record HasParts (x : Expanded) (name : List ℕ) (roles : List (List ℕ)) (params : List ParamInfo)
    (public : ℕ) (messages : List Message) : Type 0 where
  pub same_name : x.name ≡ name
  pub same_roles : x.roles ≡ roles
  pub same_params : x.params ≡ params
  pub same_public : x.public ≡ public
  pub same_messages : x.messages ≡ messages
