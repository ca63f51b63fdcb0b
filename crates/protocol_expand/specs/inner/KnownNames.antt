-- Messages whose names are declared.
use Rattle.std.specs.Prelude.{ℕ, List, map}
use Rattle.std.specs.List.{All, Contains}
use Rattle.bspl_types.specs.declared.protocol.ParamInfo.{ParamInfo}
use Rattle.bspl_parser.specs.declared.document.Formal.{Formal}
use Rattle.bspl_parser.specs.declared.document.Schema.{Schema}
use Rattle.protocol_expand.specs.WellScoped.{HasFixedAdornment}

-- the parameter is declared, and its adornment supported
pub record IsKnownFormal (params : List ParamInfo) (f : Formal) : Type 0 where
  pub declared : Contains (map (λ p. p.name) params) f.name.text
  pub adorned : HasFixedAdornment f

-- the roles and the parameters of the message are declared
pub record IsKnownMessage (roles : List (List ℕ)) (params : List ParamInfo) (s : Schema)
    : Type 0 where
  pub known_sender : Contains roles s.sender.text
  pub known_receiver : Contains roles s.receiver.text
  pub known_params : All (IsKnownFormal params) s.params
