-- The expansion of a protocol of messages alone: its names replaced by their indices.
use Rattle.std.specs.Prelude.{◌≡◌, ℕ, false, List, ◌++◌, length, map, Option, Some, None}
use Rattle.std.specs.Prelude.{is_some}
use Rattle.std.specs.List.{AllZip, position}
use Rattle.std.specs.Str.{bytes_eq}
use Rattle.bspl_types.specs.declared.expanded.Expanded.{Expanded}
use Rattle.bspl_types.specs.declared.protocol.Adornment.{Adornment}
use Rattle.bspl_types.specs.declared.protocol.Adornment.TheVariants as bound
use Rattle.bspl_types.specs.declared.protocol.Carried.{Carried}
use Rattle.bspl_types.specs.declared.protocol.Message.{Message}
use Rattle.bspl_types.specs.declared.protocol.ParamInfo.{ParamInfo}
use Rattle.bspl_parser.specs.declared.document.Adorn.{Adorn}
use Rattle.bspl_parser.specs.declared.document.Adorn.TheVariants.{In, Out, Nil, Any, Opt}
use Rattle.bspl_parser.specs.declared.document.Declaration.{Declaration}
use Rattle.bspl_parser.specs.declared.document.Formal.{Formal}
use Rattle.bspl_parser.specs.declared.document.Item.{Item}
use Rattle.bspl_parser.specs.declared.document.Item.TheVariants as item
use Rattle.bspl_parser.specs.declared.document.Schema.{Schema}
use Rattle.bspl_parser.specs.declared.word.Word.{Word}

-- `any` and `opt` adorn no parameter of an expansion
abbrev pub adornment_of : Adorn → Option Adornment
adornment_of In = Some bound.In
adornment_of Out = Some bound.Out
adornment_of Nil = Some bound.Nil
adornment_of Any = None
adornment_of Opt = None

-- a public parameter, with its adornment and whether it is marked as a key
abbrev pub public_param : Formal → ParamInfo
public_param f = record {
  name = f.name.text;
  adornment = adornment_of f.adorn;
  key = is_some f.key;
}

-- a private parameter has neither
abbrev pub private_param : Word → ParamInfo
private_param w = record { name = w.text; adornment = None; key = false }

-- the public parameters, and the private ones after them
abbrev pub params_of : Declaration → List ParamInfo
params_of d = map public_param d.public ++ map private_param d.private

-- the first index of the role's name
abbrev pub role_index : List (List ℕ) → List ℕ → Option ℕ
role_index roles name = position (λ role. bytes_eq role name) roles

-- the first index of the parameter's name
abbrev pub param_index : List ParamInfo → List ℕ → Option ℕ
param_index params name = position (λ p. bytes_eq p.name name) params

-- the parameter's index and its adornment
pub record IsCarried (params : List ParamInfo) (f : Formal) (c : Carried) : Type 0 where
  pub indexed : param_index params f.name.text ≡ Some c.param
  pub adorned : adornment_of f.adorn ≡ Some c.adornment

-- the message of a schema: its roles and parameters by their indices
pub record IsMessageFor (roles : List (List ℕ)) (params : List ParamInfo) (s : Schema) (m : Message)
    : Type 0 where
  pub named : m.name ≡ s.name.text
  pub sent : role_index roles s.sender.text ≡ Some m.sender
  pub received : role_index roles s.receiver.text ≡ Some m.receiver
  pub carries : AllZip (IsCarried params) s.params m.carried

-- a reference is no message
abbrev pub IsMessageOfItem : List (List ℕ) → List ParamInfo → Item → Message → Type 0
IsMessageOfItem roles params (item.Message s) m = IsMessageFor roles params s m
IsMessageOfItem roles params (item.Reference r) m = ⊥

-- the expansion of a protocol whose body has messages alone
pub record IsExpansionOf (d : Declaration) (x : Expanded) : Type 0 where
  pub named : x.name ≡ d.name.text
  pub roles : x.roles ≡ map (λ w. w.text) d.roles
  pub params : x.params ≡ params_of d
  pub public : x.public ≡ length d.public
  pub images : AllZip (IsMessageOfItem x.roles x.params) d.body x.messages
