-- The protocol of messages alone that is made of an expansion: its words have no offsets.
use Rattle.std.specs.Prelude.{◌≡◌, ℕ, List, None}
use Rattle.std.specs.List.{All}
use Rattle.bspl_types.specs.declared.protocol.Carried.{Carried}
use Rattle.bspl_types.specs.declared.protocol.Message.{Message}
use Rattle.bspl_types.specs.declared.protocol.ParamInfo.{ParamInfo}
use Rattle.bspl_parser.specs.declared.document.Declaration.{Declaration}
use Rattle.bspl_parser.specs.declared.document.Formal.{Formal}
use Rattle.bspl_parser.specs.declared.document.Item.{Item}
use Rattle.bspl_parser.specs.declared.document.Item.TheVariants as item
use Rattle.bspl_parser.specs.declared.document.Schema.{Schema}
use Rattle.bspl_parser.specs.declared.word.Word.{Word}
use Rattle.bspl_parser.specs.Alike.{word_without_offset, formal_without_offsets}
use Rattle.bspl_parser.specs.Alike.{message_without_offsets, declaration_without_offsets}
use Rattle.protocol_names.specs.Plain.{IsUnkeyed}
use Rattle.protocol_expand.specs.FlatExpansion.{public_param, private_param, IsCarried, IsMessageFor}

-- no word has an offset, and the word `key` is at public parameters alone
pub record IsCanonical (d : Declaration) : Type 0 where
  pub without_offsets : declaration_without_offsets d ≡ d
  pub unkeyed : All IsUnkeyed d.body

-- the word for a name
pub record IsWordOf (name : List ℕ) (w : Word) : Type 0 where
  pub named : w.text ≡ name
  pub without_offsets : word_without_offset w ≡ w

-- a public parameter
pub record IsPublicOf (p : ParamInfo) (f : Formal) : Type 0 where
  pub declares : public_param f ≡ p
  pub without_offsets : formal_without_offsets f ≡ f

-- a private parameter
pub record IsPrivateOf (p : ParamInfo) (w : Word) : Type 0 where
  pub declares : private_param w ≡ p
  pub without_offsets : word_without_offset w ≡ w

-- a parameter of a message
pub record IsFormalOf (params : List ParamInfo) (c : Carried) (f : Formal) : Type 0 where
  pub carries : IsCarried params f c
  pub unkeyed : f.key ≡ None
  pub without_offsets : formal_without_offsets f ≡ f

-- a message
pub record IsSchemaOf (roles : List (List ℕ)) (params : List ParamInfo) (m : Message) (s : Schema)
    : Type 0 where
  pub means : IsMessageFor roles params s m
  pub unkeyed : All (λ f. f.key ≡ None) s.params
  pub without_offsets : message_without_offsets s ≡ s

-- an item of the body, which is a message
abbrev pub IsItemOf : List (List ℕ) → List ParamInfo → Message → Item → Type 0
IsItemOf roles params m (item.Message s) = IsSchemaOf roles params m s
IsItemOf roles params m (item.Reference r) = ⊥
