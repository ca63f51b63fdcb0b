-- When a protocol whose body has messages alone can be expanded.
use Rattle.std.specs.Prelude.{◌≢◌, ◌≤◌, List, length}
use Rattle.std.specs.List.{All, AllPairs, Contains}
use Rattle.bspl_types.specs.Limits.{carried_limit, key_limit, message_limit, param_limit}
use Rattle.bspl_types.specs.Limits.{role_limit}
use Rattle.bspl_parser.specs.declared.document.Adorn.TheVariants.{Any, Opt}
use Rattle.bspl_parser.specs.declared.document.Declaration.{Declaration}
use Rattle.bspl_parser.specs.declared.document.Formal.{Formal}
use Rattle.bspl_parser.specs.declared.document.Item.{Item}
use Rattle.bspl_parser.specs.declared.document.Item.TheVariants.{Message, Reference}
use Rattle.bspl_parser.specs.declared.document.Schema.{Schema}
use Rattle.bspl_parser.specs.declared.word.Word.{Word}
use Rattle.bspl_parser.specs.Spelling.{IsDeclaration}
use Rattle.protocol_names.specs.Names.{texts, key_words, message_words, param_words}

-- its adornment is `in`, `out` or `nil`
pub record HasFixedAdornment (f : Formal) : Type 0 where
  pub not_any : f.adorn ≢ Any
  pub not_opt : f.adorn ≢ Opt

-- its roles and parameters are declared, no adornment is `any` or `opt`, and the count fits
pub record IsWellScopedMessage (d : Declaration) (s : Schema) : Type 0 where
  pub known_sender : Contains (texts d.roles) s.sender.text
  pub known_receiver : Contains (texts d.roles) s.receiver.text
  pub known_params : All (λ f. Contains (texts (param_words d)) f.name.text) s.params
  pub adorned : All HasFixedAdornment s.params
  pub few : length s.params ≤ carried_limit

-- a message that is well scoped, and no reference
abbrev pub IsWellScopedItem : Declaration → Item → Type 0
IsWellScopedItem d (Message s) = IsWellScopedMessage d s
IsWellScopedItem d (Reference r) = ⊥

-- no two of the words have one name
pub record AreDistinct (words : List Word) : Type 0 where
  pub distinct : AllPairs (λ v w. v.text ≢ w.text) words

-- the names of the roles are distinct, those of the parameters, and those of the messages
pub record HasDistinctNames (d : Declaration) : Type 0 where
  pub roles : AreDistinct d.roles
  pub params : AreDistinct (param_words d)
  pub messages : AreDistinct (message_words d)

-- the counts are within the limits
pub record CountsFit (d : Declaration) : Type 0 where
  pub few_roles : length d.roles ≤ role_limit
  pub few_params : length (param_words d) ≤ param_limit
  pub few_keys : length (key_words d) ≤ key_limit
  pub few_messages : length d.body ≤ message_limit

-- a protocol that can be expanded
pub record IsWellScoped (d : Declaration) : Type 0 where
  pub formed : IsDeclaration d
  pub messages : All (IsWellScopedItem d) d.body
  pub adorned : All HasFixedAdornment d.public
  pub distinct : HasDistinctNames d
  pub within : CountsFit d
