-- What a name of a document is used as, and which names are declared as that.
use Rattle.std.specs.Prelude.{ℕ, cond, ◌==◌, List, [], ◌∷◌, ◌++◌, Option, None, Some}
use Rattle.bspl_parser.specs.declared.document.Declaration.{Declaration}
use Rattle.bspl_parser.specs.declared.document.Document.{Document}
use Rattle.bspl_parser.specs.declared.document.Formal.{Formal}
use Rattle.bspl_parser.specs.declared.document.Item.{Item}
use Rattle.bspl_parser.specs.declared.document.Item.TheVariants.{Message, Reference}
use Rattle.bspl_parser.specs.declared.word.Word.{Word}
use Rattle.protocol_names.specs.Names.{param_words, protocol_words, texts}
use Rattle.answer_words.specs.declared.uses.Kind.{Kind}
use Rattle.answer_words.specs.declared.uses.Kind.TheVariants.{Parameter, Protocol, Role}
use Rattle.answer_words.specs.declared.uses.Use.{Use as CodeUse}
use Rattle.answer_words.specs.Nearest.{nearest}
use Rattle.answer_words.specs.declared.wording.TheConstants as wording
use Rattle.answer_words.specs.declared.wording.details.TheConstants as details

-- what a name is used as, and the name
pub record NameUse : Type 0 where
  pub kind : Kind
  pub name : List ℕ

-- the use that the code gives
abbrev pub use_of : CodeUse → NameUse
use_of u = record { kind = u.kind; name = u.name.now }

-- the first answer if there is one, else the second
abbrev pub first_of : {X : Type 0} → Option X → Option X → Option X
first_of None other = other
first_of (Some x) other = Some x

-- the use of the word as that, if it stands at the offset
abbrev pub word_at : Kind → ℕ → Word → Option NameUse
word_at kind offset w =
    cond (w.offset == offset) (Some (record { kind = kind; name = w.text })) None

-- the first such use among roles
abbrev pub role_use_at : ℕ → List Word → Option NameUse
role_use_at offset [] = None
role_use_at offset (w ∷ more) = first_of (word_at Role offset w) (role_use_at offset more)

-- among adorned parameters
abbrev pub param_use_at : ℕ → List Formal → Option NameUse
param_use_at offset [] = None
param_use_at offset (f ∷ more) =
    first_of (word_at Parameter offset f.name) (param_use_at offset more)

-- in a message, which names two roles and parameters, or in a reference, which names a protocol too
abbrev pub item_use : ℕ → Item → Option NameUse
item_use offset (Message m) =
    first_of (role_use_at offset (m.sender ∷ m.receiver ∷ [])) (param_use_at offset m.params)
item_use offset (Reference r) =
    first_of (word_at Protocol offset r.protocol)
    (first_of (role_use_at offset r.roles) (param_use_at offset r.params))

-- in a body
abbrev pub body_use : ℕ → List Item → Option NameUse
body_use offset [] = None
body_use offset (i ∷ more) = first_of (item_use offset i) (body_use offset more)

-- the names that are declared as that for a protocol
abbrev pub declared_as : List Declaration → Declaration → Kind → List (List ℕ)
declared_as protocols p Role = texts p.roles
declared_as protocols p Parameter = texts (param_words p)
declared_as protocols p Protocol = texts (protocol_words protocols)

-- the word for a use
abbrev pub kind_word : Kind → List ℕ
kind_word Role = details.ROLE.now
kind_word Parameter = details.PARAMETER.now
kind_word Protocol = details.PROTOCOL.now

-- the line on what a name should be, with the nearest declared one
abbrev pub near_text : Kind → Option (List ℕ) → List ℕ
near_text kind None =
    details.NO_NAME.now ++ kind_word kind ++ details.NEARLY_THIS_ONE.now
near_text kind (Some near) =
    details.NEAREST.now ++ kind_word kind ++ details.THAT_IS_DECLARED.now ++ near ++
    wording.FULL_STOP.now

-- the line on a name that is used in a protocol
abbrev pub use_text : List Declaration → Declaration → NameUse → List ℕ
use_text protocols p u = near_text u.kind (nearest u.name (declared_as protocols p u.kind))

-- the line on the name at the offset, which is in one of these protocols
abbrev pub unknown_text : List Declaration → ℕ → List Declaration → List ℕ
unknown_text protocols offset [] = []
unknown_text protocols offset (p ∷ more) =
    elim (body_use offset p.body) as (λ o. List ℕ) [
      | Some u ↦ use_text protocols p u
      | None ↦ unknown_text protocols offset more
    ]

-- the line on a protocol that is asked for
abbrev pub asked_text : List ℕ → Document → List ℕ
asked_text name d = near_text Protocol (nearest name (texts (protocol_words d.protocols)))
