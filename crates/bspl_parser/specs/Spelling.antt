-- Which documents are well formed, and which tokens spell one.
use Rattle.std.specs.Prelude.{◌≡◌, ◌≢◌, List, [], None}
use Rattle.std.specs.List.{All, AllZip}
use Rattle.bspl_parser.specs.declared.document.Adorn.TheVariants as adorn
use Rattle.bspl_parser.specs.declared.document.Formal.{Formal}
use Rattle.bspl_parser.specs.declared.document.Schema.{Schema}
use Rattle.bspl_parser.specs.declared.document.Reference.{Reference}
use Rattle.bspl_parser.specs.declared.document.Item.{Item}
use Rattle.bspl_parser.specs.declared.document.Item.TheVariants as item
use Rattle.bspl_parser.specs.declared.document.Declaration.{Declaration}
use Rattle.bspl_parser.specs.declared.document.Document.{Document}
use Rattle.bspl_parser.specs.declared.token.Token.{Token}
use Rattle.bspl_parser.specs.Sign.{Matches}
use Rattle.bspl_parser.specs.Grammar.{signs_of_document}

-- `nil` has no `key`
abbrev pub IsFormal : Formal → Type 0
IsFormal f = f.adorn ≡ adorn.Nil → f.key ≡ None

-- a message has a parameter
pub record IsSchema (m : Schema) : Type 0 where
  pub some : m.params ≢ []
  pub each : All IsFormal m.params

-- a reference has a role
pub record IsReference (r : Reference) : Type 0 where
  pub some : r.roles ≢ []
  pub each : All IsFormal r.params

-- a message or a reference that is well formed
abbrev pub IsItem : Item → Type 0
IsItem (item.Message m) = IsSchema m
IsItem (item.Reference r) = IsReference r

-- a protocol has a role and a public parameter
pub record IsDeclaration (d : Declaration) : Type 0 where
  pub some_role : d.roles ≢ []
  pub some_public : d.public ≢ []
  pub each_public : All IsFormal d.public
  pub each_item : All IsItem d.body

-- there is a protocol, and each is well formed
pub record IsDocument (d : Document) : Type 0 where
  pub some : d.protocols ≢ []
  pub each : All IsDeclaration d.protocols

-- the tokens spell the document: it is well formed, and each token is one that its sign allows
pub record Spells (tokens : List Token) (d : Document) : Type 0 where
  pub formed : IsDocument d
  pub signed : AllZip Matches (signs_of_document d) tokens
