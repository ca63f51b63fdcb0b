-- Lists that grow by an item for each item of another.
use Rattle.std.specs.Prelude.{◌≡◌, List, ◌++◌}
use Rattle.std.specs.List.{AllZip}
use Rattle.bspl_parser.specs.declared.document.Item.TheVariants.{Message}
use Rattle.bspl_parser.specs.declared.document.Schema.{Schema}
use Rattle.protocol_paths.specs.Flat.{IsImageItem}
use Rattle.protocol_paths.specs.Path.{Step}
use Rattle.protocol_paths.specs.Scope.{Scope}

-- items were added at the end, one for each `x`
pub record AddsEach {X Y : Type 0} (R : X → Y → Type 0) (xs : List X) (old new : List Y)
    : Type 0 where
  pub more : List Y
  pub parts : new ≡ old ++ more
  pub each : AllZip R xs more

-- the message at the end of a path from the scope, as a message of the flat protocol
abbrev pub IsImageMessage : Scope → List Step × Schema → Schema → Type 0
IsImageMessage scope found m = IsImageItem scope found (Message m)
