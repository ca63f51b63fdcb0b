-- Bodies of messages alone.
use Rattle.std.specs.Prelude.{◌≡◌, None}
use Rattle.std.specs.List.{All}
use Rattle.bspl_parser.specs.declared.document.Item.{Item}
use Rattle.bspl_parser.specs.declared.document.Item.TheVariants.{Message, Reference}

-- a message, and no reference
abbrev pub IsMessage : Item → Type 0
IsMessage (Message m) = Unit {0}
IsMessage (Reference r) = ⊥

-- a message with the word `key` at none of its parameters
abbrev pub IsUnkeyed : Item → Type 0
IsUnkeyed (Message m) = All (λ f. f.key ≡ None) m.params
IsUnkeyed (Reference r) = ⊥
