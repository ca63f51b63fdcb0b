-- The first message of a body that carries too many parameters, by what was found of the protocols
-- that the body refers to.
use Rattle.std.specs.Prelude.{ℕ, List, [], ◌∷◌, cond, length, nat_lt, Option, Some, None}
use Rattle.std.specs.Option.{option_map_or, option_or}
use Rattle.bspl_types.specs.Limits.{carried_limit}
use Rattle.bspl_parser.specs.declared.document.Declaration.{Declaration}
use Rattle.bspl_parser.specs.declared.document.Item.{Item}
use Rattle.bspl_parser.specs.declared.document.Item.TheVariants.{Message, Reference}
use Rattle.protocol_limits.specs.Graph.{protocol_number}

-- the number of a message's parameters if there are too many, or what was found of the protocol of
-- a reference
abbrev pub oversized_item : List Declaration → (ℕ → Option ℕ) → Item → Option ℕ
oversized_item protocols found (Message m) =
    cond (nat_lt carried_limit (length m.params)) (Some (length m.params)) None
oversized_item protocols found (Reference r) =
    option_map_or found (protocol_number protocols r.protocol.text) None

-- the first number that is found of the items
abbrev pub first_oversized_in : List Declaration → (ℕ → Option ℕ) → List Item → Option ℕ
first_oversized_in protocols found [] = None
first_oversized_in protocols found (i ∷ items) =
    option_or (oversized_item protocols found i) (first_oversized_in protocols found items)
