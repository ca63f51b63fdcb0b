-- The first parameter whose cell is not as its adornment demands.
use Rattle.std.specs.Prelude.{ℕ, Option, None, Some, List, [], ◌∷◌}
use Rattle.std.specs.Option.{option_or}
use Rattle.bspl_types.specs.declared.protocol.Adornment.{Adornment}
use Rattle.bspl_types.specs.declared.protocol.Adornment.TheVariants.{In, Out, Nil}
use Rattle.bspl_types.specs.declared.protocol.Carried.{Carried}
use Rattle.bspl_types.specs.declared.value.Value.{Value}
use Rattle.role_knowledge.specs.declared.block.Block.{Block}
use Rattle.role_knowledge.specs.declared.block.Block.TheVariants.{Missing, Bound}

-- an `in` parameter without a value, or another one with a value
abbrev pub block_of : Adornment → ℕ → Option Value → Option Block
block_of In p None = Some (Missing p)
block_of In p (Some v) = None
block_of Out p None = None
block_of Out p (Some v) = Some (Bound p v)
block_of Nil p None = None
block_of Nil p (Some v) = Some (Bound p v)

-- the first of these
abbrev pub first_block : (ℕ → Option Value) → List Carried → Option Block
first_block cell [] = None
first_block cell (c ∷ carried) =
    option_or (block_of c.adornment c.param (cell c.param)) (first_block cell carried)
