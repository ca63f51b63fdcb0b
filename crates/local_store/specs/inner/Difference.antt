-- The first pair whose value is not the one in its cell, and what it says of the history.
use Rattle.std.specs.Prelude.{ℕ, Option, None, Some, if◌then◌else◌, List, [], ◌∷◌}
use Rattle.std.specs.Option.{option_or}
use Rattle.bspl_types.specs.declared.event.Event.{Event}
use Rattle.bspl_types.specs.declared.event.Instance.{Instance}
use Rattle.bspl_types.specs.declared.expanded.Expanded.{Expanded}
use Rattle.bspl_types.specs.declared.protocol.Carried.{Carried}
use Rattle.bspl_types.specs.declared.value.Value.{Value}
use Rattle.bspl_types.specs.Value.{same_value}
use Rattle.local_store.specs.declared.receipt.Receipt.{Receipt}
use Rattle.local_store.specs.declared.receipt.Receipt.TheVariants.{Fresh, Repeat, Differs}
use Rattle.local_store.specs.Reception.{IsFirstDifference}

-- the answer that the pair gives, if its cell has another value
abbrev pub difference : Option Value → Carried × Value → Option Receipt
difference None pair = None
difference (Some kept) pair =
    if same_value kept pair.1 then None else Some (Differs pair.0.param kept pair.1)

-- the first answer that a pair gives
abbrev pub first_difference : (ℕ → Option Value) → List (Carried × Value) → Option Receipt
first_difference cell [] = None
first_difference cell (pair ∷ pairs) =
    option_or (difference (cell pair.0.param) pair) (first_difference cell pairs)

-- the answer names the first difference
abbrev pub NamesDifference : Expanded → List Event → Instance → Receipt → Type 0
NamesDifference x history i Fresh = ⊥
NamesDifference x history i Repeat = ⊥
NamesDifference x history i (Differs p kept arrived) = IsFirstDifference x history i p kept arrived
