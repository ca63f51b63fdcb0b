-- There is one first value and one first block in an admitted protocol.
use Rattle.std.specs.Prelude.{◌≡◌, ℕ, List}
use Rattle.bspl_types.specs.declared.event.Event.{Event}
use Rattle.bspl_types.specs.declared.expanded.Expanded.{Expanded}
use Rattle.bspl_types.specs.declared.value.Value.{Value}
use Rattle.bspl_types.specs.Admission.{IsAdmitted}
use Rattle.bspl_types.specs.Expansion.{message_of}
use Rattle.role_knowledge.specs.declared.block.Block.{Block}
use Rattle.role_knowledge.specs.Blocked.{IsFirstBlock}
use Rattle.role_knowledge.specs.FirstKnown.{IsFirstKnown}

-- two values that are known first are one
abbrev pub FirstKnownIsOne : Type 0
FirstKnownIsOne =
    (x : Expanded) (history : List Event) (key : List Value) (p : ℕ) (v w : Value) →
    IsAdmitted x → IsFirstKnown x history key p v → IsFirstKnown x history key p w → v ≡ w

-- two blocks of a message that come first are one
abbrev pub BlocksAreOne : Type 0
BlocksAreOne =
    (x : Expanded) (history : List Event) (key : List Value) (m : ℕ) (b c : Block) → IsAdmitted x →
    IsFirstBlock x history key (message_of x m).carried b →
    IsFirstBlock x history key (message_of x m).carried c → b ≡ c
