-- Which desks know nothing of a parameter.
use Rattle.std.specs.Prelude.{ℕ, List}
use Rattle.bspl_types.specs.declared.value.Value.{Value}
use Rattle.bspl_types.specs.Knowledge.{IsKnown}
use Rattle.adapter.specs.Desk.{DeskState}
use Rattle.local_store.specs.State.{acts_of}

-- the desk's store knows no value of the parameter under the key
abbrev pub IsUnknownAt : List Value → ℕ → DeskState → Type 0
IsUnknownAt key p d = ¬ IsKnown d.store.protocol (acts_of d.store) key p
