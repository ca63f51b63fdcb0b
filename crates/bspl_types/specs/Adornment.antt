-- Which adornments bind a value.
use Rattle.std.specs.Prelude.{◌≡◌, ℕ, Bool, true, false, List, IsTrue}
use Rattle.std.specs.List.{Any, filter}
use Rattle.bspl_types.specs.declared.protocol.Adornment.{Adornment}
use Rattle.bspl_types.specs.declared.protocol.Adornment.TheVariants.{In, Out, Nil}
use Rattle.bspl_types.specs.declared.protocol.Carried.{Carried}

-- an instance has a value for a parameter adorned `in` or `out`
abbrev pub has_value : Adornment → Bool
has_value In = true
has_value Out = true
has_value Nil = false

-- the parameters for which an instance has a value, in the message's order
abbrev pub valued : List Carried → List Carried
valued carried = filter (λ c. has_value c.adornment) carried

-- the parameter is among these, adorned `in` or `out`
pub record Binds (carried : List Carried) (p : ℕ) : Type 0 where
  pub among : Any (λ c. (c.param ≡ p) × IsTrue (has_value c.adornment)) carried
