-- What passes through a source and a sink in one call.
use Rattle.std.specs.Prelude.{ℕ, List, Option}

-- the bytes that remain to be read and those that were written, before the call and after it
pub record Traffic : Type 0 where
  pub remaining : Option (List ℕ)
  pub remaining_after : Option (List ℕ)
  pub contents : Option (List ℕ)
  pub contents_after : Option (List ℕ)
