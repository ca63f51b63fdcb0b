-- An assignment as a valuation of the variables.
use Rattle.std.specs.Prelude.{ℕ, ◌-◌, Bool, false, List, slice_index_or}

-- variable `v` has the value at index `v - 1`; a variable past the end is false. Variables count
-- from 1
abbrev pub valuation : List Bool → ℕ → Bool
valuation values v = slice_index_or values (v - 1) false
