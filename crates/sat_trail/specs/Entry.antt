-- The set literals of a trail, in the order of setting, and the values that they give.
use Rattle.std.specs.Prelude.{ℕ, ◌==◌, Bool, Option, None, List, [], ◌∷◌, filter, find, nat_le}
use Rattle.std.specs.Prelude.{option_and_then}
use Rattle.std.specs.Option.{option_map}
use Rattle.clause_core.specs.declared.literal.Lit.{Lit}
use Rattle.sat_trail.specs.declared.entry.Entry.{Entry}

-- the entry that sets the variable
abbrev pub entry_of : List Entry → ℕ → Option Entry
entry_of entries v = find (λ e. e.lit.var == v) entries

-- the values that the entries give the variables
abbrev pub values_of : List Entry → ℕ → Option Bool
values_of entries v = option_map (λ e. e.lit.positive) (entry_of entries v)

-- the number of the clause that forced the variable's literal
abbrev pub reason_of : List Entry → ℕ → Option ℕ
reason_of entries v = option_and_then (λ e. e.reason) (entry_of entries v)

-- the level at which the variable was set
abbrev pub level_of : List Entry → ℕ → Option ℕ
level_of entries v = option_map (λ e. e.level) (entry_of entries v)

-- the level of the last entry, or 0 if there is none
abbrev pub last_level : List Entry → ℕ
last_level [] = 0
last_level (e ∷ []) = e.level
last_level (e ∷ (f ∷ rest)) = last_level (f ∷ rest)

-- the entries of the levels up to this one
abbrev pub up_to : ℕ → List Entry → List Entry
up_to level entries = filter (λ e. nat_le e.level level) entries

-- the entry of a decision at the level
abbrev pub decided : Lit → ℕ → Entry
decided l level = record { lit = l; level = level; reason = None }
