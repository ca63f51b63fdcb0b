-- What one message adds to a list.
use Rattle.std.specs.Prelude.{ℕ, List, [], map, if◌then◌else◌}
use Rattle.bspl_types.specs.declared.expanded.Expanded.{Expanded}
use Rattle.bspl_types.specs.Expansion.{message_of}
use Rattle.clause_encoding.specs.declared.rivals.Rivals.{Rivals}
use Rattle.clause_encoding.specs.Carriers.{binds, kinds_at}

-- the kinds of one message at a role, if it adorns the parameter `in` or `out`
abbrev pub carriers_of : Expanded → ℕ → ℕ → ℕ → List ℕ
carriers_of x role p m = if binds (message_of x m) p then kinds_at x role m else []

-- the rivals of one message
abbrev pub rivals_with : ℕ → ℕ → List ℕ → List Rivals
rivals_with p m others = map (λ n. record { param = p; first = m; second = n }) others
