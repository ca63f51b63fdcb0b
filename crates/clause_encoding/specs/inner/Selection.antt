-- Parts of the clauses on rivals.
use Rattle.std.specs.Prelude.{ℕ, ◌+◌, List, map}
use Rattle.std.specs.List.{enumerate_from, flat_map}
use Rattle.clause_core.specs.declared.literal.Lit.{Lit}
use Rattle.clause_core.specs.Written.{Written}
use Rattle.clause_core.specs.Literal.{positive}
use Rattle.clause_encoding.specs.declared.rivals.Rivals.{Rivals}
use Rattle.clause_encoding.specs.Rivals.{selected_is_sent}

-- the clauses of the rivals, whose variables come after the kinds
abbrev pub selections : ℕ → List Rivals → List Written
selections kinds rivals = flat_map selected_is_sent (enumerate_from (kinds + 1) rivals)

-- the literals of their variables
abbrev pub selector_lits : ℕ → List Rivals → List Lit
selector_lits kinds rivals = map (λ (v, _). positive v) (enumerate_from (kinds + 1) rivals)
