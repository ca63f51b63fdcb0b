-- How the literals of all clauses lie in one list.
use Rattle.std.specs.Prelude.{◌≡◌, ℕ, ◌-◌, ◌^◌, ◌<◌, ◌≤◌, Option, Some, None, List, map, All, IfSome}
use Rattle.std.specs.Prelude.{take, drop, nat_le, if◌then◌else◌}
use Rattle.clause_core.specs.declared.literal.Lit.{Lit}
use Rattle.sat_trail.specs.declared.span.Span.{Span}

-- the literals of the span, unless it ends before it starts, as that of a removed clause
abbrev pub clause_at : List Lit → Span → Option (List Lit)
clause_at lits span =
    if nat_le span.start span.end then Some (take (span.end - span.start) (drop span.start lits))
    else None

-- the clause of each span
abbrev pub clauses_at : List Lit → List Span → List (Option (List Lit))
clauses_at lits spans = map (clause_at lits) spans

-- the span ends within a list of this length
abbrev pub IsInside : ℕ → Span → Type 0
IsInside count span = span.end ≤ count

-- each literal is of a variable from 1 on that is below 2 ^ 31
abbrev pub IsPackable : List Lit → Type 0
IsPackable clause = All (λ l. (0 < l.var) × (l.var < 2 ^ 31)) clause

-- the literals are those of the clause, unless it was removed
abbrev pub IsCopy : Option (List Lit) → List Lit → Type 0
IsCopy copy clause = IfSome copy (λ lits. lits ≡ clause)
