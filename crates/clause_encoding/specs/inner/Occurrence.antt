-- Parts of the occurrence clauses.
use Rattle.std.specs.Prelude.{ℕ, not, ◌==◌, if◌then◌else◌, List, [], ◌∷◌}
use Rattle.std.specs.List.{flat_map}
use Rattle.clause_core.specs.Literal.{negated}
use Rattle.clause_core.specs.Written.{Written}
use Rattle.clause_encoding.specs.declared.variables.Variables.{Variables}
use Rattle.clause_encoding.specs.Variables.{kinds_following, occurs, stands_before}

-- the clause of two kinds
abbrev pub occurrence_clause : Variables → ℕ → ℕ → Written
occurrence_clause vars i j = negated (occurs i) ∷ occurs j ∷ stands_before vars i j ∷ []

-- that clause, if the kinds differ
abbrev pub occurrence_of_two : Variables → ℕ → ℕ → List Written
occurrence_of_two vars i j = if not (j == i) then occurrence_clause vars i j ∷ [] else []

-- the clauses of one kind with each other one
abbrev pub occurrence_of_one : Variables → ℕ → List Written
occurrence_of_one vars i = flat_map (occurrence_of_two vars i) (kinds_following vars 0)
