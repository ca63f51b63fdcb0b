-- The occurrence clauses, kind by kind.
use Rattle.std.proofs.Common.{◌≡◌, ap, sym}
use Rattle.std.specs.Prelude.{not, ◌==◌}
use Rattle.std.specs.List.{flat_map}
use Rattle.clause_encoding.specs.declared.variables.Variables.{Variables}
use Rattle.clause_encoding.specs.Families.{occurrence_clauses}
use Rattle.clause_encoding.specs.Variables.{kinds_following}
use Rattle.clause_encoding.specs.inner.Occurrence.{occurrence_clause, occurrence_of_one}
use Rattle.clause_encoding.proofs.FilterLemmas.{map_filtered}

-- the clauses of each kind with each other one are all
pub occurrence_parts : (vars : Variables) → flat_map (occurrence_of_one vars) (kinds_following vars 0) ≡ occurrence_clauses vars
occurrence_parts vars =
    ap (λ f. flat_map f (kinds_following vars 0)) (λ n i. sym (map_filtered (λ j. not (j == i)) (occurrence_clause vars i) (kinds_following vars 0)) n)
