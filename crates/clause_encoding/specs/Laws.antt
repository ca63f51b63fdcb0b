-- What holds of the clauses and the variables of a formula. Each statement is the contract of a
-- function.
use Rattle.std.specs.Prelude.{◌≡◌, ◌≢◌, ◌↔◌, ◌<◌, ◌≤◌, ℕ, Bool, List, length}
use Rattle.std.specs.List.{All}
use Rattle.bspl_types.specs.declared.expanded.Expanded.{Expanded}
use Rattle.bspl_types.specs.declared.property.Property.{Property}
use Rattle.clause_core.specs.declared.literal.Lit.{Lit}
use Rattle.clause_core.specs.Clause.{SatisfiesAll}
use Rattle.clause_core.specs.Written.{Written, AreClausesOf}
use Rattle.clause_encoding.specs.declared.variables.Variables.{Variables}
use Rattle.clause_encoding.specs.Carriers.{carriers}
use Rattle.clause_encoding.specs.Formula.{clauses_of, liveness_clauses, plain_variables, safety_clauses, variables_of}
use Rattle.clause_encoding.specs.Variables.{IsKind, IsSmall, stands_before, variable_count}

-- an assignment satisfies the clauses exactly if it satisfies what is written
abbrev pub WrittenIsSatisfied : Type 0
WrittenIsSatisfied =
    (v : ℕ → Bool) (written : List Written) (clauses : List (List Lit)) →
    AreClausesOf written clauses → (SatisfiesAll v clauses ↔ SatisfiesAll v written)

-- there is a clause for each that is written
abbrev pub ClausesAreAsMany : Type 0
ClausesAreAsMany =
    (written : List Written) (clauses : List (List Lit)) → AreClausesOf written clauses →
    length clauses ≡ length written

-- what is written has one list of clauses
abbrev pub ClausesAreDetermined : Type 0
ClausesAreDetermined =
    (written : List Written) (one other : List (List Lit)) → AreClausesOf written one →
    AreClausesOf written other → one ≡ other

-- the clauses of each formula are few
abbrev pub ClausesAreFew : Type 0
ClausesAreFew =
    (property : Property) (x : Expanded) → length (clauses_of property x) ≤ 8000000

-- those of safety are
abbrev pub SafetyClausesAreFew : Type 0
SafetyClausesAreFew = (x : Expanded) → length (safety_clauses x) ≤ 8000000

-- those of liveness are
abbrev pub LivenessClausesAreFew : Type 0
LivenessClausesAreFew = (x : Expanded) → length (liveness_clauses x) ≤ 8000000

-- the numbers of the variables of each formula are small
abbrev pub VariablesAreSmall : Type 0
VariablesAreSmall = (property : Property) (x : Expanded) → IsSmall (variables_of property x)

-- so its variables are few
abbrev pub VariablesAreFew : Type 0
VariablesAreFew =
    (property : Property) (x : Expanded) → variable_count (variables_of property x) ≤ 2000000

-- the kinds at a role that make a parameter known are kinds of the protocol
abbrev pub CarriersAreKinds : Type 0
CarriersAreKinds =
    (x : Expanded) (role p : ℕ) → All (IsKind (plain_variables x)) (carriers x role p)

-- the literal that one kind stands before another is of a variable that there is
abbrev pub OrderVariablesExist : Type 0
OrderVariablesExist =
    (vars : Variables) (i j : ℕ) → IsKind vars i → IsKind vars j → i ≢ j →
    (0 < (stands_before vars i j).var) × ((stands_before vars i j).var ≤ variable_count vars)
