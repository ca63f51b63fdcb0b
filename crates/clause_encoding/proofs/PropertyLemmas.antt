-- The formula of a property: its variables are small and exist, and its clauses are few.
use Rattle.std.proofs.Common.{◌≤◌, ℕ, ◌-◌, ◌*◌, ◌/◌, List, [], length, arith, length-append}
use Rattle.std.proofs.Math.Nat.{mul-le-mul}
use Rattle.std.specs.List.{All}
use Rattle.std.proofs.lemmas.List.Elements.{All-append}
use Rattle.bspl_types.specs.declared.expanded.Expanded.{Expanded}
use Rattle.bspl_types.specs.declared.property.Property.{Property}
use Rattle.bspl_types.specs.declared.property.Property.TheVariants.{Liveness, Safety}
use Rattle.clause_core.specs.declared.literal.Lit.{Lit}
use Rattle.clause_core.specs.Clause.{VariablesExist}
use Rattle.clause_encoding.specs.Families.{shared_clauses}
use Rattle.clause_encoding.specs.Formula.{clauses_of, own_clauses, variables_of}
use Rattle.clause_encoding.specs.Variables.{variable_count}
use Rattle.clause_core.specs.Written.{AppendsClauses}
use Rattle.clause_encoding.specs.inner.Kinds.{AreOver}
use Rattle.clause_encoding.proofs.ClauseLengths.{few_shared}
use Rattle.clause_encoding.proofs.ExistenceLemmas.{ClauseExists}
use Rattle.clause_encoding.proofs.FamilyLemmas.{shared_exist}
use Rattle.clause_encoding.proofs.FormulaLemmas.{appended_count, appended_exist}
use Rattle.clause_encoding.proofs.RestLemmas.{few_rest, liveness_over, rest_exist}
use Rattle.clause_encoding.proofs.SafetyLemmas.{few_rival_clauses, rivals_exist, safety_over}

-- the variables are over the protocol's kinds, and small
pub variables_over : (property : Property) (x : Expanded) → AreOver x (variables_of property x)
variables_over Safety x = safety_over x
variables_over Liveness x = liveness_over x

-- those of the clauses that only the property has exist
own_exist : (property : Property) (x : Expanded) → All (ClauseExists (variables_of property x)) (own_clauses property x)
own_exist Safety x = rivals_exist x
own_exist Liveness x = rest_exist x

-- these clauses are few
few_own : (property : Property) (x : Expanded) → length (own_clauses property x) ≤ 524289
few_own Safety x = few_rival_clauses x
few_own Liveness x = omega (arith, few_rest x)

-- the variables of all clauses exist
pub formula_exists : (property : Property) (x : Expanded) (clauses : List (List Lit)) → AppendsClauses [] clauses (clauses_of property x) → All (VariablesExist (variable_count (variables_of property x))) clauses
formula_exists property x clauses appends =
    let vars = variables_of property x in
    appended_exist vars (clauses_of property x) clauses appends
    (All-append (ClauseExists vars) (shared_clauses x vars) (own_clauses property x) (shared_exist x vars (variables_over property x)) (own_exist property x))

-- the clauses are few
pub clauses_few : (property : Property) (x : Expanded) → length (clauses_of property x) ≤ 8000000
clauses_few property x =
    let vars = variables_of property x in
    omega (arith, few_shared x vars (variables_over property x).small.few_kinds, few_own property x, length-append (shared_clauses x vars) (own_clauses property x))

-- and those of the formula are as many
pub formula_few : (property : Property) (x : Expanded) (clauses : List (List Lit)) → AppendsClauses [] clauses (clauses_of property x) → length clauses ≤ 8000000
formula_few property x clauses appends =
    omega (arith, appended_count (clauses_of property x) clauses appends, clauses_few property x)

-- the pairs of few kinds are few
few_pairs : (kinds : ℕ) → kinds ≤ 128 → kinds * (kinds - 1) / 2 ≤ 8192
few_pairs kinds few =
    let less : kinds - 1 ≤ 128 = omega (arith, few) in
    let square = mul-le-mul few less in
    omega (arith, square)

-- so the variables are few
pub variables_few : (property : Property) (x : Expanded) → variable_count (variables_of property x) ≤ 2000000
variables_few property x =
    let vars = variables_of property x in
    let small = (variables_over property x).small in
    let others = small.few_others in
    omega (arith, others, few_pairs vars.kinds small.few_kinds)
