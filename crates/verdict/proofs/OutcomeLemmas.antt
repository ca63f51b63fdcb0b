-- What the answer to an outcome of the search says.
use Rattle.std.proofs.Common.{◌≡◌, ℕ, ◌+◌, ◌-◌, ◌≤◌, Bool, Some, slice_get, List, [], ◌∷◌, length, Contains, refl, sym, subst, arith}
use Rattle.std.proofs.lemmas.Bool.{ne_eqb}
use Rattle.std.proofs.lemmas.List.Elements.{All-contains, All-nil}
use Rattle.list_base.proofs.Membership.{index_of}
use Rattle.bspl_types.specs.declared.expanded.Expanded.{Expanded}
use Rattle.bspl_types.specs.declared.property.Property.{Property}
use Rattle.bspl_types.specs.declared.property.Property.TheVariants.{Safety}
use Rattle.clause_core.specs.declared.formula.Formula.{Formula}
use Rattle.clause_core.specs.declared.literal.Lit.{Lit}
use Rattle.clause_core.specs.Assignment.{valuation}
use Rattle.clause_core.specs.Clause.{Satisfies}
use Rattle.clause_core.specs.Numbering.{HasNumber, numbered}
use Rattle.clause_core.specs.Propagation.{IsLacked, MakesFalse}
use Rattle.clause_encoding.specs.Formula.{IsFormula}
use Rattle.clause_encoding.specs.Laws.{VariablesAreFew}
use Rattle.enactment_model.specs.Producers.{HasOneProducer}
use Rattle.refutation_log.specs.Resolution.{AreNewClauses}
use Rattle.refutation_log.specs.ResolutionLaws.{NewLogsResolve, StepsAreCounted}
use Rattle.sat_solver.specs.declared.outcome.Outcome.{Outcome}
use Rattle.sat_solver.specs.declared.outcome.Outcome.TheVariants.{Budget, Sat, Unsat}
use Rattle.sat_solver.specs.Outcome.{IsModel, IsOutcome}
use Rattle.verdict.specs.declared.outcome.Decision.{Decision}
use Rattle.verdict.specs.Decision.{HasLogInRange, IsDecided, IsProvedByEmptyLog}
use Rattle.verdict.specs.Numbers.{NumbersInRange}
use Rattle.verdict.specs.inner.Answer.{IsAnswer, IsAnswered}
use Rattle.verdict.proofs.RivalLemmas.{one_producer_empty}

-- the answer to each outcome is right
answers_right : (property : Property) (x : Expanded) (f : Formula) (budget : ℕ) (outcome : Outcome) (decision : Decision) → IsFormula property x f → IsOutcome f budget outcome → IsAnswer property x outcome decision → IsDecided property x budget decision
answers_right property x f budget (Sat assignment) decision is_formula found answers =
    subst (IsDecided property x budget) (sym answers.is_refuted) answers.right
answers_right property x f budget (Unsat log) decision is_formula found answers =
    subst (IsDecided property x budget) (sym answers.is_proved)
    (record { formula = f; is_formula = is_formula; accepts = found.accepted; new = found.new; within = found.within; holds = answers.right })
answers_right property x f budget (Budget log) decision is_formula found answers =
    subst (IsDecided property x budget) (sym answers)
    (record { formula = f; is_formula = is_formula; new = found.new; exact = found.spent; derived = found.derived; resolves = found.resolves; none = found.no_empty })

-- so what is decided is right
pub decided_right : (property : Property) (x : Expanded) (f : Formula) (budget : ℕ) (decision : Decision) → IsFormula property x f → IsAnswered f budget (IsAnswer property x) decision → IsDecided property x budget decision
decided_right property x f budget decision is_formula decided =
    answers_right property x f budget decided.outcome decision is_formula decided.is_outcome decided.answers

-- a clause of a list has a number
number_of : (clauses : List (List Lit)) (clause : List Lit) → Contains clauses clause → (number : ℕ) × HasNumber (numbered clauses) number clause
number_of clauses clause among =
    let (k, at) = index_of clauses clause among in (
      k + 1,
      record {
        there = rw (ne_eqb (k + 1) 0 (λ same. omega (arith, same)))
            (subst (λ (j : ℕ). slice_get clauses j ≡ Some clause) (let back : k ≡ k + 1 - 1 = omega arith in back) at);
      },
    )

-- unit propagation over an empty clause lacks nothing
nothing_lacked : (clauses : List (List Lit)) (clause : List Lit) → Contains clauses [] → IsLacked clauses clause → ⊥
nothing_lacked clauses clause empty lacked =
    let (number, named) = number_of clauses [] empty in
    lacked.propagated.no_false number [] named (All-nil (MakesFalse lacked.values))

-- so no clause is new after it
nothing_new : (clauses derived : List (List Lit)) → Contains clauses [] → 1 ≤ length derived → AreNewClauses clauses derived → ⊥
nothing_new clauses [] empty some new = absurd (omega (arith, some))
nothing_new clauses ([] ∷ derived) empty some new = new.0.first_empty refl empty
nothing_new clauses ((l ∷ clause) ∷ derived) empty some new =
    nothing_lacked clauses (l ∷ clause) empty (new.0.lacked (λ same. cc))

-- the laws of new logs: they resolve, and those that resolve derive a clause for each step
pub record NewLogLaws : Type 0 where
  pub resolve : NewLogsResolve
  pub counted : StepsAreCounted

-- the answer over a formula with an empty clause is a log without steps and removals
answers_none : NewLogLaws → (property : Property) (x : Expanded) (f : Formula) (budget : ℕ) (outcome : Outcome) (decision : Decision) → 1 ≤ budget → Contains f.clauses [] → IsOutcome f budget outcome → IsAnswer property x outcome decision → IsProvedByEmptyLog decision
answers_none laws property x f budget (Sat assignment) decision some empty found answers =
    let (k, l, within, at, holds) = All-contains (Satisfies (valuation assignment)) f.clauses [] found.satisfies empty in
    absurd (omega (arith, within))
answers_none laws property x f budget (Unsat log) decision some empty found answers =
    subst IsProvedByEmptyLog (sym answers.is_proved) (found.none_needed empty)
answers_none laws property x f budget (Budget log) decision some empty found answers =
    let spent = found.spent in
    let counted = laws.counted f log found.new.derived (laws.resolve f log found.new) in
    absurd (nothing_new f.clauses found.new.derived empty (omega (arith, some, spent, counted)) found.new.new)

-- so is what is decided of safety with one producer of each parameter
pub decided_none : NewLogLaws → (property : Property) (x : Expanded) (f : Formula) (budget : ℕ) (decision : Decision) → 1 ≤ budget → property ≡ Safety → HasOneProducer x → IsFormula property x f → IsAnswered f budget (IsAnswer property x) decision → IsProvedByEmptyLog decision
decided_none laws property x f budget decision some is_safety one is_formula decided =
    answers_none laws property x f budget decided.outcome decision some
    (one_producer_empty x f (subst (λ (p : Property). IsFormula p x f) is_safety is_formula) one) decided.is_outcome decided.answers

-- the log of each answer has numbers in range
answers_in_range : NumbersInRange → (property : Property) (x : Expanded) (f : Formula) (budget : ℕ) (outcome : Outcome) (decision : Decision) → length f.clauses + budget ≤ 2147483647 → f.vars ≤ 2147483647 → IsOutcome f budget outcome → IsAnswer property x outcome decision → HasLogInRange decision
answers_in_range law property x f budget (Sat assignment) decision few few_vars found answers =
    subst HasLogInRange (sym answers.is_refuted) tt
answers_in_range law property x f budget (Unsat log) decision few few_vars found answers =
    let within = found.within in
    subst HasLogInRange (sym answers.is_proved) (law f log found.accepted.derived found.accepted.resolves (omega (arith, few, within)) few_vars)
answers_in_range law property x f budget (Budget log) decision few few_vars found answers =
    let spent = found.spent in
    subst HasLogInRange (sym answers) (law f log found.derived found.resolves (omega (arith, few, spent)) few_vars)

-- so has that of what is decided within a small budget
pub decided_in_range : NumbersInRange → VariablesAreFew → (property : Property) (x : Expanded) (f : Formula) (budget : ℕ) (decision : Decision) → length f.clauses ≤ 8000000 → budget ≤ 1000000 → IsFormula property x f → IsAnswered f budget (IsAnswer property x) decision → HasLogInRange decision
decided_in_range law few_variables property x f budget decision few small is_formula decided =
    let vars = is_formula.vars in
    answers_in_range law property x f budget decided.outcome decision (omega (arith, few, small)) (omega (arith, vars, few_variables property x)) decided.is_outcome decided.answers

-- an assignment that the search found is a model of the formula
pub model_found : (f : Formula) (budget : ℕ) (outcome : Outcome) (assignment : List Bool) → outcome ≡ Sat assignment → IsOutcome f budget outcome → IsModel f assignment
model_found f budget outcome assignment is found = subst (IsOutcome f budget) is found
