-- That all variables have values, and that the values satisfy.
use Rattle.std.proofs.Common.{◌≡◌, ℕ, suc, ◌+◌, ◌-◌, ◌<◌, ◌≤◌, Bool, false, Option, Some, None, IsSome, unwrap_or, List, [], ◌∷◌, ◌++◌, ◌⊎◌, inl, inr, length, get_or, sym, ap, refl, ◌∙◌, subst, arith}
use Rattle.std.proofs.lemmas.Bool.{cases_eq, cases_lt}
use Rattle.std.proofs.lemmas.List.{get_or_append_left, get_or_push, length-append}
use Rattle.std.proofs.lemmas.List.Elements.{All-head, All-tail, All-cons}
use Rattle.clause_core.specs.declared.literal.Lit.{Lit}
use Rattle.clause_core.specs.Assignment.{valuation}
use Rattle.clause_core.specs.Clause.{VariablesExist, Satisfies}
use Rattle.clause_core.specs.Literal.{MakesTrue}
use Rattle.clause_core.specs.Propagation.{MakesFalse, Falsifies, IsPropagated}
use Rattle.sat_trail.specs.Entry.{values_of}
use Rattle.sat_trail.specs.State.{State, numbering_of}
use Rattle.sat_trail.specs.Trail.{IsTrail}
use Rattle.sat_solver.proofs.LiteralLemmas.{cases_bool}
use Rattle.sat_solver.specs.inner.Choice.{AllSet, SatisfiesNumbered}

-- one more variable has a value
pub set-more : (f : ℕ → Option Bool) (index : ℕ) → ((v : ℕ) → 0 < v → v ≤ index → IsSome (f v)) → IsSome (f (index + 1)) → (v : ℕ) → 0 < v → v ≤ index + 1 → IsSome (f v)
set-more f index set next v from_one within = elim (cases_eq v (index + 1)) [
  | inl same ↦ subst (λ w. IsSome (f w)) (sym same) next
  | inr other ↦ set v from_one (omega arith)
]

-- the values of the first variables, with false for what is missing
pub record HasValues (f : ℕ → Option Bool) (values : List Bool) (index : ℕ) : Type 0 where
  pub many : length values ≡ index
  pub each : (k : ℕ) → k < index → get_or values k false ≡ unwrap_or (f (k + 1)) false

-- one more value
pub HasValues-push : (f : ℕ → Option Bool) (values new : List Bool) (index : ℕ) (b : Bool) → HasValues f values index → b ≡ unwrap_or (f (index + 1)) false → new ≡ values ++ b ∷ [] → HasValues f new (index + 1)
HasValues-push f values new index b model is grows = rw grows (record {
  many = omega (arith, model.many, length-append values (b ∷ []));
  each = λ k within. elim (cases_lt k index) [
    | inl before ↦ get_or_append_left values (b ∷ []) false k (omega (arith, before, model.many)) ∙ model.each k before
    | inr last ↦
        let same : index ≡ k = omega arith in
        get_or_push values b false k (model.many ∙ same) ∙ is ∙ ap (λ n. unwrap_or (f (n + 1)) false) same
  ];
})

-- a literal whose variable has a value is true under the assignment, or false
literal-decided : (f : ℕ → Option Bool) (values : List Bool) (vars : ℕ) (l : Lit) (o : Option Bool) → HasValues f values vars → 0 < l.var → l.var ≤ vars → f l.var ≡ o → IsSome o → MakesTrue (valuation values) l ⊎ MakesFalse f l
literal-decided f values vars l None model from_one exists is some = cc
literal-decided f values vars l (Some b) model from_one exists is some = elim (cases_bool b l.positive) [
  | inr opposite ↦ inr (is ∙ ap Some opposite)
  | inl same ↦ inl (model.each (l.var - 1) (omega arith) ∙ ap (λ n. unwrap_or (f n) false) (let back : l.var - 1 + 1 ≡ l.var = omega arith in back) ∙ ap (λ o. unwrap_or o false) is ∙ same)
]

-- a clause has a true literal, or is false
clause-decided : (f : ℕ → Option Bool) (values : List Bool) (vars : ℕ) (clause : List Lit) → HasValues f values vars → ((v : ℕ) → 0 < v → v ≤ vars → IsSome (f v)) → VariablesExist vars clause → Satisfies (valuation values) clause ⊎ Falsifies f clause
clause-decided f values vars [] model set exist = inr (λ k d within. absurd (omega arith))
clause-decided f values vars (l ∷ rest) model set exist =
    elim (literal-decided f values vars l (f l.var) model (All-head (λ m. (0 < m.var) × (m.var ≤ vars)) l rest exist).0 (All-head (λ m. (0 < m.var) × (m.var ≤ vars)) l rest exist).1 refl
    (set l.var (All-head (λ m. (0 < m.var) × (m.var ≤ vars)) l rest exist).0 (All-head (λ m. (0 < m.var) × (m.var ≤ vars)) l rest exist).1)) [
      | inl holds ↦ inl (0, l, omega arith, refl, holds)
      | inr fails ↦ elim (clause-decided f values vars rest model set (All-tail (λ m. (0 < m.var) × (m.var ≤ vars)) l rest exist)) [
        | inl later ↦ inl (suc later.0, later.1, omega (arith, later.2), later.3, later.4)
        | inr falsified ↦ inr (All-cons (MakesFalse f) l rest fails falsified)
      ]
    ]

-- if no clause is false and all variables have values, the values satisfy
pub satisfies-model : (t : State) (values : List Bool) → IsTrail t → HasValues (values_of t.entries) values t.vars → AllSet t → IsPropagated (values_of t.entries) (numbering_of t) → SatisfiesNumbered (valuation values) (numbering_of t)
satisfies-model t values trail model set propagated n clause has =
    elim (clause-decided (values_of t.entries) values t.vars clause model set (trail.clauses_exist n clause has)) [
      | inl holds ↦ holds
      | inr falsified ↦ absurd (propagated.no_false n clause has falsified)
    ]
