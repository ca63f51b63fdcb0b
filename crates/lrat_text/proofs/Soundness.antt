-- What lines refute has no solution.
use Rattle.std.proofs.Common.{◌≡◌, ℕ, zero, suc, ◌-◌, ◌⊎◌, inl, inr, Bool, true, false, not, Option, Some, None, List, [], ◌∷◌, ◌++◌, map, get_or, slice_set, Contains, refl, sym, subst, ◌∙◌, arith}
use Rattle.std.specs.List.{AllByRecursion}
use Rattle.std.proofs.lemmas.Bool.{cond-false, ne_eqb, true≢false}
use Rattle.std.proofs.lemmas.List.Elements.{Contains-append_cases, recursion_from_All}
use Rattle.list_base.proofs.Members.{cons_cases, nowhere, only}
use Rattle.clause_core.specs.declared.literal.Lit.{Lit}
use Rattle.clause_core.specs.Clause.{Satisfies}
use Rattle.clause_core.specs.Literal.{negated, MakesTrue}
use Rattle.clause_core.specs.Numbering.{Numbering, HasNumber, live}
use Rattle.refutation_log.specs.Ledger.{Ledger, all_live, without, without_all}
use Rattle.lrat_text.specs.Lrat.{Add, AddsEmpty, AreRefuted, Delete, HasHints, ProofLine, RefutedIsUnsatisfiable, Verifies}
use Rattle.lrat_text.proofs.Literals.{one_or_two}

not_its_negation : (b : Bool) → b ≡ not b → ⊥
not_its_negation true same = true≢false same
not_its_negation false same = true≢false (sym same)

-- no valuation makes a literal and its negation true
opposed : (v : ℕ → Bool) (l : Lit) → MakesTrue v l → MakesTrue v (negated l) → ⊥
opposed v l one other = not_its_negation l.positive (sym one ∙ other)

equal_or_opposite : (a b : Bool) → (a ≡ b) ⊎ (a ≡ not b)
equal_or_opposite true true = inl refl
equal_or_opposite true false = inr refl
equal_or_opposite false true = inr refl
equal_or_opposite false false = inl refl

-- a valuation satisfies a clause, or makes the negations of its literals true
satisfied_or_not : (v : ℕ → Bool) (clause : List Lit) → Satisfies v clause ⊎ ((l : Lit) → Contains (map negated clause) l → MakesTrue v l)
satisfied_or_not v [] = inr (λ l among. absurd (nowhere l among))
satisfied_or_not v (first ∷ clause) = elim (equal_or_opposite (v first.var) first.positive) [
  | inl is_true ↦ inl (zero, first, omega arith, refl, is_true)
  | inr is_false ↦ elim (satisfied_or_not v clause) [
    | inl holds ↦ inl (suc holds.0, holds.1, omega (arith, holds.2), holds.3, holds.4)
    | inr all ↦ inr (λ l among. elim (cons_cases (negated first) (map negated clause) l among) [ inl same ↦ subst (MakesTrue v) same is_false | inr rest ↦ all l rest ])
  ]
]

-- where the clauses of a numbering hold, what is true is refuted by no hints
never_refuted : (v : ℕ → Bool) (numbering : Numbering) → ((n : ℕ) (c : List Lit) → HasNumber numbering n c → Satisfies v c) → (lits : List Lit) (hints : List ℕ) → ((l : Lit) → Contains lits l → MakesTrue v l) → AreRefuted numbering lits hints → ⊥
never_refuted v numbering hold lits [] all refuted = absurd refuted
never_refuted v numbering hold lits (hint ∷ hints) all (clause, named, inl (last, is_false)) =
    let holds = hold hint clause named in
    opposed v holds.1 holds.4 (all (negated holds.1) (is_false holds.1 (holds.0, holds.2, holds.3)))
never_refuted v numbering hold lits (hint ∷ hints) all (clause, named, inr (l, unit, refuted)) =
    let holds = hold hint clause named in
    let forced : MakesTrue v l = elim (one_or_two holds.1 l) [
      | inl same ↦ subst (MakesTrue v) same holds.4
      | inr differs ↦ absurd (opposed v holds.1 holds.4 (all (negated holds.1) (unit.others holds.1 (holds.0, holds.2, holds.3) differs)))
    ] in
    never_refuted v numbering hold (lits ++ l ∷ []) hints
    (λ m among. elim (Contains-append_cases lits (l ∷ []) m among) [ inl before ↦ all m before | inr last ↦ subst (MakesTrue v) (only l m last) forced ]) refuted

-- the clause is satisfied, if there is one
abbrev Holds : (ℕ → Bool) → Option (List Lit) → Type 0
Holds v None = Unit {0}
Holds v (Some clause) = Satisfies v clause

-- each live clause is satisfied
abbrev AllHold : (ℕ → Bool) → Ledger → Type 0
AllHold v ledger = AllByRecursion (Holds v) ledger

hold_first : (v : ℕ → Bool) (clauses : List (List Lit)) → AllByRecursion (Satisfies v) clauses → AllHold v (all_live clauses)
hold_first v [] all = tt
hold_first v (clause ∷ clauses) all = (all.0, hold_first v clauses all.1)

hold_more : (v : ℕ → Bool) (ledger : Ledger) (clause : List Lit) → AllHold v ledger → Satisfies v clause → AllHold v (ledger ++ Some clause ∷ [])
hold_more v [] clause all holds = (holds, tt)
hold_more v (first ∷ ledger) clause all holds = (all.0, hold_more v ledger clause all.1 holds)

hold_less : (v : ℕ → Bool) (ledger : Ledger) (index : ℕ) → AllHold v ledger → AllHold v (slice_set ledger index None)
hold_less v [] index all = tt
hold_less v (first ∷ ledger) zero all = (tt, all.1)
hold_less v (first ∷ ledger) (suc index) all = (all.0, hold_less v ledger index all.1)

hold_without : (v : ℕ → Bool) (ledger : Ledger) (numbers : List ℕ) → AllHold v ledger → AllHold v (without_all ledger numbers)
hold_without v ledger [] all = all
hold_without v ledger (number ∷ numbers) all = hold_without v (without ledger number) numbers (hold_less v ledger (number - 1) all)

hold_at : (v : ℕ → Bool) (ledger : Ledger) (index : ℕ) (clause : List Lit) → AllHold v ledger → get_or ledger index None ≡ Some clause → Satisfies v clause
hold_at v [] index clause all there = absurd (let none : None ≡ Some clause = there in cc)
hold_at v (first ∷ ledger) zero clause all there = subst (Holds v) there all.0
hold_at v (first ∷ ledger) (suc index) clause all there = hold_at v ledger index clause all.1 there

-- a live clause is satisfied
hold_named : (v : ℕ → Bool) (ledger : Ledger) (number : ℕ) (clause : List Lit) → AllHold v ledger → HasNumber (live ledger) number clause → Satisfies v clause
hold_named v ledger zero clause all named = absurd (let none : None ≡ Some clause = named.there in cc)
hold_named v ledger (suc n) clause all named = hold_at v ledger (suc n - 1) clause all (sym (cond-false _ _ _ (ne_eqb (suc n) 0 (λ is. omega arith))) ∙ named.there)

-- so is a clause with hints
hold_added : (v : ℕ → Bool) (ledger : Ledger) (clause : List Lit) (hints : List ℕ) → AllHold v ledger → HasHints (live ledger) clause hints → Satisfies v clause
hold_added v ledger clause hints all has = elim (satisfied_or_not v clause) [
  | inl holds ↦ holds
  | inr opposite ↦ absurd (never_refuted v (live ledger) (λ n c named. hold_named v ledger n c all named) (map negated clause) hints opposite has)
]

empty_fails : (v : ℕ → Bool) → Satisfies v [] → ⊥
empty_fails v holds = absurd (omega (arith, holds.2))

-- so no line adds the empty clause
never_empty : (v : ℕ → Bool) (ledger : Ledger) (lines : List ProofLine) (line : ProofLine) → AllHold v ledger → Verifies ledger lines → Contains lines line → AddsEmpty line → ⊥
never_empty v ledger [] line all verifies among empty = nowhere line among
never_empty v ledger (Add id clause hints ∷ lines) line all verifies among empty =
    let holds = hold_added v ledger clause hints all verifies.1 in
    elim (cons_cases (Add id clause hints) lines line among) [
      | inl same ↦
          let none : clause ≡ [] = subst AddsEmpty (sym same) empty in
          empty_fails v (rw none at holds)
      | inr later ↦ never_empty v (ledger ++ Some clause ∷ []) lines line (hold_more v ledger clause all holds) verifies.2 later empty
    ]
never_empty v ledger (Delete id numbers ∷ lines) line all verifies among empty = elim (cons_cases (Delete id numbers) lines line among) [
  | inl same ↦ subst AddsEmpty (sym same) empty
  | inr later ↦ never_empty v (without_all ledger numbers) lines line (hold_without v ledger numbers all) verifies.2 later empty
]

pub refuted_unsatisfiable : RefutedIsUnsatisfiable
refuted_unsatisfiable clauses lines refutes v all =
    never_empty v (all_live clauses) lines refutes.adding (hold_first v clauses (recursion_from_All (Satisfies v) clauses all)) refutes.verifies refutes.among refutes.empty
