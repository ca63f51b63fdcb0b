-- What is kept when a literal is gathered, or taken out.
use Rattle.std.proofs.Common.{◌≡◌, ◌≢◌, ℕ, ◌+◌, ◌-◌, ◌<◌, ◌≤◌, ◌↔◌, List, [], ◌∷◌, ◌++◌, ◌⊎◌, inl, inr, length, take, get_or, cond, sym, ◌∙◌, subst, arith, Contains}
use Rattle.std.proofs.lemmas.List.{take_more}
use Rattle.std.proofs.lemmas.List.Elements.{All-tail, Contains-append_left, Contains-push_cases}
use Rattle.std.proofs.lemmas.List.Sorted.{All-permutation, Contains-permutation, IsPermutation-sym, sum_by_popped}
use Rattle.clause_core.specs.declared.literal.Lit.{Lit}
use Rattle.clause_core.specs.Literal.{negated}
use Rattle.clause_core.specs.Propagation.{MakesFalse}
use Rattle.clause_core.specs.Resolvent.{Keeps}
use Rattle.list_base.proofs.Members.{there, nowhere, cons_cases, end_same}
use Rattle.sat_trail.specs.Entry.{values_of}
use Rattle.sat_trail.specs.State.{State}
use Rattle.sat_trail.specs.Trail.{IsTrail}
use Rattle.sat_solver.proofs.LiteralLemmas.{cases_member}
use Rattle.sat_solver.specs.inner.LiteralSet.{LiteralSet, IsLiteralSet, TakesOut}
use Rattle.sat_solver.specs.declared.false_lits.FalseLits.{FalseLits}
use Rattle.sat_solver.specs.inner.Gathered.{is_current, AreFalse, AddsLiteral, AddsLiterals, ResolvesSet}
use Rattle.sat_solver.proofs.LowerLemmas.{IsSet-false}

-- the variable of a false literal exists
pub false-exists : (t : State) (l : Lit) → IsTrail t → MakesFalse (values_of t.entries) l → (0 < l.var) × (l.var ≤ t.vars)
false-exists t l trail fails = (IsSet-false t l trail fails).exists

-- the literal was put in at the end
pub AddsLiteral-push : (old : List Lit) (l : Lit) → AddsLiteral old l (old ++ l ∷ [])
AddsLiteral-push old l = record {
  members = λ m. (Contains-push_cases old l m, λ either. elim either [ inl before ↦ Contains-append_left old (l ∷ []) m before | inr same ↦ end_same old l m same ]);
}

-- the literal was in
pub AddsLiteral-held : (old : List Lit) (l : Lit) → Contains old l → AddsLiteral old l old
AddsLiteral-held old l held = record { members = λ m. (inl, λ either. elim either [ inl before ↦ before | inr same ↦ subst (Contains old) same held ]) }

-- what does not lack a literal has it
pub held : (old : List Lit) (l : Lit) → ¬ (¬ Contains old l) → Contains old l
held old l not_missing = elim (cases_member old l) [ inl among ↦ among | inr missing ↦ absurd (not_missing missing) ]

-- one false literal less
pub AreFalse-remove : (t : State) (f : FalseLits) (l : Lit) (new : LiteralSet) (less : ℕ) → AreFalse t f → IsLiteralSet new → new.vars ≡ f.set.vars → TakesOut f.set.lits l new.lits → less ≡ cond (is_current t l) 1 0 → AreFalse t (record { set = new; current = f.current - less })
AreFalse-remove t f l new less are_false set vars taken weighs = record {
  vars = vars ∙ are_false.vars;
  set = set;
  falsified = All-tail (MakesFalse (values_of t.entries)) l new.lits (All-permutation (MakesFalse (values_of t.entries)) f.set.lits (l ∷ new.lits) taken.others are_false.falsified);
  counted = omega (arith, are_false.counted, weighs, sum_by_popped (λ m. cond (is_current t m) 1 0) l f.set.lits new.lits taken.others);
}

-- what is left is what was kept
pub kept-taken : (old new : List Lit) (l m : Lit) → TakesOut old l new → Contains new m ↔ Keeps old l m
kept-taken old new l m taken = (
  λ among. (Contains-permutation (l ∷ new) old m (IsPermutation-sym old (l ∷ new) taken.others) (there l new m among), λ same. taken.gone (subst (Contains new) same among)),
  λ keeps. elim (cons_cases l new m (Contains-permutation old (l ∷ new) m taken.others keeps.0)) [ inl same ↦ absurd (keeps.1 (sym same)) | inr among ↦ among ],
)

-- one more item of a list
pub take-cases : (xs : List Lit) (i : ℕ) (d m : Lit) → i < length xs → Contains (take (i + 1) xs) m ↔ (Contains (take i xs) m ⊎ (get_or xs i d ≡ m))
take-cases xs i d m within = rw (take_more xs i d within) (
  Contains-push_cases (take i xs) (get_or xs i d) m,
  λ either. elim either [
    | inl before ↦ Contains-append_left (take i xs) (get_or xs i d ∷ []) m before
    | inr same ↦ end_same (take i xs) (get_or xs i d) m same
  ],
)

-- one more literal of the clause was put in
pub AddsLiterals-more : (old clause mid new : List Lit) (i : ℕ) (d : Lit) → i < length clause → AddsLiterals old (take i clause) mid → AddsLiteral mid (get_or clause i d) new → AddsLiterals old (take (i + 1) clause) new
AddsLiterals-more old clause mid new i d within so_far inserts = record {
  members = λ m. (
    λ among. elim ((inserts.members m).0 among) [
      | inl before ↦ elim ((so_far.members m).0 before) [ inl first ↦ inl first | inr passed ↦ inr ((take-cases clause i d m within).1 (inl passed)) ]
      | inr same ↦ inr ((take-cases clause i d m within).1 (inr same))
    ],
    λ either. (inserts.members m).1 (elim either [
      | inl first ↦ inl ((so_far.members m).1 (inl first))
      | inr passed ↦ elim ((take-cases clause i d m within).0 passed) [ inl before ↦ inl ((so_far.members m).1 (inr before)) | inr same ↦ inr same ]
    ]),
  );
}

-- the pivot was taken out
pub ResolvesSet-none : (old : List Lit) (pivot : Lit) (clause new : List Lit) → TakesOut old pivot new → ResolvesSet old pivot (take 0 clause) new
ResolvesSet-none old pivot clause new taken = record {
  members = λ m. (
    λ among. inl ((kept-taken old new pivot m taken).0 among),
    λ either. elim either [ inl keeps ↦ (kept-taken old new pivot m taken).1 keeps | inr none ↦ absurd (nowhere m none.0) ],
  );
}

-- the negation of the pivot was passed over
pub ResolvesSet-skip : (old : List Lit) (pivot : Lit) (clause new : List Lit) (i : ℕ) (d : Lit) → i < length clause → get_or clause i d ≡ negated pivot → ResolvesSet old pivot (take i clause) new → ResolvesSet old pivot (take (i + 1) clause) new
ResolvesSet-skip old pivot clause new i d within is_negation so_far = record {
  members = λ m. (
    λ among. elim ((so_far.members m).0 among) [
      | inl keeps ↦ inl keeps
      | inr keeps ↦ inr ((take-cases clause i d m within).1 (inl keeps.0), keeps.1)
    ],
    λ either. (so_far.members m).1 (elim either [
      | inl keeps ↦ inl keeps
      | inr keeps ↦ elim ((take-cases clause i d m within).0 keeps.0) [ inl before ↦ inr (before, keeps.1) | inr same ↦ absurd (keeps.1 (sym same ∙ is_negation)) ]
    ]),
  );
}

-- another literal of the clause was put in
pub ResolvesSet-more : (old : List Lit) (pivot : Lit) (clause mid new : List Lit) (i : ℕ) (d : Lit) → i < length clause → get_or clause i d ≢ negated pivot → ResolvesSet old pivot (take i clause) mid → AddsLiteral mid (get_or clause i d) new → ResolvesSet old pivot (take (i + 1) clause) new
ResolvesSet-more old pivot clause mid new i d within other so_far inserts = record {
  members = λ m. (
    λ among. elim ((inserts.members m).0 among) [
      | inl before ↦ elim ((so_far.members m).0 before) [
        | inl keeps ↦ inl keeps
        | inr keeps ↦ inr ((take-cases clause i d m within).1 (inl keeps.0), keeps.1)
      ]
      | inr same ↦ inr ((take-cases clause i d m within).1 (inr same), λ is_negation. other (same ∙ is_negation))
    ],
    λ either. (inserts.members m).1 (elim either [
      | inl keeps ↦ inl ((so_far.members m).1 (inl keeps))
      | inr keeps ↦ elim ((take-cases clause i d m within).0 keeps.0) [ inl before ↦ inl ((so_far.members m).1 (inr (before, keeps.1))) | inr same ↦ inr same ]
    ]),
  );
}
