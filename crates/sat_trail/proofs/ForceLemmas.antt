-- What a forced literal does to the entries.
use Rattle.std.proofs.Common.{◌≡◌, ◌≢◌, ℕ, ◌+◌, ◌<◌, ◌≤◌, Bool, not, Option, Some, None, List, [], ◌∷◌, ◌++◌, inl, inr, length, take, get_or, sym, ap, refl, ◌∙◌, subst, arith, Contains}
use Rattle.std.proofs.lemmas.List.{take_more, take_all}
use Rattle.std.proofs.lemmas.List.Elements.{Contains-push, Contains-push_cases, Contains-get_or}
use Rattle.clause_core.specs.declared.literal.Lit.{Lit}
use Rattle.clause_core.specs.Numbering.{live}
use Rattle.clause_core.specs.Propagation.{MakesFalse, OthersFalse, LeavesOnly, IsFalsified}
use Rattle.sat_trail.specs.declared.entry.Entry.{Entry}
use Rattle.sat_trail.specs.Entry.{values_of}
use Rattle.sat_trail.specs.inner.Excuse.{IsTrueBy}
use Rattle.sat_trail.specs.inner.Propagation.{CanPropagate, Extends}
use Rattle.sat_trail.specs.inner.Storage.{Assigned}
use Rattle.sat_trail.specs.inner.Visit.{IsLastLeft}
use Rattle.sat_trail.proofs.LiteralLemmas.{cases_bool, cases_literal}
use Rattle.sat_trail.proofs.GrowthLemmas.{forced_entry, Extends-force, CanPropagate-exists}

-- a value that is neither of two is missing
pub value-none : (o : Option Bool) (b : Bool) → (o ≡ Some b → ⊥) → (o ≡ Some (not b) → ⊥) → o ≡ None
value-none None b other opposite = refl
value-none (Some d) b other opposite = elim (cases_bool d b) [
  | inl same ↦ absurd (other (ap Some same))
  | inr differs ↦ absurd (opposite (ap Some differs))
]

-- the literal is the only one that is left
leaves-last : (clauses : List (Option (List Lit))) (es : List Entry) (number : ℕ) (l : Lit) (left : IsLastLeft clauses es number l) → values_of es l.var ≡ None → LeavesOnly (values_of es) left.clause l
leaves-last clauses es number l left none = record { among = left.among; no_value = none; others = left.others }

-- the last literal that is left is set
pub Extends-last : (clauses : List (Option (List Lit))) (level number : ℕ) (l : Lit) (old new : Assigned) → IsLastLeft clauses old.entries number l → values_of old.entries l.var ≡ None → CanPropagate clauses old level → new ≡ record old { entries = old.entries ++ forced_entry l level number ∷ [] } → Extends clauses level old new
Extends-last clauses level number l old new left none fits grows =
    Extends-force clauses level number left.clause l old new fits.reached left.has_number (leaves-last clauses old.entries number l left none)
    (CanPropagate-exists clauses old level number left.clause l fits left.has_number left.among) grows

-- it is true then
pub IsTrueBy-last : (level number : ℕ) (l : Lit) (old new : Assigned) → new ≡ record old { entries = old.entries ++ forced_entry l level number ∷ [] } → IsTrueBy new.entries level l
IsTrueBy-last level number l old new grows = subst (λ (s : Assigned). IsTrueBy s.entries level l) (sym grows)
    (record { entry = forced_entry l level number; among = Contains-push old.entries (forced_entry l level number); sets = refl; low = omega arith })

-- if the last literal is false too, the clause is false
pub IsFalsified-last : (clauses : List (Option (List Lit))) (es : List Entry) (number : ℕ) (l : Lit) → IsLastLeft clauses es number l → MakesFalse (values_of es) l → IsFalsified (live clauses) (values_of es) number
IsFalsified-last clauses es number l left fails = record {
  clause = left.clause;
  has_number = left.has_number;
  falsified = λ k d within. elim (cases_literal (get_or left.clause k d) l) [
    | inl same ↦ subst (MakesFalse (values_of es)) (sym same) fails
    | inr other ↦ left.others (get_or left.clause k d) (Contains-get_or left.clause k d within) other
  ];
}

-- each literal that was passed is false, but for one
abbrev pub PassedFalse : List Entry → List Lit → Lit → Type 0
PassedFalse es lits kept = (l : Lit) → Contains lits l → l ≢ kept → MakesFalse (values_of es) l

-- one more literal was passed
pub PassedFalse-more : (es : List Entry) (clause : List Lit) (kept : Lit) (i : ℕ) (d : Lit) → i < length clause → PassedFalse es (take i clause) kept → (get_or clause i d ≢ kept → MakesFalse (values_of es) (get_or clause i d)) → PassedFalse es (take (i + 1) clause) kept
PassedFalse-more es clause kept i d within passed here l among other =
    elim (Contains-push_cases (take i clause) (get_or clause i d) l (subst (λ lits. Contains lits l) (take_more clause i d within) among)) [
      | inl before ↦ passed l before other
      | inr last ↦ subst (MakesFalse (values_of es)) last (here (λ same. other (sym last ∙ same)))
    ]

-- all literals were passed
pub PassedFalse-all : (es : List Entry) (clause : List Lit) (kept : Lit) (i : ℕ) → length clause ≤ i → PassedFalse es (take i clause) kept → OthersFalse (values_of es) clause kept
PassedFalse-all es clause kept i past passed = subst (λ lits. PassedFalse es lits kept) (take_all i clause past) passed
