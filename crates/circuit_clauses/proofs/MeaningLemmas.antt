-- Where the clauses of a condition hold, it is met.
use Rattle.std.proofs.Common.{◌≡◌, ◌⊎◌, ℕ, ◌+◌, Bool, true, inl, inr, List, [], ◌∷◌, ◌++◌, sym, ◌∙◌, ⊎_elim}
use Rattle.std.proofs.lemmas.Bool.{false≢true}
use Rattle.std.proofs.lemmas.List.Elements.{All-head, All-tail}
use Rattle.list_base.proofs.Membership.{all_prefix}
use Rattle.clause_core.specs.declared.literal.Lit.{Lit}
use Rattle.clause_core.specs.Clause.{Satisfies, SatisfiesAll}
use Rattle.clause_core.specs.Literal.{MakesTrue, negated, positive}
use Rattle.circuit_clauses.specs.Asserted.{asserted, asserted_count, part_clauses, part_count, part_lits}
use Rattle.circuit_clauses.specs.Condition.{Condition, Literal, Both, Either, Always, Never, Meets}
use Rattle.circuit_clauses.specs.Laws.{AssertedIsMet}
use Rattle.circuit_clauses.proofs.ListLemmas.{all_second, any_none, any_only, any_split}

-- where its clauses hold and its guard does not, a condition is met; where the clauses of a part
-- hold and one of its literals does, the part is met
pub record IsSaid (c : Condition) : Type 0 where
  pub whole : (n : ℕ) (guard : List Lit) (v : ℕ → Bool) → SatisfiesAll v (asserted n guard c) → (Satisfies v guard → ⊥) → Meets v c
  pub part : (n : ℕ) (v : ℕ → Bool) → SatisfiesAll v (part_clauses n c) → Satisfies v (part_lits n c) → Meets v c

-- a variable that is true does not satisfy its negation
no_guard : (n : ℕ) (v : ℕ → Bool) → v n ≡ true → Satisfies v (negated (positive n) ∷ []) → ⊥
no_guard n v on guard = false≢true (sym (any_only (MakesTrue v) (negated (positive n)) guard) ∙ on)

-- a clause with a guard that does not hold
unguarded : (v : ℕ → Bool) (guard lits : List Lit) → Satisfies v (guard ++ lits) → (Satisfies v guard → ⊥) → Satisfies v lits
unguarded v guard lits some none = ⊎_elim (λ left. absurd (none left)) (λ right. right) (any_split (MakesTrue v) guard lits some)

-- one of two parts
one_part : (v : ℕ → Bool) (n : ℕ) (c d : Condition) → IsSaid c → IsSaid d → SatisfiesAll v (part_clauses n c ++ part_clauses (n + part_count c) d) → Satisfies v (part_lits n c ++ part_lits (n + part_count c) d) → Meets v c ⊎ Meets v d
one_part v n c d left right all some =
    ⊎_elim
    (λ first. inl (left.part n v (all_prefix (Satisfies v) (part_clauses n c) (part_clauses (n + part_count c) d) all) first))
    (λ second. inr (right.part (n + part_count c) v (all_second (Satisfies v) (part_clauses n c) (part_clauses (n + part_count c) d) all) second))
    (any_split (MakesTrue v) (part_lits n c) (part_lits (n + part_count c) d) some)

-- both of two conditions
both_parts : (v : ℕ → Bool) (n : ℕ) (guard : List Lit) (c d : Condition) → IsSaid c → IsSaid d → SatisfiesAll v (asserted n guard c ++ asserted (n + asserted_count c) guard d) → (Satisfies v guard → ⊥) → Meets v c × Meets v d
both_parts v n guard c d left right all none = (
  left.whole n guard v (all_prefix (Satisfies v) (asserted n guard c) (asserted (n + asserted_count c) guard d) all) none,
  right.whole (n + asserted_count c) guard v (all_second (Satisfies v) (asserted n guard c) (asserted (n + asserted_count c) guard d) all) none,
)

-- so it is of each condition
pub said : (c : Condition) → IsSaid c
said (Literal l) = record {
  whole = λ n guard v all none. any_only (MakesTrue v) l (unguarded v guard (l ∷ []) (All-head (Satisfies v) (guard ++ l ∷ []) [] all) none);
  part = λ n v all some. any_only (MakesTrue v) l some;
}
said (Both c d) = record {
  whole = λ n guard v all none. both_parts v n guard c d (said c) (said d) all none;
  part = λ n v all some.
      let on = any_only (MakesTrue v) (positive n) some in
      both_parts v (n + 1) (negated (positive n) ∷ []) c d (said c) (said d) all (no_guard n v on);
}
said (Either c d) = record {
  whole = λ n guard v all none.
      let lits = part_lits n c ++ part_lits (n + part_count c) d in
      let parts = part_clauses n c ++ part_clauses (n + part_count c) d in
      one_part v n c d (said c) (said d) (All-tail (Satisfies v) (guard ++ lits) parts all)
      (unguarded v guard lits (All-head (Satisfies v) (guard ++ lits) parts all) none);
  part = λ n v all some. one_part v n c d (said c) (said d) all some;
}
said Always = record { whole = λ n guard v all none. tt; part = λ n v all some. tt }
said Never = record {
  whole = λ n guard v all none. absurd (none (All-head (Satisfies v) guard [] all));
  part = λ n v all some. any_none (MakesTrue v) some;
}

-- with no guard
pub asserted_is_met : AssertedIsMet
asserted_is_met n c v all = (said c).whole n [] v all (any_none (MakesTrue v))
