-- The highest level below the current one, literal by literal.
use Rattle.std.proofs.Common.{◌≡◌, ℕ, ◌+◌, ◌<◌, ◌≤◌, Option, Some, IfSome, List, [], ◌∷◌, ◌++◌, ◌⊎◌, inl, inr, length, take, get_or, sym, ◌∙◌, subst, arith}
use Rattle.std.proofs.lemmas.List.{take_more, take_all}
use Rattle.std.proofs.lemmas.List.Elements.{All-push, All-weaker, Contains-append_left, Contains-push}
use Rattle.clause_core.specs.declared.literal.Lit.{Lit}
use Rattle.sat_trail.specs.Entry.{level_of}
use Rattle.sat_trail.specs.State.{State}
use Rattle.sat_solver.specs.inner.Analysis.{IsLowerLevel}

-- what is said of the level in a `Some`
at-some : (o : Option ℕ) (current result n : ℕ) → IfSome o (λ m. m < current → m ≤ result) → o ≡ Some n → n < current → n ≤ result
at-some o current result n highest is = subst (λ p. IfSome p (λ m. m < current → m ≤ result)) is highest

-- one more literal
more-push : (t : State) (lits : List Lit) (l : Lit) (o : Option ℕ) (lower result : ℕ) → IsLowerLevel t lits lower → o ≡ level_of t.entries l.var → lower ≤ result → result < t.level → (result ≡ lower) ⊎ (o ≡ Some result) → IfSome o (λ n. n < t.level → n ≤ result) → IsLowerLevel t (lits ++ l ∷ []) result
more-push t lits l o lower result so_far read kept below taken highest = record {
  lower = below;
  reached = elim taken [
    | inr level ↦ inr (l, Contains-push lits l, sym read ∙ level)
    | inl same ↦ elim so_far.reached [
      | inl at_0 ↦ inl (same ∙ at_0)
      | inr held ↦ inr (held.0, Contains-append_left lits (l ∷ []) held.0 held.1, subst (λ n. level_of t.entries held.0.var ≡ Some n) (sym same) held.2)
    ]
  ];
  highest = All-push (λ m. (n : ℕ) → level_of t.entries m.var ≡ Some n → n < t.level → n ≤ result) lits l
      (All-weaker (λ m. (n : ℕ) → level_of t.entries m.var ≡ Some n → n < t.level → n ≤ lower) (λ m. (n : ℕ) → level_of t.entries m.var ≡ Some n → n < t.level → n ≤ result)
      (λ m before n level under. omega (arith, before n level under, kept)) lits so_far.highest)
      (λ n level under. at-some o t.level result n highest (read ∙ level) under);
}

-- one more literal was passed
pub IsLowerLevel-more : (t : State) (clause : List Lit) (i : ℕ) (d : Lit) (o : Option ℕ) (lower result : ℕ) → i < length clause → IsLowerLevel t (take i clause) lower → o ≡ level_of t.entries (get_or clause i d).var → lower ≤ result → result < t.level → (result ≡ lower) ⊎ (o ≡ Some result) → IfSome o (λ n. n < t.level → n ≤ result) → IsLowerLevel t (take (i + 1) clause) result
IsLowerLevel-more t clause i d o lower result within so_far read kept below taken highest =
    subst (λ ls. IsLowerLevel t ls result) (sym (take_more clause i d within)) (more-push t (take i clause) (get_or clause i d) o lower result so_far read kept below taken highest)

-- all literals were passed
pub IsLowerLevel-all : (t : State) (clause : List Lit) (i level : ℕ) → length clause ≤ i → IsLowerLevel t (take i clause) level → IsLowerLevel t clause level
IsLowerLevel-all t clause i level past so_far = subst (λ ls. IsLowerLevel t ls level) (take_all i clause past) so_far
