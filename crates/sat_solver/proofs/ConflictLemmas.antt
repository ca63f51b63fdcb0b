-- What a false clause has of the current level, and that what is learned is lacked.
use Rattle.std.proofs.Common.{◌≡◌, ◌≢◌, ℕ, ◌-◌, ◌<◌, Bool, true, false, Option, Some, None, option_map, List, inl, inr, get_or, sym, ap, ◌∙◌, arith, Contains}
use Rattle.std.proofs.lemmas.List.Elements.{All-contains}
use Rattle.clause_core.specs.declared.literal.Lit.{Lit}
use Rattle.clause_core.specs.Propagation.{MakesFalse, Falsifies, LeavesOnly, IsPropagated, IsLacked}
use Rattle.refutation_log.specs.declared.refutation.Chain.{Chain}
use Rattle.sat_trail.specs.declared.entry.Entry.{Entry}
use Rattle.sat_trail.specs.Entry.{values_of, up_to}
use Rattle.clause_core.specs.Numbering.{Numbering, numbered, HasNumber}
use Rattle.sat_trail.specs.State.{State, numbering_of}
use Rattle.sat_trail.specs.Trail.{IsTrail}
use Rattle.sat_solver.specs.inner.Analysis.{IsCurrent, HasTwoCurrent, IsLearned}
use Rattle.sat_solver.proofs.LowerLemmas.{fails-low, no_value-low, IsSet-false}
use Rattle.sat_solver.proofs.CurrentLemmas.{Single, cases_two}

-- a false literal that is not of the current level is false below it
pub fails-below : (t : State) (l : Lit) → IsTrail t → 0 < t.level → MakesFalse (values_of t.entries) l → ¬ IsCurrent t l → MakesFalse (values_of (up_to (t.level - 1) t.entries)) l
fails-below t l trail above fails other =
    let set = IsSet-false t l trail fails in
    let lower : set.entry.level ≢ t.level = λ same. other (ap (option_map (λ (e : Entry). e.level)) set.found ∙ ap Some same) in
    fails-low t (t.level - 1) l set.entry trail set.found (omega (arith, set.reached, lower)) fails

-- a literal of the current level has no value below it
pub no_value-below : (t : State) (l : Lit) → IsTrail t → 0 < t.level → MakesFalse (values_of t.entries) l → IsCurrent t l → values_of (up_to (t.level - 1) t.entries) l.var ≡ None
no_value-below t l trail above fails current =
    let set = IsSet-false t l trail fails in
    let same : Some set.entry.level ≡ Some t.level = sym (ap (option_map (λ (e : Entry). e.level)) set.found) ∙ current in
    let at_level : set.entry.level ≡ t.level = cc in
    no_value-low t (t.level - 1) l set.entry trail set.found (omega (arith, at_level, above))

-- a false clause with one literal of the current level leaves only that one below it
pub LeavesOnly-below : (t : State) (clause : List Lit) (u : Lit) → IsTrail t → 0 < t.level → Falsifies (values_of t.entries) clause → Contains clause u → IsCurrent t u → ((l : Lit) → Contains clause l → l ≢ u → ¬ IsCurrent t l) → LeavesOnly (values_of (up_to (t.level - 1) t.entries)) clause u
LeavesOnly-below t clause u trail above falsified among current others = record {
  among = among;
  no_value = no_value-below t u trail above (All-contains (MakesFalse (values_of t.entries)) clause u falsified among) current;
  others = λ l l_among differs. fails-below t l trail above (All-contains (MakesFalse (values_of t.entries)) clause l falsified l_among) (others l l_among differs);
}

-- a false clause of the trail has two literals of the current level
pub HasTwoCurrent-false : (t : State) (number : ℕ) (clause : List Lit) → IsTrail t → 0 < t.level → HasNumber (numbering_of t) number clause → Falsifies (values_of t.entries) clause → HasTwoCurrent t clause
HasTwoCurrent-false t number clause trail above has falsified = elim (cases_two t clause) [
  | inr two ↦ two
  | inl single ↦ absurd (clash single.0 single.1)
]
  where
    propagated : IsPropagated (values_of (up_to (t.level - 1) t.entries)) (numbering_of t)
    propagated = trail.below (t.level - 1) (omega arith)

    clash : (found : Bool) → Single t clause found → ⊥
    clash false none = propagated.no_false number clause has
        (λ k d within. fails-below t (get_or clause k d) trail above (falsified k d within) (none k d within))
    clash true single = propagated.no_unit number clause single.0 has
        (LeavesOnly-below t clause single.0 trail above falsified single.1 single.2 single.3)

-- a numbering with the same clauses leaves unit propagation nothing to do
IsPropagated-agree : (values : ℕ → Option Bool) (m n : Numbering) → ((k : ℕ) → m k ≡ n k) → IsPropagated values m → IsPropagated values n
IsPropagated-agree values m n agree propagated = record {
  no_false = λ k c has. propagated.no_false k c (record { there = agree k ∙ has.there });
  no_unit = λ k c l has. propagated.no_unit k c l (record { there = agree k ∙ has.there });
}

-- what is learned is lacked by the clauses that the trail numbers
pub IsLacked-learned : (t : State) (clauses : List (List Lit)) (chain : Chain) (clause : List Lit) → ((k : ℕ) → numbering_of t k ≡ numbered clauses k) → IsTrail t → 0 < t.level → IsLearned t chain clause → IsLacked clauses clause
IsLacked-learned t clauses chain clause agree trail above learned = record {
  literal = learned.current.literal;
  values = values_of (up_to (t.level - 1) t.entries);
  leaves = LeavesOnly-below t clause learned.current.literal trail above learned.falsified learned.current.among learned.current.current
      (λ l among differs current. learned.only_one (record { one = l; other = learned.current.literal; differ = differs; one_among = among; other_among = learned.current.among; one_current = current; other_current = learned.current.current }));
  propagated = IsPropagated-agree (values_of (up_to (t.level - 1) t.entries)) (numbering_of t) (numbered clauses) agree (trail.below (t.level - 1) (omega arith));
}
