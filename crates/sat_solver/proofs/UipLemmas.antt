-- The way along the trail to one literal of the current level.
use Rattle.std.proofs.Common.{◌≡◌, ◌≢◌, ℕ, zero, suc, ◌+◌, ◌-◌, ◌<◌, ◌≤◌, false, not, Some, None, option_map, IsSome, List, [], ◌∷◌, ◌⊎◌, inl, inr, length, take, drop, get_or, sym, ap, refl, ◌∙◌, subst, arith, Contains}
use Rattle.std.proofs.lemmas.List.{take-append-drop}
use Rattle.std.proofs.lemmas.List.Elements.{All-contains, Contains-get_or}
use Rattle.clause_core.specs.declared.literal.Lit.{Lit}
use Rattle.clause_core.specs.Literal.{negated}
use Rattle.clause_core.specs.Clause.{IsAscending, HasExactly, ClausesAreSets}
use Rattle.clause_core.specs.Propagation.{MakesFalse, Falsifies, IsFalsified}
use Rattle.refutation_log.specs.declared.refutation.Chain.{Chain}
use Rattle.refutation_log.specs.Resolution.{Folds}
use Rattle.sat_trail.specs.declared.entry.Entry.{Entry}
use Rattle.sat_trail.specs.Entry.{entry_of, values_of}
use Rattle.std.proofs.lemmas.Option.{get_or_from_slice_get, slice_get_within, slice_get-get_or, slice_get-map}
use Rattle.sat_trail.specs.Growth.{IsDecision, IsForced}
use Rattle.sat_trail.specs.State.{State, numbering_of}
use Rattle.sat_trail.specs.Trail.{IsTrail}
use Rattle.sat_solver.specs.inner.Analysis.{IsCurrent, HasTwoCurrent, HasCurrent, Resolving, HasReason, IsLearned, Refuted}
use Rattle.sat_solver.proofs.EntryLemmas.{entry_of-member, entry_of-kept, values_of-prefix, value-entry}
use Rattle.sat_solver.proofs.LiteralLemmas.{cases_literal, some-none}
use Rattle.sat_solver.proofs.PositionLemmas.{IsAt, IsAt-trail, fails-under}
use Rattle.sat_solver.specs.declared.false_lits.FalseLits.{FalseLits}
use Rattle.sat_solver.specs.declared.analysis.Derivation.{Derivation}
use Rattle.sat_solver.specs.inner.Gathered.{IsDerivationOf, Gathers, StepsOver}
use Rattle.sat_solver.proofs.CurrentLemmas.{two-along, two-counted, counted-two}
use Rattle.sat_solver.proofs.ConflictLemmas.{HasTwoCurrent-false}

-- of two different literals one is not this one
other_than : (t : State) (clause : List Lit) (l : Lit) → HasTwoCurrent t clause → (m : Lit) × Contains clause m × IsCurrent t m × (m ≢ l)
other_than t clause l two = elim (cases_literal two.one l) [
  | inr other ↦ (two.one, two.one_among, two.one_current, other)
  | inl same ↦ (two.other, two.other_among, two.other_current, λ other_same. two.differ (same ∙ sym other_same))
]

-- if two are of the current level, one is left after a step
HasCurrent-step : (t : State) (old new : Chain) (f g : FalseLits) (position : ℕ) → HasTwoCurrent t f.set.lits → StepsOver t old new f g position → position < length t.entries → HasCurrent t g.set.lits
HasCurrent-step t old new f g position two steps within =
    let e = get_or t.entries position blank in
    let left = other_than t f.set.lits (negated e.lit) two in
    record { literal = left.0; among = steps.kept left.0 e left.1 (slice_get-get_or t.entries position blank within) left.3; current = left.2 }
  where
    blank : Entry
    blank = record { lit = record { var = 0; positive = false }; level = 0; reason = None }

-- a false clause with a literal comes after an entry
position-some : (t : State) (clause : List Lit) (position : ℕ) (l : Lit) → Falsifies (values_of (take position t.entries)) clause → Contains clause l → 0 < position
position-some t clause zero l falsified among =
    absurd (some-none (values_of [] l.var) (not l.positive) (All-contains (MakesFalse (values_of [])) clause l falsified among) refl)
position-some t clause (suc position) l falsified among = omega arith

-- the literal at the last position of a false clause has a reason where another of the current level comes before it
HasReason-two : (t : State) (clause : List Lit) (position : ℕ) → IsTrail t → HasTwoCurrent t clause → Falsifies (values_of (take (position + 1) t.entries)) clause → (l : Lit) → IsAt t position l → HasReason t clause position
HasReason-two t clause position trail two falsified l at e read among =
    subst (λ (f : Entry). IsSome f.reason) (sym same) (by-cause at.follows.cause)
  where
    same : e ≡ at.entry
    same = (let both : Some e ≡ Some at.entry = sym read ∙ at.at_position in cc)

    left : (m : Lit) × Contains clause m × IsCurrent t m × (m ≢ negated l)
    left = other_than t clause (negated l) two

    earlier : MakesFalse (values_of (take position t.entries)) left.0
    earlier = fails-under t position l left.0 at left.3 (All-contains (MakesFalse (values_of (take (position + 1) t.entries))) clause left.0 falsified left.1)

    rises : IsDecision (numbering_of t) (take position t.entries) at.entry → ⊥
    rises decision =
        let given = value-entry (entry_of (take position t.entries) left.0.var) (not left.0.positive) earlier in
        let whole : entry_of t.entries left.0.var ≡ Some given.0 =
        subst (λ es. entry_of es left.0.var ≡ Some given.0) (take-append-drop position t.entries) (entry_of-kept (take position t.entries) (drop position t.entries) left.0.var given.0 given.1) in
        let at_level : Some given.0.level ≡ Some t.level = sym (ap (option_map (λ (f : Entry). f.level)) whole) ∙ left.2 in
        let level : given.0.level ≡ t.level = cc in
        let low : given.0.level < at.entry.level =
        All-contains (λ f. f.level < at.entry.level) (take position t.entries) given.0
        (trail.levels.decisions_rise (take position t.entries) (drop (position + 1) t.entries) at.entry at.whole decision.no_reason)
        (entry_of-member (take position t.entries) left.0.var given.0 given.1) in
        let high : at.entry.level ≤ t.level =
        All-contains (λ f. f.level ≤ t.level) t.entries at.entry trail.levels.highest (entry_of-member t.entries l.var at.entry at.found) in
        omega (arith, level, low, high)

    by-cause : IsDecision (numbering_of t) (take position t.entries) at.entry ⊎ IsForced (numbering_of t) (take position t.entries) at.entry → IsSome at.entry.reason
    by-cause cause = elim cause [
      | inr forced ↦ subst IsSome (sym forced.reason) refl
      | inl decision ↦ absurd (rises decision)
    ]

-- at level 0 each entry has a reason
pub HasReason-0 : (t : State) (clause : List Lit) (position : ℕ) → IsTrail t → t.level ≡ 0 → HasReason t clause position
HasReason-0 t clause position trail at_0 e read among =
    All-contains (λ f. f.level ≡ 0 → IsSome f.reason) t.entries e trail.levels.no_decision inside
    (let high : e.level ≤ t.level = All-contains (λ f. f.level ≤ t.level) t.entries e trail.levels.highest inside in omega (arith, high, at_0))
  where
    inside : Contains t.entries e
    inside = subst (Contains t.entries) (get_or_from_slice_get t.entries position e e read) (Contains-get_or t.entries position e (slice_get_within t.entries position e read))

-- the false clause before the first resolution
unresolved-clause : (t : State) (number position : ℕ) (chain : Chain) (clause : List Lit) → (first : IsFalsified (numbering_of t) (values_of t.entries) number) → chain.links ≡ [] → Resolving t number chain clause position → first.clause ≡ clause
unresolved-clause t number position chain clause first none resolving =
    let folds : resolving.derives.start ≡ clause = subst (λ ls. Folds (numbering_of t) resolving.derives.start ls clause) none resolving.derives.folds in
    let start : first.clause ≡ resolving.derives.start = (let both : Some first.clause ≡ Some resolving.derives.start = sym first.has_number.there ∙ subst (λ n. numbering_of t n ≡ Some resolving.derives.start) resolving.first resolving.derives.named.there in cc) in
    start ∙ folds

-- what was resolved down to one literal of the current level is learned
IsLearned-end : (t : State) (number : ℕ) (chain : Chain) (clause : List Lit) (position : ℕ) → IsTrail t → 0 < t.level → (first : IsFalsified (numbering_of t) (values_of t.entries) number) → Resolving t number chain clause position → HasCurrent t clause → ¬ HasTwoCurrent t clause → IsLearned t chain clause
IsLearned-end t number chain clause position trail above first resolving current only_one = record {
  derives = resolving.derives;
  linked = λ none. only_one (subst (HasTwoCurrent t) (unresolved-clause t number position chain clause first none resolving) (HasTwoCurrent-false t number first.clause trail above first.has_number first.falsified));
  falsified = λ k d within. values_of-prefix position t.entries (get_or clause k d).var (not (get_or clause k d).positive) (resolving.falsified k d within);
  current = current;
  only_one = only_one;
}

-- the clause of the literals is the one that the chain derives
same-clause : (sets : ClausesAreSets) (t : State) (number : ℕ) (chain : Chain) (f : FalseLits) (position : ℕ) (clause : List Lit) (gathers : Gathers t number chain f position) → IsAscending clause → HasExactly clause f.set.lits → gathers.clause ≡ clause
same-clause sets t number chain f position clause gathers ascending exactly =
    sets gathers.clause clause gathers.ascending ascending
    (λ m. (λ among. (exactly m).1 ((gathers.exactly m).0 among), λ among. (gathers.exactly m).1 ((exactly m).0 among)))

-- the gathered clause of which one literal is of the current level is learned
pub IsLearned-gathered : (t : State) (number : ℕ) (chain : Chain) (f : FalseLits) (position : ℕ) → IsTrail t → 0 < t.level → IsFalsified (numbering_of t) (values_of t.entries) number → (gathers : Gathers t number chain f position) → HasCurrent t f.set.lits → f.current ≤ 1 → IsLearned t chain gathers.clause
IsLearned-gathered t number chain f position trail above first gathers current few =
    IsLearned-end t number chain gathers.clause position trail above first gathers.resolving
    (record { literal = current.literal; among = (gathers.exactly current.literal).1 current.among; current = current.current })
    (λ two. omega (arith, few, gathers.are_false.counted, counted-two t f.set.lits (two-along t gathers.clause f.set.lits (λ m among. (gathers.exactly m).0 among) two)))

-- the false clause before the first resolution has a literal of the current level
pub HasCurrent-start : (t : State) (number position : ℕ) (chain : Chain) (f : FalseLits) → IsTrail t → 0 < t.level → IsFalsified (numbering_of t) (values_of t.entries) number → chain.links ≡ [] → Gathers t number chain f position → HasCurrent t f.set.lits
HasCurrent-start t number position chain f trail above first none gathers =
    let two = HasTwoCurrent-false t number first.clause trail above first.has_number first.falsified in
    let same = unresolved-clause t number position chain gathers.clause first none gathers.resolving in
    record { literal = two.one; among = (gathers.exactly two.one).0 (subst (λ ls. Contains ls two.one) same two.one_among); current = two.one_current }

-- a clause that the first no entries make false is empty
pub empty-false : (t : State) (clause : List Lit) (position : ℕ) → position ≡ 0 → Falsifies (values_of (take position t.entries)) clause → clause ≡ []
empty-false t [] position at_start falsified = refl
empty-false t (l ∷ rest) position at_start falsified =
    let first : values_of (take position t.entries) l.var ≡ Some (not l.positive) = falsified 0 l (omega arith) in
    absurd (some-none (values_of (take position t.entries) l.var) (not l.positive) first (ap (λ n. values_of (take n t.entries) l.var) at_start))

-- the whole trail of level 0 resolves the false clause down to the empty one
pub Refuted-end : (sets : ClausesAreSets) (t : State) (number position : ℕ) (chain : Chain) (f : FalseLits) → position ≡ 0 → Gathers t number chain f position → (d : Derivation) → IsDerivationOf chain f.set.lits d → Refuted t number d.chain d.clause
Refuted-end sets t number position chain f at_start gathers d is_of =
    subst (λ ch. Refuted t number ch d.clause) (sym is_of.same) (subst (λ c. Refuted t number chain c) (same-clause sets t number chain f position d.clause gathers is_of.ascending is_of.exactly) (record {
      first = gathers.resolving.first;
      derives = gathers.resolving.derives;
      empty = empty-false t gathers.clause position at_start gathers.resolving.falsified;
    }))

-- two of the literals are of the current level
two-gathered : (t : State) (number position : ℕ) (chain : Chain) (f : FalseLits) → 1 < f.current → Gathers t number chain f position → HasTwoCurrent t f.set.lits
two-gathered t number position chain f many gathers =
    two-counted t f.set.lits gathers.are_false.set.distinct (omega (arith, many, gathers.are_false.counted))

-- two of the literals of the clause are of the current level
two-of-clause : (t : State) (number position : ℕ) (chain : Chain) (f : FalseLits) → 1 < f.current → (gathers : Gathers t number chain f position) → HasTwoCurrent t gathers.clause
two-of-clause t number position chain f many gathers =
    two-along t f.set.lits gathers.clause (λ m among. (gathers.exactly m).1 among) (two-gathered t number position chain f many gathers)

-- there is an entry before the position
pub gathered-some : (t : State) (number position : ℕ) (chain : Chain) (f : FalseLits) → 1 < f.current → Gathers t number chain f position → 0 < position
gathered-some t number position chain f many gathers =
    let two = two-of-clause t number position chain f many gathers in position-some t gathers.clause position two.one gathers.resolving.falsified two.one_among

-- the last entry of a false clause has a reason where two are of the current level
pub HasReason-last : (t : State) (number position : ℕ) (chain : Chain) (f : FalseLits) → IsTrail t → 1 < f.current → Gathers t number chain f position → HasReason t f.set.lits (position - 1)
HasReason-last t number position chain f trail many gathers entry read among =
    HasReason-two t gathers.clause (position - 1) trail (two-of-clause t number position chain f many gathers) (subst (λ n. Falsifies (values_of (take n t.entries)) gathers.clause) same gathers.resolving.falsified) e.lit
    (IsAt-trail t (position - 1) e.lit trail within (slice_get-map (λ (f : Entry). f.lit) t.entries (position - 1) ∙ ap (option_map (λ (f : Entry). f.lit)) (slice_get-get_or t.entries (position - 1) blank within)))
    entry read ((gathers.exactly (negated entry.lit)).1 among)
  where
    some : 0 < position
    some = gathered-some t number position chain f many gathers

    same : position ≡ position - 1 + 1
    same = omega (arith, some)

    within : position - 1 < length t.entries
    within = omega (arith, some, gathers.resolving.within)

    blank : Entry
    blank = record { lit = record { var = 0; positive = false }; level = 0; reason = None }

    e : Entry
    e = get_or t.entries (position - 1) blank

-- the same literals at the same position, written in another way
pub Gathers-at : (t : State) (number position at : ℕ) (chain : Chain) (f : FalseLits) → position ≡ at → Gathers t number chain f position → Gathers t chain.first chain f at
Gathers-at t number position at chain f same gathers = subst (λ n. Gathers t chain.first chain f n) same (record {
  clause = gathers.clause;
  exactly = gathers.exactly;
  ascending = gathers.ascending;
  resolving = record { within = gathers.resolving.within; first = refl; derives = gathers.resolving.derives; falsified = gathers.resolving.falsified };
  are_false = gathers.are_false;
})

-- after a step
pub Gathers-after : (t : State) (number position at : ℕ) (old new : Chain) (f g : FalseLits) → Gathers t number old f position → StepsOver t old new f g at → Gathers t number new g at
Gathers-after t number position at old new f g gathers steps = record {
  clause = steps.gathers.clause;
  exactly = steps.gathers.exactly;
  ascending = steps.gathers.ascending;
  resolving = record { within = steps.gathers.resolving.within; first = steps.gathers.resolving.first ∙ gathers.resolving.first; derives = steps.gathers.resolving.derives; falsified = steps.gathers.resolving.falsified };
  are_false = steps.gathers.are_false;
}

-- a literal of the current level is left after a step
pub HasCurrent-after : (t : State) (number position : ℕ) (old new : Chain) (f g : FalseLits) → 1 < f.current → Gathers t number old f position → StepsOver t old new f g (position - 1) → HasCurrent t g.set.lits
HasCurrent-after t number position old new f g many gathers steps =
    HasCurrent-step t old new f g (position - 1) (two-gathered t number position old f many gathers) steps
    (let some : 0 < position = gathered-some t number position old f many gathers in omega (arith, some, gathers.resolving.within))
