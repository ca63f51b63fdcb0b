-- That a learned clause stays one when literals of lower levels are resolved away.
use Rattle.std.proofs.Common.{◌≡◌, ◌≢◌, ℕ, ◌<◌, ◌≤◌, false, true, not, Some, None, IsSome, List, [], ◌∷◌, ◌++◌, ◌⊎◌, inl, inr, get_or, map, slice_get, option_map, sym, ap, ◌∙◌, subst, Contains}
use Rattle.std.proofs.lemmas.List.Elements.{All-contains, Contains-get_or}
use Rattle.std.proofs.lemmas.Option.{slice_get-map, slice_get-get_or}
use Rattle.clause_core.specs.declared.literal.Lit.{Lit}
use Rattle.clause_core.specs.Literal.{negated}
use Rattle.clause_core.specs.Clause.{HasExactly, ClausesAreSets, ListsHaveClauses}
use Rattle.clause_core.specs.Numbering.{HasNumber}
use Rattle.clause_core.specs.Propagation.{MakesFalse, Falsifies, IsFalsified, OthersFalse}
use Rattle.clause_core.specs.Resolvent.{CanResolve, IsResolvent}
use Rattle.refutation_log.specs.declared.refutation.Link.{Link}
use Rattle.refutation_log.specs.declared.refutation.Chain.{Chain}
use Rattle.sat_trail.specs.declared.entry.Entry.{Entry}
use Rattle.sat_trail.specs.Entry.{entry_of, values_of, reason_of}
use Rattle.sat_trail.specs.State.{State, numbering_of}
use Rattle.sat_trail.specs.Trail.{IsTrail}
use Rattle.sat_solver.specs.declared.analysis.Derivation.{Derivation}
use Rattle.sat_solver.specs.declared.false_lits.FalseLits.{FalseLits}
use Rattle.sat_solver.specs.inner.Analysis.{IsCurrent, HasCurrent, IsLearned}
use Rattle.sat_solver.specs.inner.Gathered.{is_current, AreFalse, OthersAreLower, ResolvesSet, IsDerivationOf, Gathers, Asserts}
use Rattle.sat_solver.proofs.CurrentLemmas.{true-current}
use Rattle.sat_solver.proofs.EntryLemmas.{entry_of-member, entry_of-variable, value-entry}
use Rattle.sat_solver.proofs.LiteralLemmas.{same_literal}
use Rattle.sat_solver.proofs.PositionLemmas.{IsAt, IsAt-trail, CanResolve-at, reason-some, negated-negated}
use Rattle.sat_solver.proofs.StepLemmas.{Folds-more, OthersFalse-at, resolvent-of}
use Rattle.sat_solver.proofs.UipLemmas.{IsLearned-gathered}

-- the place of a false literal's negation on the trail
pub record HasPlace (t : State) (l : Lit) : Type 0 where
  pub position : ℕ
  pub at : IsAt t position (negated l)

-- the negation of a false literal is on the trail
pub HasPlace-false : (t : State) (l : Lit) → IsTrail t → MakesFalse (values_of t.entries) l → HasPlace t l
HasPlace-false t l trail fails = record { position = member.0; at = IsAt-trail t member.0 (negated l) trail member.1 read }
  where
    blank : Entry
    blank = record { lit = l; level = 0; reason = None }

    given : (e : Entry) × (entry_of t.entries l.var ≡ Some e) × (e.lit.positive ≡ not l.positive)
    given = value-entry (entry_of t.entries l.var) (not l.positive) fails

    member : Contains t.entries given.0
    member = entry_of-member t.entries l.var given.0 given.1

    literal : given.0.lit ≡ negated l
    literal = same_literal given.0.lit (negated l) (entry_of-variable t.entries l.var given.0 given.1) given.2

    read : slice_get (map (λ (e : Entry). e.lit) t.entries) member.0 ≡ Some (negated l)
    read = slice_get-map (λ (e : Entry). e.lit) t.entries member.0
        ∙ ap (option_map (λ (e : Entry). e.lit)) (slice_get-get_or t.entries member.0 given.0 member.1 ∙ ap Some member.2)
        ∙ ap Some literal

-- a literal of the set is false
pub false-among : (t : State) (f : FalseLits) (l : Lit) → AreFalse t f → Contains f.set.lits l → MakesFalse (values_of t.entries) l
false-among t f l are_false among = All-contains (MakesFalse (values_of t.entries)) f.set.lits l are_false.falsified among

-- the reason of a false literal has a clause
pub reason-false : (t : State) (l : Lit) (number : ℕ) → IsTrail t → MakesFalse (values_of t.entries) l → reason_of t.entries l.var ≡ Some number → IsSome (numbering_of t number)
reason-false t l number trail fails read =
    let place = HasPlace-false t l trail fails in reason-some t place.position number (negated l) place.at read

-- the other literals of its reason are false
pub OthersFalse-reason : (t : State) (l : Lit) (number : ℕ) (reason : List Lit) → IsTrail t → MakesFalse (values_of t.entries) l → reason_of t.entries l.var ≡ Some number → HasNumber (numbering_of t) number reason → OthersFalse (values_of t.entries) reason (negated l)
OthersFalse-reason t l number reason trail fails read has =
    let place = HasPlace-false t l trail fails in
    subst (λ (m : Lit). OthersFalse (values_of t.entries) reason (negated m)) (negated-negated l) (OthersFalse-at t place.position number (negated l) reason place.at read has)

-- another literal of the clause is not of the current level
other-lower : (t : State) (clause : List Lit) (lit l : Lit) → OthersAreLower t clause lit → Contains clause l → l ≢ lit → ¬ IsCurrent t l
other-lower t clause lit l lower among other current = elim (All-contains (λ m. (m ≡ lit) ⊎ (is_current t m ≡ false)) clause l lower among) [
  | inl same ↦ other same
  | inr below ↦ (let clash : true ≡ false = sym (true-current t l current) ∙ below in cc)
]

-- what has a further link has a link
push-some : (links : List Link) (link : Link) → links ++ link ∷ [] ≢ []
push-some [] link same = cc
push-some (first ∷ links) link same = cc

-- a learned clause without a literal of a lower level, and with others of lower levels in its place
IsLearned-shorter : (t : State) (chain : Chain) (clause reason resolvent : List Lit) (l : Lit) (number : ℕ) → IsLearned t chain clause → HasNumber (numbering_of t) number reason → IsResolvent clause l reason resolvent → Falsifies (values_of t.entries) resolvent → ¬ IsCurrent t l → OthersAreLower t reason (negated l) → IsLearned t (record chain { links = chain.links ++ (record { pivot = l; clause = number }) ∷ [] }) resolvent
IsLearned-shorter t chain clause reason resolvent l number learned has resolves falsified other lower = record {
  derives = record {
    start = learned.derives.start;
    named = learned.derives.named;
    folds = Folds-more (numbering_of t) learned.derives.start chain.links (record { pivot = l; clause = number }) clause reason resolvent learned.derives.folds has resolves;
  };
  linked = push-some chain.links (record { pivot = l; clause = number });
  falsified = falsified;
  current = record {
    literal = learned.current.literal;
    among = (resolves.union.members learned.current.literal).1 (inl (learned.current.among, λ same. other (subst (IsCurrent t) same learned.current.current)));
    current = learned.current.current;
  };
  only_one = λ two. learned.only_one (record {
    one = two.one;
    other = two.other;
    differ = two.differ;
    one_among = before two.one two.one_among two.one_current;
    other_among = before two.other two.other_among two.other_current;
    one_current = two.one_current;
    other_current = two.other_current;
  });
}
  where
    before : (m : Lit) → Contains resolvent m → IsCurrent t m → Contains clause m
    before m among current = elim ((resolves.union.members m).0 among) [
      | inl keeps ↦ keeps.0
      | inr keeps ↦ absurd (other-lower t reason (negated l) m lower keeps.0 keeps.1 current)
    ]

-- a clause with the literals of the set is false
falsified-exactly : (t : State) (f : FalseLits) (clause : List Lit) → AreFalse t f → HasExactly clause f.set.lits → Falsifies (values_of t.entries) clause
falsified-exactly t f clause are_false exactly k d within =
    false-among t f (get_or clause k d) are_false ((exactly (get_or clause k d)).0 (Contains-get_or clause k d within))

-- a literal of a lower level was resolved away
pub Asserts-shorter : (clause_of : ListsHaveClauses) (t : State) (chain new : Chain) (f g : FalseLits) (reason : List Lit) (l : Lit) (number : ℕ) → IsTrail t → Asserts t chain f → Contains f.set.lits l → ¬ IsCurrent t l → reason_of t.entries l.var ≡ Some number → HasNumber (numbering_of t) number reason → OthersAreLower t reason (negated l) → AreFalse t g → ResolvesSet f.set.lits l reason g.set.lits → new ≡ record chain { links = chain.links ++ (record { pivot = l; clause = number }) ∷ [] } → Asserts t new g
Asserts-shorter clause_of t chain new f g reason l number trail asserts among other read has lower are_false resolves_set grows = rw grows (record {
  clause = resolvent;
  exactly = (clause_of g.set.lits).1.exactly;
  ascending = (clause_of g.set.lits).1.ascending;
  learned = IsLearned-shorter t chain asserts.clause reason resolvent l number asserts.learned has resolves
      (falsified-exactly t g resolvent are_false (clause_of g.set.lits).1.exactly) other lower;
  are_false = are_false;
})
  where
    resolvent : List Lit
    resolvent = (clause_of g.set.lits).0

    place : HasPlace t l
    place = HasPlace-false t l trail (false-among t f l asserts.are_false among)

    resolves : IsResolvent asserts.clause l reason resolvent
    resolves = resolvent-of clause_of asserts.clause reason f.set.lits g.set.lits l asserts.exactly
        (subst (λ (m : Lit). CanResolve asserts.clause m reason) (negated-negated l)
        (CanResolve-at t place.position number (negated l) asserts.clause reason place.at read has
        (subst (Contains asserts.clause) (sym (negated-negated l)) ((asserts.exactly l).1 among)))) resolves_set

-- what was gathered down to one literal of the current level
pub Asserts-gathered : (t : State) (number : ℕ) (chain : Chain) (f : FalseLits) (position : ℕ) → IsTrail t → 0 < t.level → IsFalsified (numbering_of t) (values_of t.entries) number → Gathers t number chain f position → HasCurrent t f.set.lits → f.current ≤ 1 → Asserts t chain f
Asserts-gathered t number chain f position trail above first gathers current few = record {
  clause = gathers.clause;
  exactly = gathers.exactly;
  ascending = gathers.ascending;
  learned = IsLearned-gathered t number chain f position trail above first gathers current few;
  are_false = gathers.are_false;
}

-- the clause of the literals is learned
pub IsLearned-asserts : (sets : ClausesAreSets) (t : State) (chain : Chain) (f : FalseLits) → Asserts t chain f → (d : Derivation) → IsDerivationOf chain f.set.lits d → IsLearned t d.chain d.clause
IsLearned-asserts sets t chain f asserts d is_of =
    subst (λ ch. IsLearned t ch d.clause) (sym is_of.same)
    (subst (λ c. IsLearned t chain c) (sets asserts.clause d.clause asserts.ascending is_of.ascending
    (λ m. (λ among. (is_of.exactly m).1 ((asserts.exactly m).0 among), λ among. (asserts.exactly m).1 ((is_of.exactly m).0 among)))) asserts.learned)
