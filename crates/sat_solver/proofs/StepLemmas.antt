-- The literals before the first resolution, and after each one.
use Rattle.std.proofs.Common.{◌≡◌, ℕ, ◌+◌, Some, not, List, [], ◌∷◌, ◌++◌, inl, inr, length, take, get_or, slice_get, sym, ap, refl, ◌∙◌, subst, arith, Contains}
use Rattle.std.proofs.lemmas.List.{take_all}
use Rattle.std.proofs.lemmas.List.Elements.{All-contains, Contains-get_or}
use Rattle.clause_core.specs.declared.literal.Lit.{Lit}
use Rattle.clause_core.specs.Literal.{negated}
use Rattle.clause_core.specs.Clause.{IsAscending, HasExactly, ListsHaveClauses}
use Rattle.clause_core.specs.Propagation.{MakesFalse, Falsifies, OthersFalse, IsFalsified}
use Rattle.clause_core.specs.Resolvent.{CanResolve, IsResolvent}
use Rattle.list_base.proofs.Members.{nowhere}
use Rattle.refutation_log.specs.declared.refutation.Link.{Link}
use Rattle.refutation_log.specs.declared.refutation.Chain.{Chain}
use Rattle.refutation_log.specs.Resolution.{Folds}
use Rattle.sat_trail.specs.declared.entry.Entry.{Entry}
use Rattle.sat_trail.specs.Entry.{values_of, reason_of}
use Rattle.clause_core.specs.Numbering.{Numbering, HasNumber}
use Rattle.sat_trail.specs.State.{State, numbering_of}
use Rattle.sat_solver.proofs.EntryLemmas.{values_of-prefix}
use Rattle.sat_solver.specs.declared.false_lits.FalseLits.{FalseLits}
use Rattle.sat_solver.specs.inner.Analysis.{Resolving}
use Rattle.sat_solver.specs.inner.Gathered.{AreFalse, AddsLiterals, ResolvesSet, Gathers, StepsOver}
use Rattle.sat_solver.proofs.PositionLemmas.{number_one, IsAt, negated-negated, reason-clause, CanResolve-at, fails-under}

-- one more link
pub Folds-more : (numbering : Numbering) (clause : List Lit) (links : List Link) (link : Link) (middle other result : List Lit) → Folds numbering clause links middle → HasNumber numbering link.clause other → IsResolvent middle link.pivot other result → Folds numbering clause (links ++ link ∷ []) result
Folds-more numbering clause [] link middle other result folds named resolves =
    record { other = other; named = named; resolvent = result; resolves = rw folds resolves; continues = refl }
Folds-more numbering clause (first ∷ links) link middle other result folds named resolves =
    record {
      other = folds.other;
      named = folds.named;
      resolvent = folds.resolvent;
      resolves = folds.resolves;
      continues = Folds-more numbering folds.resolvent links link middle other result folds.continues named resolves;
    }

-- before the first resolution
pub Resolving-start : (t : State) (number : ℕ) (clause copy : List Lit) → IsFalsified (numbering_of t) (values_of t.entries) number → HasNumber (numbering_of t) number clause → copy ≡ clause → Resolving t number (record { first = number; links = [] }) copy (length t.entries)
Resolving-start t number clause copy false_one has same = record {
  within = omega arith;
  first = refl;
  derives = record { start = clause; named = has; folds = sym same };
  falsified = subst (Falsifies (values_of (take (length t.entries) t.entries))) (number_one (numbering_of t) number false_one.clause clause false_one.has_number has ∙ sym same)
      (rw (take_all (length t.entries) t.entries (omega arith)) false_one.falsified);
}

-- the literals of the false clause were put into an empty set
pub Gathers-start : (t : State) (number : ℕ) (clause : List Lit) (f : FalseLits) → IsFalsified (numbering_of t) (values_of t.entries) number → HasNumber (numbering_of t) number clause → IsAscending clause → AreFalse t f → AddsLiterals [] clause f.set.lits → Gathers t number (record { first = number; links = [] }) f (length t.entries)
Gathers-start t number clause f false_one has ascending are_false inserts = record {
  clause = clause;
  exactly = λ m. (λ among. (inserts.members m).1 (inr among), λ among. elim ((inserts.members m).0 among) [ inl none ↦ absurd (nowhere m none) | inr new ↦ new ]);
  ascending = ascending;
  resolving = Resolving-start t number clause clause false_one has refl;
  are_false = are_false;
}

-- literals without the negation are passed over
pub StepsOver-pass : (t : State) (chain : Chain) (f : FalseLits) (position : ℕ) (l : Lit) → IsAt t position l → Gathers t chain.first chain f (position + 1) → ¬ Contains f.set.lits (negated l) → StepsOver t chain chain f f position
StepsOver-pass t chain f position l at gathers missing = record {
  gathers = record {
    clause = gathers.clause;
    exactly = gathers.exactly;
    ascending = gathers.ascending;
    resolving = record {
      within = omega (arith, gathers.resolving.within);
      first = refl;
      derives = gathers.resolving.derives;
      falsified = λ k d within. fails-under t position l (get_or gathers.clause k d) at (λ same. missing ((gathers.exactly (negated l)).0 (subst (Contains gathers.clause) same (Contains-get_or gathers.clause k d within)))) (gathers.resolving.falsified k d within);
    };
    are_false = gathers.are_false;
  };
  kept = λ m e among read other. among;
}

-- the others of the reason are false
pub OthersFalse-at : (t : State) (position number : ℕ) (l : Lit) (reason : List Lit) → IsAt t position l → reason_of t.entries l.var ≡ Some number → HasNumber (numbering_of t) number reason → OthersFalse (values_of t.entries) reason (negated (negated l))
OthersFalse-at t position number l reason at read has m among other =
    let found = reason-clause t position number l at read in
    values_of-prefix position t.entries m.var (not m.positive)
    (found.1.leaves.others m (subst (λ x. Contains x m) (number_one (numbering_of t) number reason found.0 has found.1.has_number) among) (λ same. other (same ∙ sym (negated-negated l))))

-- the new literals are those of a resolvent
pub resolvent-of : (clause_of : ListsHaveClauses) (clause reason old new : List Lit) (pivot : Lit) → HasExactly clause old → CanResolve clause pivot reason → ResolvesSet old pivot reason new → IsResolvent clause pivot reason (clause_of new).0
resolvent-of clause_of clause reason old new pivot exactly can resolves =
    let r = clause_of new in record {
      can = can;
      union = record {
        members = λ m. (
          λ among. elim ((resolves.members m).0 ((r.1.exactly m).0 among)) [ inl keeps ↦ inl ((exactly m).1 keeps.0, keeps.1) | inr keeps ↦ inr keeps ],
          λ either. (r.1.exactly m).1 ((resolves.members m).1 (elim either [ inl keeps ↦ inl ((exactly m).0 keeps.0, keeps.1) | inr keeps ↦ inr keeps ])),
        );
        ascending = r.1.ascending;
      };
    }

-- literals with the negation are resolved with the reason
pub StepsOver-resolve : (clause_of : ListsHaveClauses) (t : State) (chain new : Chain) (f g : FalseLits) (d : List Lit) (position number : ℕ) (l : Lit) → IsAt t position l → Gathers t chain.first chain f (position + 1) → reason_of t.entries l.var ≡ Some number → HasNumber (numbering_of t) number d → Contains f.set.lits (negated l) → AreFalse t g → ResolvesSet f.set.lits (negated l) d g.set.lits → new ≡ record chain { links = chain.links ++ (record { pivot = negated l; clause = number }) ∷ [] } → StepsOver t chain new f g position
StepsOver-resolve clause_of t chain new f g d position number l at gathers read has among are_false resolves_set grows = rw grows (record {
  gathers = record {
    clause = resolvent;
    exactly = (clause_of g.set.lits).1.exactly;
    ascending = (clause_of g.set.lits).1.ascending;
    resolving = record {
      within = omega (arith, gathers.resolving.within);
      first = refl;
      derives = record {
        start = gathers.resolving.derives.start;
        named = gathers.resolving.derives.named;
        folds = Folds-more (numbering_of t) gathers.resolving.derives.start chain.links (record { pivot = negated l; clause = number }) gathers.clause d resolvent gathers.resolving.derives.folds has resolves;
      };
      falsified = λ k e within. false-in (get_or resolvent k e) (Contains-get_or resolvent k e within);
    };
    are_false = are_false;
  };
  kept = λ m e held at_position other. (resolves_set.members m).1 (inl (held, λ same. other (same ∙ ap negated (sym (literal-at e at_position)))));
})
  where
    resolvent : List Lit
    resolvent = (clause_of g.set.lits).0

    resolves : IsResolvent gathers.clause (negated l) d resolvent
    resolves = resolvent-of clause_of gathers.clause d f.set.lits g.set.lits (negated l) gathers.exactly
        (CanResolve-at t position number l gathers.clause d at read has ((gathers.exactly (negated l)).1 among)) resolves_set

    literal-at : (e : Entry) → slice_get t.entries position ≡ Some e → e.lit ≡ l
    literal-at e at_position = (let same : Some e ≡ Some at.entry = sym at_position ∙ at.at_position in let one : e ≡ at.entry = cc in ap (λ (f : Entry). f.lit) one) ∙ at.literal

    false-in : (m : Lit) → Contains resolvent m → MakesFalse (values_of (take position t.entries)) m
    false-in m held = elim ((resolves.union.members m).0 held) [
      | inl left ↦ fails-under t position l m at left.1 (All-contains (MakesFalse (values_of (take (position + 1) t.entries))) gathers.clause m gathers.resolving.falsified left.0)
      | inr right ↦
          let reason = reason-clause t position number l at read in
          reason.1.leaves.others m (subst (λ x. Contains x m) (number_one (numbering_of t) number d reason.0 has reason.1.has_number) right.0)
          (λ same. right.1 (same ∙ sym (negated-negated l)))
    ]
