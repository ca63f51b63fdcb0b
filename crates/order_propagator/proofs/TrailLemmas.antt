-- What every trail keeps, kept by the whole formula.
use Rattle.std.proofs.Common.{◌≡◌, ℕ, ◌+◌, ◌-◌, ◌<◌, ◌≤◌, Bool, Option, IsTrue, option_map, List, ◌∷◌, ◌++◌, inl, inr, map, sym, ap, ◌∙◌, subst, arith, Contains}
use Rattle.std.proofs.lemmas.List.Elements.{All-contains, All-map, Contains-append_right}
use Rattle.list_base.proofs.Members.{here}
use Rattle.clause_core.specs.declared.literal.Lit.{Lit}
use Rattle.clause_core.specs.Clause.{VariablesExist}
use Rattle.clause_core.specs.Numbering.{numbered, HasNumber, live}
use Rattle.clause_core.specs.Propagation.{LeavesOnly, IsPropagated}
use Rattle.order_axioms.specs.declared.order.Order.{Order}
use Rattle.order_axioms.specs.Order.{ClausesForbidCycles, order_list}
use Rattle.sat_trail.specs.declared.entry.Entry.{Entry}
use Rattle.sat_trail.specs.Entry.{values_of, up_to}
use Rattle.sat_trail.specs.Growth.{IsDecision, MayBeSet}
use Rattle.sat_trail.specs.Levels.{HasCauses, IsPropagatedBelow}
use Rattle.sat_trail.specs.State.{numbering_of}
use Rattle.sat_trail.specs.Trail.{IsTrail, ClausesExist}
use Rattle.order_propagator.specs.declared.named_trail.NamedTrail.{NamedTrail}
use Rattle.order_propagator.specs.inner.Closed.{IsTransitive}
use Rattle.order_propagator.specs.inner.Making.{CanMake}
use Rattle.order_propagator.specs.inner.Names.{AreNamed, ArePlaces, name_of}
use Rattle.order_propagator.specs.inner.Whole.{renamed, whole_clauses, whole_state}
use Rattle.order_propagator.proofs.EntryLemmas.{last_level-renamed, up_to-renamed, value-renamed, values-renamed}
use Rattle.order_propagator.proofs.LevelLemmas.{before-decision, levels-renamed}
use Rattle.order_propagator.proofs.MapLemmas.{mapped_split}
use Rattle.order_propagator.proofs.NumberLemmas.{name-of-clause, number-among, whole-cases, whole-named}
use Rattle.order_propagator.proofs.RuleLemmas.{transitive_propagated}

-- the clauses of the order and those of the trail make up the whole formula
pub propagated-whole : (order : Order) (clauses : List (Option (List Lit))) (places : List ℕ) (values : ℕ → Option Bool) → IsPropagated values (numbered (order_list order)) → IsPropagated values (live clauses) → IsPropagated values (live (whole_clauses order clauses places))
propagated-whole order clauses places values first rest = record {
  no_false = λ n c has. elim (whole-cases order clauses places n c has) [
    | inl of_order ↦ first.no_false n c of_order
    | inr stored ↦ rest.no_false stored.0 c stored.1
  ];
  no_unit = λ n c l has. elim (whole-cases order clauses places n c has) [
    | inl of_order ↦ first.no_unit n c l of_order
    | inr stored ↦ rest.no_unit stored.0 c l stored.1
  ];
}

-- a clause of the trail is in the whole formula under its name
pub number-whole : (order : Order) (clauses : List (Option (List Lit))) (names places : List ℕ) (number : ℕ) (c : List Lit) → AreNamed order clauses names → ArePlaces order names places → HasNumber (live clauses) number c → HasNumber (live (whole_clauses order clauses places)) (name_of names number) c
number-whole order clauses names places number c named are_places has = record {
  there = whole-named order clauses names places number (name_of names number) named are_places (name-of-clause order clauses names number c named has) ∙ has.there;
}

module _ (order : Order) (t : NamedTrail) (places : List ℕ) (ready : Bool) (law : ClausesForbidCycles) (can : CanMake order t) (are_places : ArePlaces order t.names places) where
  -- under the values before a decision, unit propagation has nothing to do
  propagated-before : (before after : List Entry) (e : Entry) → t.trail.entries ≡ before ++ e ∷ after → IsDecision (numbering_of t.trail) before e → IsPropagated (values_of before) (live (whole_clauses order t.trail.clauses places))
  propagated-before before after e whole decision =
      let levels = can.trail.levels in
      let above : 0 < e.level = omega (arith, decision.raises) in
      let reached : e.level ≤ t.trail.level = All-contains (λ (d : Entry). d.level ≤ t.trail.level) t.trail.entries e levels.highest
      (subst (λ es. Contains es e) (sym whole) (Contains-append_right before (e ∷ after) e (here e after))) in
      let lower : IsTransitive order (values_of before) = subst (λ es. IsTransitive order (values_of es)) (before-decision t.trail before after e levels whole decision.no_reason above)
      (can.below (e.level - 1) (omega (arith, above, reached))) in
      propagated-whole order t.trail.clauses places (values_of before) (transitive_propagated order (values_of before) law lower) decision.propagated

  -- an entry has its cause among the clauses of the whole formula
  cause-renamed : (before after : List Entry) (e : Entry) → t.trail.entries ≡ before ++ e ∷ after → MayBeSet (numbering_of t.trail) before e → MayBeSet (live (whole_clauses order t.trail.clauses places)) (map (renamed t.names) before) (renamed t.names e)
  cause-renamed before after e whole set = record {
    no_value = value-renamed t.names before e.lit.var ∙ set.no_value;
    cause = elim set.cause [
      | inl decision ↦ inl (record {
        no_reason = ap (option_map (name_of t.names)) decision.no_reason;
        raises = decision.raises ∙ ap (λ n. n + 1) (sym (last_level-renamed t.names before));
        propagated = subst (λ values. IsPropagated values (live (whole_clauses order t.trail.clauses places))) (sym (values-renamed t.names before)) (propagated-before before after e whole decision);
      })
      | inr forced ↦ inr (record {
        number = name_of t.names forced.number;
        clause = forced.clause;
        reason = ap (option_map (name_of t.names)) forced.reason;
        has_number = number-whole order t.trail.clauses t.names places forced.number forced.clause can.named are_places forced.has_number;
        leaves = subst (λ values. LeavesOnly values forced.clause e.lit) (sym (values-renamed t.names before)) forced.leaves;
        stays = forced.stays ∙ sym (last_level-renamed t.names before);
      })
    ];
  }

  causes-whole : HasCauses (whole_state order t places ready)
  causes-whole before after e whole =
      let split = mapped_split (renamed t.names) t.trail.entries before e after whole in
      let cause = cause-renamed split.first split.last split.middle split.whole (can.trail.causes split.first split.last split.middle split.whole) in
      subst (λ es. MayBeSet (live (whole_clauses order t.trail.clauses places)) es e) split.before_is
      (subst (MayBeSet (live (whole_clauses order t.trail.clauses places)) (map (renamed t.names) split.first)) split.item_is cause)

  below-whole : IsPropagatedBelow (whole_state order t places ready)
  below-whole level lower =
      subst (λ es. IsPropagated (values_of es) (live (whole_clauses order t.trail.clauses places))) (sym (up_to-renamed t.names level t.trail.entries))
      (subst (λ values. IsPropagated values (live (whole_clauses order t.trail.clauses places))) (sym (values-renamed t.names (up_to level t.trail.entries)))
      (propagated-whole order t.trail.clauses places (values_of (up_to level t.trail.entries))
      (transitive_propagated order (values_of (up_to level t.trail.entries)) law (can.below level lower)) (can.trail.below level lower)))

  clauses-whole : ClausesExist (whole_state order t places ready)
  clauses-whole n c has = elim (whole-cases order t.trail.clauses places n c has) [
    | inl of_order ↦ All-contains (VariablesExist t.trail.vars) (order_list order) c can.exist (number-among (order_list order) n c of_order)
    | inr stored ↦ can.trail.clauses_exist stored.0 c stored.1
  ]

  -- what every trail keeps
  pub trail-whole : (IsTrue ready → IsTransitive order (values_of t.trail.entries) × IsTrue t.trail.ready) → IsTrail (whole_state order t places ready)
  trail-whole rest = record {
    levels = levels-renamed order t places ready can.trail.levels;
    causes = causes-whole;
    below = below-whole;
    exist = All-map (λ (e : Entry). (0 < e.lit.var) × (e.lit.var ≤ t.trail.vars)) (renamed t.names) t.trail.entries can.trail.exist;
    clauses_exist = clauses-whole;
    ready_propagated = λ is_ready.
        subst (λ values. IsPropagated values (live (whole_clauses order t.trail.clauses places))) (sym (values-renamed t.names t.trail.entries))
        (propagated-whole order t.trail.clauses places (values_of t.trail.entries) (transitive_propagated order (values_of t.trail.entries) law (rest is_ready).0) (can.trail.ready_propagated (rest is_ready).1));
  }
