-- The walk goes over the clauses that watch the literal, one after the other.
use Rattle.std.proofs.Common.{◌≤◌, ◌<◌, sym, subst, arith, ◌∙◌, rules}
use Rattle.clause_core.specs.declared.literal.Lit.{Lit}
use Rattle.sat_trail.proofs.GrowthLemmas.{Extends-more}
use Rattle.sat_trail.proofs.WalkLemmas.{walking-start, walking-visits, walking-linked, walking-ended, walking-passed, false-extends, walking-stayed, walking-failed, walking-moved}
use Rattle.sat_trail.proofs.propagation.propagate_entry.Goals as goal
use Rattle.sat_trail.proofs.propagation.propagate_entry.Goals.{in-Stays, in-Moves}

pub loop-passed-init : goal.loop-passed-init
loop-passed-init c = record {
  walking = walking-start c.args.store.now c.args.set.now _ _ _ _ c.of-lit.result _ c.requires.fits c.requires.watched c.requires.linked
      (subst (λ (k : Lit). (0 < k.var) × (k.var ≤ c.args.set.now.vars)) (sym (c.of-lit.ensures ∙ c.negation.ensures.exact)) (c.at.ensures.from_one, c.at.ensures.exists))
      c.first-number.ensures;
  cells = search rules;
}

pub returns-then-number-eq0-clause-passed : goal.returns-then-number-eq0-clause-passed
returns-then-number-eq0-clause-passed c =
    walking-passed c.args.store.now c.args.set.now c.loop-passed.set c.loop-passed.lists.cells.items c.loop-passed.lists.heads.items c.args.level c.args.position c.of-lit.result c.loop-passed.before c.loop-passed.number c.loop-passed._passed c.loop-passed.invariant.walking c.if-number-eq0.true
    (false-extends c.args.store.now c.args.set.now c.loop-passed.set c.args.level c.args.position c.of-lit.result c.loop-passed.invariant.walking.runs.extends
    (record { entry = c.at.result; there = c.at.ensures.entry; fails = sym (c.of-lit.ensures ∙ c.negation.ensures.exact) }))

pub returns-then-number-eq0-clause-linked : goal.returns-then-number-eq0-clause-linked
returns-then-number-eq0-clause-linked c = walking-linked _ _ _ _ _ _ _ _ _ _ _ c.loop-passed.invariant.walking

pub visit_clause-requires : goal.visit_clause-requires
visit_clause-requires c =
    (walking-visits _ _ _ _ _ _ _ _ _ _ _ c.loop-passed.invariant.walking c.if-number-eq0.false
    (false-extends c.args.store.now c.args.set.now c.loop-passed.set c.args.level c.args.position c.of-lit.result c.loop-passed.invariant.walking.runs.extends
    (record { entry = c.at.result; there = c.at.ensures.entry; fails = sym (c.of-lit.ensures ∙ c.negation.ensures.exact) }))
    (subst (λ (k : Lit). (0 < k.var) × (k.var ≤ c.args.set.now.vars)) (sym (c.of-lit.ensures ∙ c.negation.ensures.exact)) (c.at.ensures.from_one, c.at.ensures.exists)))

pub returns-in-Fails-clause-extends : goal.returns-in-Fails-clause-extends
returns-in-Fails-clause-extends c = Extends-more _ _ _ c.loop-passed.set _ c.loop-passed.invariant.walking.runs.extends c.visit_clause.ensures.extends

pub returns-in-Fails-clause-linked : goal.returns-in-Fails-clause-linked
returns-in-Fails-clause-linked c = walking-failed _ _ _ c.visit_clause.new.set _ _ _ _ _ _ _ _ _ _ c.loop-passed.invariant.walking c.in-Fails.ensures.visit

pub loop-passed-preserved : goal.loop-passed-preserved
loop-passed-preserved c = record {
  walking = elim c.match-visit_clause.branch [
    | in-Stays w ↦ rw (w.before-is, w.number-is) (walking-stayed _ _ _ c.visit_clause.new.set _ _ _ _ _ _ _ _ _ _ _ c.loop-passed.invariant.walking c.if-number-eq0.false c.visit_clause.ensures.extends c.visit_clause.ensures.watched w.in-Stays.ensures.visit)
    | in-Moves w ↦ rw (w.before-is, w.number-is) (walking-moved _ _ _ c.visit_clause.new.set _ _ _ _ _ _ _ _ _ _ _ c.loop-passed.invariant.walking c.if-number-eq0.false c.visit_clause.ensures.extends c.visit_clause.ensures.watched c.visit_clause.ensures.linked w.in-Moves.ensures.visit)
  ];
  cells = c.visit_clause.ensures.linked.cells_as_many ∙ c.loop-passed.invariant.cells;
}

pub returns-clause-passed : goal.returns-clause-passed
returns-clause-passed c =
    walking-passed c.args.store.now c.args.set.now c.loop-passed.set c.loop-passed.lists.cells.items c.loop-passed.lists.heads.items c.args.level c.args.position c.of-lit.result c.loop-passed.before c.loop-passed.number c.loop-passed._passed c.loop-passed.invariant.walking
    (walking-ended _ _ _ _ _ _ _ _ _ _ _ c.loop-passed.invariant.walking (omega (arith, c.loop-passed.invariant.cells, c.loop-passed-test.false)))
    (false-extends c.args.store.now c.args.set.now c.loop-passed.set c.args.level c.args.position c.of-lit.result c.loop-passed.invariant.walking.runs.extends
    (record { entry = c.at.result; there = c.at.ensures.entry; fails = sym (c.of-lit.ensures ∙ c.negation.ensures.exact) }))

pub returns-clause-linked : goal.returns-clause-linked
returns-clause-linked c = walking-linked _ _ _ _ _ _ _ _ _ _ _ c.loop-passed.invariant.walking
