-- One entry after the other is passed.
use Rattle.std.proofs.Common.{sym, subst, arith}
use Rattle.sat_trail.specs.inner.Watches.{AreLinked}
use Rattle.sat_trail.proofs.WalkLemmas.{vars-extends}
use Rattle.sat_trail.proofs.GrowthLemmas.{Extends-more, Runs-more}
use Rattle.sat_trail.proofs.propagation.propagate_entries.Goals as goal

pub returns-in-Some-clause-extends : goal.returns-in-Some-clause-extends
returns-in-Some-clause-extends c = Extends-more _ _ _ c.loop-head.set _ c.loop-head.invariant.runs.extends c.propagate_entry.ensures.extends

pub propagate_entry-requires : goal.propagate_entry-requires
propagate_entry-requires c = record {
  fits = c.loop-head.invariant.runs.fits;
  within = omega (arith, c.loop-head-test.true, c.len.ensures);
  watched = c.loop-head.invariant.watched;
  linked = subst (λ vars. AreLinked vars c.loop-head.lists.cells.items c.loop-head.lists.heads.items)
      (sym (vars-extends _ _ c.loop-head.set _ c.loop-head.invariant.runs.extends)) c.loop-head.invariant.linked;
}

pub loop-head-preserved : goal.loop-head-preserved
loop-head-preserved c = record {
  runs = Runs-more _ _ _ c.loop-head.set _ c.loop-head.invariant.runs c.propagate_entry.ensures.extends;
  watched = c.in_default.ensures.passed;
  linked = subst (λ vars. AreLinked vars c.propagate_entry.new.lists.cells.items c.propagate_entry.new.lists.heads.items)
      (vars-extends _ _ c.loop-head.set _ c.loop-head.invariant.runs.extends) c.propagate_entry.ensures.linked;
}
