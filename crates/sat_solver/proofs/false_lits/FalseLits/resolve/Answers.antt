-- The pivot is out, and the other literals of the clause come in one by one.
use Rattle.std.proofs.Common.{◌≡◌, ◌↔◌, IsTrue, false, cond, get_or, sym, ◌∙◌, rules}
use Rattle.std.proofs.lemmas.Bool.{iff_false}
use Rattle.clause_core.specs.declared.literal.Lit.{Lit}
use Rattle.sat_solver.specs.inner.Gathered.{is_current}
use Rattle.sat_solver.proofs.GatheringLemmas.{AreFalse-remove, ResolvesSet-none, ResolvesSet-skip, ResolvesSet-more}
use Rattle.sat_solver.proofs.false_lits.FalseLits.resolve.Goals as goal

-- the literal that a read past the end would give
abbrev blank : Lit
blank = record { var = 0; positive = false }

pub loop-lit-init : goal.loop-lit-init
loop-lit-init c = record {
  are_false = AreFalse-remove c.args.trail.now c.args.self.now c.args.pivot c.remove.new.self _ c.requires.are_false c.remove.ensures.set c.remove.ensures.vars c.remove.ensures.taken
      (let weighs : c.from.result ≡ cond (is_current c.args.trail.now c.args.pivot) 1 0 = search rules in weighs);
  resolved = ResolvesSet-none c.args.self.now.set.lits c.args.pivot c.args.reason.now c.remove.new.self.lits c.remove.ensures.taken;
}

pub loop-lit-preserved-then-eq : goal.loop-lit-preserved-then-eq
loop-lit-preserved-then-eq c =
    let test : IsTrue c.eq.result ↔ (get_or c.args.reason.now c.loop-lit.lit-index blank ≡ c.negation-forced.result) = search rules in record {
      are_false = c.loop-lit.invariant.are_false;
      resolved = ResolvesSet-skip c.args.self.now.set.lits c.args.pivot c.args.reason.now c.loop-lit.self.set.lits _ blank c.loop-lit-test.true (test.0 c.if-eq.true ∙ c.negation-forced.ensures.exact) c.loop-lit.invariant.resolved;
    }

pub loop-lit-preserved : goal.loop-lit-preserved
loop-lit-preserved c =
    let test : IsTrue c.eq.result ↔ (get_or c.args.reason.now c.loop-lit.lit-index blank ≡ c.negation-forced.result) = search rules in record {
      are_false = c.insert.ensures.are_false;
      resolved = ResolvesSet-more c.args.self.now.set.lits c.args.pivot c.args.reason.now c.loop-lit.self.set.lits c.insert.new.self.set.lits _ blank c.loop-lit-test.true
          (λ same. iff_false test c.if-eq.false (same ∙ sym c.negation-forced.ensures.exact)) c.loop-lit.invariant.resolved c.insert.ensures.inserted;
    }
