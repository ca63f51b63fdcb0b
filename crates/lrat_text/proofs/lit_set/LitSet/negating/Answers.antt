-- The negation of one literal more is in the set.
use Rattle.std.proofs.Common.{false}
use Rattle.clause_core.specs.declared.literal.Lit.{Lit}
use Rattle.lrat_text.proofs.LitSetLemmas.{none_held, one_negation_more}
use Rattle.lrat_text.proofs.lit_set.LitSet.negating.Goals as goal

-- the literal that a read past the end would give
abbrev blank : Lit
blank = record { var = 0; positive = false }

pub loop-lit-init : goal.loop-lit-init
loop-lit-init c = none_held c.new.result c.new.ensures.empty

pub loop-lit-preserved : goal.loop-lit-preserved
loop-lit-preserved c =
    one_negation_more c.insert.new.self.ranks c.args.lits.now c.loop-lit.lit-index blank c.loop-lit-test.true (rw c.negation.ensures.exact at c.in_ok-insert.ensures _ c.loop-lit.invariant)
