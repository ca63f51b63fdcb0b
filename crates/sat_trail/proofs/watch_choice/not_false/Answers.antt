-- A literal that was passed is the one that is kept, or false.
use Rattle.std.proofs.Common.{◌≢◌, subst}
use Rattle.clause_core.specs.declared.literal.Lit.{Lit}
use Rattle.clause_core.specs.Propagation.{MakesFalse}
use Rattle.sat_trail.specs.Entry.{values_of}
use Rattle.sat_trail.proofs.ForceLemmas.{PassedFalse-more, PassedFalse-all}
use Rattle.sat_trail.proofs.watch_choice.not_false.Goals as goal

pub loop-lit-preserved : goal.loop-lit-preserved
loop-lit-preserved c = PassedFalse-more _ _ _ _ c.lit-item.result c.loop-lit-test.true c.loop-lit.invariant
    (subst (λ (l : Lit). l ≢ c.args.kept → MakesFalse (values_of c.args.set.now.entries) l) c.lit-item.is c.if-may_move.ensures.no)

pub returns-clause-none : goal.returns-clause-none
returns-clause-none c = PassedFalse-all _ _ _ _ c.loop-lit-test.false c.loop-lit.invariant
