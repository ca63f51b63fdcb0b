-- The literal's variable is one of the assignment's.
use Rattle.std.proofs.Common.{◌≤◌, arith, length, subst, sym}
use Rattle.clause_core.specs.declared.literal.Lit.{Lit}
use Rattle.witness_replay.proofs.NumberingLemmas.{literal_within}
use Rattle.witness_replay.proofs.order.comes_before.Goals as goal

pub value-requires-clause-exists : goal.value-requires-clause-exists
value-requires-clause-exists c =
    let within = literal_within c.args.vars c.args.i c.args.j c.requires.kinds.0 c.requires.kinds.1 c.requires.apart in
    subst (λ (l : Lit). l.var ≤ length c.args.s.now) (sym c.before-lit.ensures) (omega (arith, within))

pub value-requires-else-lit-clause-exists : goal.value-requires-else-lit-clause-exists
value-requires-else-lit-clause-exists c =
    let within = literal_within c.args.vars c.args.i c.args.j c.requires.kinds.0 c.requires.kinds.1 c.requires.apart in
    subst (λ (l : Lit). l.var ≤ length c.args.s.now) (sym c.before-lit.ensures) (omega (arith, within))
