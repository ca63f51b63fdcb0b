-- What the sender knows has a first value.
use Rattle.std.proofs.Common.{IfSome, Option, subst}
use Rattle.bspl_types.specs.declared.value.Value.{Value}
use Rattle.bspl_types.specs.History.{history_of}
use Rattle.bspl_types.specs.Knowledge.{IsKnown}
use Rattle.role_knowledge.specs.FirstKnown.{IsFirstKnown}
use Rattle.witness_replay.proofs.ValueLemmas.{at_sender, from_sender}
use Rattle.witness_replay.proofs.values.first_known.Goals as goal

pub unwrap-requires : goal.unwrap-requires
unwrap-requires c =
    c.knows.ensures.exact.1
    (at_sender (λ events key. IsKnown c.args.x.now events key c.args.param) c.args.x.now c.args.before.now c.args.m c.message_at.result.now c.args.key.now c.message_at.ensures c.requires.ones c.requires.known)

pub returns : goal.returns
returns c =
    from_sender (λ events key. IsFirstKnown c.args.x.now events key c.args.param c.unwrap.result) c.args.x.now c.args.before.now c.args.m c.message_at.result.now c.args.key.now c.message_at.ensures c.requires.ones
    (subst (λ (o : Option Value). IfSome o (IsFirstKnown c.args.x.now (history_of c.args.x.now c.message_at.result.now.sender c.args.before.now) c.args.key.now c.args.param)) c.unwrap.ensures c.knows.ensures.first)
