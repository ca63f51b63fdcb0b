-- One key more is bound, and at the end all are.
use Rattle.std.proofs.lemmas.List.Elements.{All-more}
use Rattle.bspl_types.specs.Adornment.{Binds}
use Rattle.protocol_expand.proofs.Firsts.{all_passed}
use Rattle.protocol_expand.proofs.message_fault.first_missing.Goals as goal

pub loop-key-preserved : goal.loop-key-preserved
loop-key-preserved c = All-more (Binds c.args.carried.now) c.args.keys.now c.loop-key.key-index 0 c.loop-key-test.true c.loop-key.invariant (c.binds.ensures.0 c.if-not-binds.false)

pub returns : goal.returns
returns c = all_passed (Binds c.args.carried.now) c.args.keys.now c.loop-key.key-index c.loop-key-test.false c.loop-key.invariant
