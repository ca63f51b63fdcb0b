-- One name more, and all of them.
use Rattle.protocol_names.specs.Fault.{IsUnknown}
use Rattle.protocol_names.proofs.FaultOrderLemmas.{finds_all, finds_more}
use Rattle.protocol_names.proofs.items.unknown_in.Goals as goal

pub loop-word-preserved : goal.loop-word-preserved
loop-word-preserved c = finds_more (IsUnknown c.args.declared.now) c.args.words.now c.loop-word.word-index c.word-item.result _ _ _ c.loop-word-test.true c.word-item.is c.loop-word.invariant c.unknown_fault.ensures c.earlier-first.ensures

pub returns : goal.returns
returns c = finds_all (IsUnknown c.args.declared.now) c.args.words.now c.loop-word.word-index c.loop-word.first c.loop-word-test.false c.loop-word.invariant
