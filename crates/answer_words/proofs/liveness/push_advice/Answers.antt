-- The parts come one after the other.
use Rattle.std.proofs.Common.{arith}
use Rattle.answer_words.proofs.WordLemmas.{advice_none, advice_some}
use Rattle.answer_words.proofs.TextLemmas.{three_parts}
use Rattle.answer_words.proofs.liveness.push_advice.Goals as goal
use Rattle.answer_words.specs.declared.wording.TheConstants as wording
use Rattle.answer_words.specs.declared.wording.verdicts.TheConstants as verdicts

pub returns-in_ok-append-in-empty-2 : goal.returns-in_ok-append-in-empty-2
returns-in_ok-append-in-empty-2 c =
    let name = c.args.name.now in
    let parts = three_parts c.args.text.now verdicts.NO_PRODUCER.now name verdicts.OTHERS_SUPPLY.now in
    rw (c.in_ok-append-in-empty-2.ensures.ok, c.in_ok-append-in-empty.ensures.ok, parts, advice_none name c.args.lines.now (omega arith)) at c.append-in-empty-2.ensures.ok

pub returns-in_ok-append-in-len1-up-2 : goal.returns-in_ok-append-in-len1-up-2
returns-in_ok-append-in-len1-up-2 c =
    let name = c.args.name.now in
    let parts = three_parts c.args.text.now verdicts.SOME_PRODUCER.now name wording.FULL_STOP.now in
    rw (c.in_ok-append-in-len1-up-2.ensures.ok, c.in_ok-append-in-len1-up.ensures.ok, parts, advice_some name c.args.lines.now (omega arith)) at c.append-in-len1-up-3.ensures.ok
