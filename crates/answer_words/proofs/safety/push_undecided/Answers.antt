-- The parts come one after the other.
use Rattle.list_base.specs.Numeral.{numeral}
use Rattle.answer_words.proofs.TextLemmas.{six_parts}
use Rattle.answer_words.proofs.safety.push_undecided.Goals as goal
use Rattle.answer_words.specs.declared.wording.TheConstants as wording
use Rattle.answer_words.specs.declared.wording.verdicts.TheConstants as verdicts

pub returns : goal.returns
returns c =
    let parts = six_parts c.args.text.now wording.WHAT_IS_WRONG.now c.args.property.now verdicts.IS_UNDECIDED.now (numeral c.args.conflicts) wording.FULL_STOP.now verdicts.LARGER_NUMBER.now in
    rw (c.in_ok-append-4.ensures.ok, c.in_ok-push_decimal.ensures, c.in_ok-append-3.ensures.ok, c.in_ok-append-2.ensures.ok, c.in_ok-append.ensures.ok, parts) at c.append-5.ensures.ok
