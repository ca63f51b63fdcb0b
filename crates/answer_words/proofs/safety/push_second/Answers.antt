-- The parts come one after the other.
use Rattle.bspl_types.specs.Expansion.{param_name, role_name}
use Rattle.answer_words.specs.Messages.{nth_message}
use Rattle.answer_words.specs.Safety.{event_words}
use Rattle.answer_words.proofs.TextLemmas.{six_parts}
use Rattle.answer_words.proofs.safety.push_second.Goals as goal
use Rattle.answer_words.specs.declared.wording.verdicts.TheConstants as verdicts

pub returns : goal.returns
returns c =
    let x = c.args.x.now in
    let run = c.args.run.now in
    let parts = six_parts c.args.text.now (event_words x run c.args.n) verdicts.AND_SENDER.now (role_name x (nth_message x run c.args.n).sender) verdicts.DOES_NOT_KNOW.now (param_name x c.args.param) verdicts.BEFORE_IT.now in
    rw (c.in_ok-append-4.ensures.ok, c.in_ok-append-3.ensures.ok, c.in_ok-append-2.ensures.ok, c.in_ok-append.ensures.ok, c.in_ok-push_event.ensures, c.param_name.ensures, c.role_name.ensures, c.nth_message.ensures, parts) at c.append-5.ensures.ok
