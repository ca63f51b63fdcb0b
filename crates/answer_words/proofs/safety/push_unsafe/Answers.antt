-- Both events are in the run.
use Rattle.bspl_types.specs.Expansion.{param_name}
use Rattle.answer_words.specs.Safety.{event_words, second_words}
use Rattle.answer_words.proofs.NamedLemmas.{first_within, second_within}
use Rattle.answer_words.proofs.TextLemmas.{nine_parts}
use Rattle.answer_words.proofs.safety.push_unsafe.Goals as goal
use Rattle.answer_words.specs.declared.wording.TheConstants as wording
use Rattle.answer_words.specs.declared.wording.verdicts.TheConstants as verdicts

pub push_event-requires-clause-some : goal.push_event-requires-clause-some
push_event-requires-clause-some c = (first_within c.args.x.now c.args.run.now c.args.param c.args.first c.args.second c.requires).0

pub push_event-requires-clause-within : goal.push_event-requires-clause-within
push_event-requires-clause-within c = (first_within c.args.x.now c.args.run.now c.args.param c.args.first c.args.second c.requires).1

pub push_second-requires-clause-some : goal.push_second-requires-clause-some
push_second-requires-clause-some c = (second_within c.args.x.now c.args.run.now c.args.param c.args.first c.args.second c.requires).0

pub push_second-requires-clause-within : goal.push_second-requires-clause-within
push_second-requires-clause-within c = (second_within c.args.x.now c.args.run.now c.args.param c.args.first c.args.second c.requires).1

pub returns : goal.returns
returns c =
    let x = c.args.x.now in
    let run = c.args.run.now in
    let name = param_name x c.args.param in
    let parts = nine_parts c.args.text.now verdicts.NOT_SAFE.now name wording.FULL_STOP.now (event_words x run c.args.first) wording.FULL_STOP.now (second_words x run c.args.param c.args.second) verdicts.ONE_ROLE_DECIDES.now name verdicts.OTHERS_ASK.now in
    rw (c.in_ok-append-6.ensures.ok, c.in_ok-append-5.ensures.ok, c.in_ok-push_second.ensures, c.in_ok-append-4.ensures.ok, c.in_ok-push_event.ensures, c.in_ok-append-3.ensures.ok, c.in_ok-append-2.ensures.ok, c.in_ok-append.ensures.ok, c.param_name.ensures, c.param_name-2.ensures, parts) at c.append-7.ensures.ok
