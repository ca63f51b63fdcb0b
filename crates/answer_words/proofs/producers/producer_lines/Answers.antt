-- The line of one message more; at the end all are listed.
use Rattle.std.proofs.Common.{◌+◌, ◌<◌, drop, length, subst, sym, arith}
use Rattle.std.proofs.lemmas.List.{drop_all}
use Rattle.bspl_types.specs.Expansion.{message_of}
use Rattle.answer_words.proofs.ProducerLemmas.{HasListed, all_listed, next_message, none_listed, one_more}
use Rattle.answer_words.proofs.producers.producer_lines.Goals as goal

pub loop-message-init : goal.loop-message-init
loop-message-init c =
    let x = c.args.x.now in
    subst (HasListed x c.args.run.now c.args.param x.messages) (sym c.new-text.ensures) (none_listed x c.args.run.now c.args.param)

pub loop-message-preserved : goal.loop-message-preserved
loop-message-preserved c =
    let x = c.args.x.now in
    let m = c.loop-message.message in
    let within : m < length x.messages = omega arith in
    one_more x c.args.run.now c.args.param (message_of x m) (drop m x.messages) (drop (m + 1) x.messages) c.loop-message.text c.push_producer.new.text (next_message x.messages m within) c.loop-message.invariant c.in_ok-push_producer.ensures

pub returns : goal.returns
returns c =
    let x = c.args.x.now in
    let m = c.loop-message.message in
    all_listed x c.args.run.now c.args.param (drop m x.messages) c.loop-message.text (drop_all m x.messages (omega arith)) c.loop-message.invariant
