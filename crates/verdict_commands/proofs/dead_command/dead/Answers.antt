-- Each message is answered, from the first one to the last.
use Rattle.std.proofs.Common.{◌≡◌, ◌<◌, length, refl, sym, ◌∙◌, ap, subst, arith}
use Rattle.bspl_types.specs.declared.expanded.Expanded.{Expanded}
use Rattle.report.specs.VerdictText.{protocol_line}
use Rattle.verdict_commands.proofs.MessageAnswers.{all_answered, answered_of, none_answered, one_answered, right_run_fits}
use Rattle.verdict_commands.proofs.dead_command.dead.Goals as goal

pub loop-message-init : goal.loop-message-init
loop-message-init c =
    let so_far = c.in_ok-so_far.so_far in
    let first = subst (λ (x : Expanded). so_far.text ≡ protocol_line x) c.expanded.ensures.same c.in_ok-so_far.ensures.text in
    (none_answered c.args.brief c.args.conflicts c.args.protocol.now so_far first c.in_ok-so_far.ensures.dead c.in_ok-so_far.ensures.undecided, c.in_ok-search.ensures)

pub enactable-requires-clause-known : goal.enactable-requires-clause-known
enactable-requires-clause-known c =
    let more = c.loop-message-test.true in
    let all = c.len-message-end.ensures ∙ ap (λ (x : Expanded). length x.messages) c.expanded-2.ensures.same in
    subst (λ (x : Expanded). c.loop-message.message < length x.messages) (sym c.loop-message.invariant.1) (omega (arith, more, all))

pub take-taken-requires-clause-fits : goal.take-taken-requires-clause-fits
take-taken-requires-clause-fits c =
    right_run_fits c.args.protocol.now c.loop-message.message c.args.conflicts c.in_ok-answer.answer (answered_of c.loop-message.search c.args.protocol.now c.loop-message.message c.conflicts.result c.args.conflicts c.in_ok-answer.answer c.loop-message.invariant.1 c.conflicts.ensures.same c.in_ok-answer.ensures.right)

pub loop-message-preserved : goal.loop-message-preserved
loop-message-preserved c =
    let m = c.loop-message.message in
    let answer = c.in_ok-answer.answer in
    let right = answered_of c.loop-message.search c.args.protocol.now m c.conflicts.result c.args.conflicts answer c.loop-message.invariant.1 c.conflicts.ensures.same c.in_ok-answer.ensures.right in
    let taken = c.in_ok-taken.ensures in
    (one_answered c.args.brief c.args.conflicts c.args.protocol.now m c.loop-message.so_far c.take-taken.new.self answer c.loop-message.invariant.0 right taken.text taken.dead taken.undecided, c.enactable.ensures.same ∙ c.loop-message.invariant.1)

pub returns : goal.returns
returns c =
    let so_far = c.loop-message.so_far in
    let all = c.len-message-end.ensures ∙ ap (λ (x : Expanded). length x.messages) c.expanded-2.ensures.same in
    let ended = c.loop-message-test.false in
    let within = c.loop-message.auto.message-end in
    all_answered c.args.brief c.args.conflicts c.args.protocol.now c.loop-message.message so_far so_far.text c.status.result c.loop-message.invariant.0 (omega (arith, all, ended, within)) refl c.status.ensures
