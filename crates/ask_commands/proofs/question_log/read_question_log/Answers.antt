-- The log follows its first line, or what is there is refused.
use Rattle.std.proofs.Common.{arith}
use Rattle.ask_commands.proofs.CheckLemmas.{log_on, not_asked, not_titled, rest_is_short, rest_refused, spelling_is_short, title_of}
use Rattle.ask_commands.proofs.question_log.read_question_log.Goals as goal

pub returns-in_default-clause-refused : goal.returns-in_default-clause-refused
returns-in_default-clause-refused c =
    rw c.bad_title.ensures (not_titled c.args.x.now c.args.part.now (λ title. c.in_default.ensures title.version title.spelling title.rest title.titled))

pub spelled_question-requires : goal.spelled_question-requires
spelled_question-requires c = spelling_is_short c.args.part.now c.in-Some.spelling.now c.in-Some.rest.now c.in-Some.version c.in-Some.ensures c.requires

pub returns-in_default-2-clause-refused : goal.returns-in_default-2-clause-refused
returns-in_default-2-clause-refused c =
    let none = rw c.in_default-2.is at c.in_ok-question.ensures.exact in
    rw c.bad_title-in_default-2.ensures (not_titled c.args.x.now c.args.part.now (not_asked c.titled_once.ensures c.args.x.now c.args.part.now c.in-Some.spelling.now c.in-Some.rest.now c.in-Some.version c.in-Some.ensures none))

pub returns-in-Ok-clause-ok : goal.returns-in-Ok-clause-ok
returns-in-Ok-clause-ok c =
    let asks = rw c.in-Some-2.is at c.in_ok-question.ensures.exact in
    log_on c.args.x.now c.args.part.now c.in-Some.spelling.now c.in-Some.rest.now c.in-Some.version c.in-Some-2.question c.in-Ok.log c.in-Some.ensures asks c.in-Ok.ensures.ok

pub returns-in-Ok-clause-about : goal.returns-in-Ok-clause-about
returns-in-Ok-clause-about c = rw c.in-Some-2.is at c.in_ok-question.ensures.about

pub returns-in-Ok-clause-few : goal.returns-in-Ok-clause-few
returns-in-Ok-clause-few c =
    let steps = c.question_steps_are_fewer_than_bytes.ensures c.in-Some.version c.in-Some.rest.now c.in-Ok.log c.in-Ok.ensures.ok in
    let rest = rest_is_short c.args.part.now c.in-Some.spelling.now c.in-Some.rest.now c.in-Some.version c.in-Some.ensures in
    omega (arith, steps, rest, c.requires)

pub returns-in-Err-clause-refused : goal.returns-in-Err-clause-refused
returns-in-Err-clause-refused c =
    let asks = rw c.in-Some-2.is at c.in_ok-question.ensures.exact in
    let title = title_of c.args.x.now c.args.part.now c.in-Some.spelling.now c.in-Some.rest.now c.in-Some.version c.in-Some-2.question c.in-Some.ensures asks in
    rw (c.error_for.ensures, c.log_rejection.ensures) (rest_refused c.args.x.now c.args.part.now title c.in-Err.refusal c.in-Err.ensures.refused)
