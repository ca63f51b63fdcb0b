-- The bytes are cut at the first LF, and the line before it is a first line or none.
use Rattle.question_answer.proofs.TitleLemmas.{line_titled, titled_by, untitled}
use Rattle.question_answer.proofs.title.split_title.Goals as goal

pub returns-in_err-rest : goal.returns-in_err-rest
returns-in_err-rest c =
    let whole = rw c.in_err-rest.was at c.split_once.ensures.whole in
    rw c.from_residual.ensures (λ version spelling rest. untitled c.args.text.now version spelling rest (rw whole c.split_once.ensures.first))

pub returns-in_err-version : goal.returns-in_err-version
returns-in_err-version c =
    let whole = rw c.in_ok-rest.was at c.split_once.ensures.whole in
    rw c.from_residual-in_err-version.ensures
    (λ version spelling rest is. c.in_err-version.ensures version spelling (line_titled c.args.text.now c.split_once.result.0.now c.in_ok-rest.rest.now version spelling rest c.split_once.ensures.first whole is))

pub returns : goal.returns
returns c =
    let whole = rw c.in_ok-rest.was at c.split_once.ensures.whole in
    titled_by c.args.text.now c.split_once.result.0.now c.in_ok-rest.rest.now c.in_ok-version.version c.in_ok-version.spelling.now c.split_once.ensures.first whole c.in_ok-version.ensures
