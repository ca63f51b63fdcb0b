-- Arguments ask for threads if their one task does.
use Rattle.std.proofs.Common.{◌≡◌, Some, sym, ◌∙◌}
use Rattle.bspl_tool.proofs.OneRequest.{threaded_request}
use Rattle.bspl_tool.proofs.call.is_threaded.Goals as goal

pub returns-in-Some : goal.returns-in-Some
returns-in-Some c = λ args is.
    let asked : c.args.request.now ≡ Some c.in-Some.question = sym c.asked.ensures ∙ c.in-Some.is in
    threaded_request c.one_line.ensures args c.in-Some.question.task c.in-Some.question.name.now c.is_threaded.result (rw asked at is) c.is_threaded.ensures
