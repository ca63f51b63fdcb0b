-- What arguments by their kinds request, the arguments request.
use Rattle.std.proofs.Common.{map, string_bytes}
use Rattle.std.proofs.lemmas.Result.{IfOk-weaker}
use Rattle.ask_commands.specs.AskCommand.{IsAskRequest}
use Rattle.ask_commands.specs.inner.Request.{IsRequestByKind, by_kind_of}
use Rattle.ask_commands.proofs.RequestLemmas.{by_kind_requested}
use Rattle.ask_commands.proofs.request.ask_request.Goals as goal

pub returns-in-Some : goal.returns-in-Some
returns-in-Some c =
    let args = map string_bytes c.args.args.now in
    let sorted = rw c.in-Some.is at c.in_ok-sorted.ensures in
    IfOk-weaker c.request_by_kind.result (IsRequestByKind (by_kind_of c.in-Some.sorted)) (IsAskRequest args)
    (λ found. by_kind_requested args (by_kind_of c.in-Some.sorted) found sorted) c.request_by_kind.ensures
