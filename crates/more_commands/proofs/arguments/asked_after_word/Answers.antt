-- The request after the word `ask`.
use Rattle.std.proofs.Common.{◌≡◌, ℕ, List, ◌∷◌, map, refl, ap}
use Rattle.std.specs.Prelude.{Option, string_bytes}
use Rattle.std.proofs.lemmas.Result.{IfOk-weaker}
use Rattle.ask_commands.specs.AskCommand.{IsAskRequest}
use Rattle.ask_commands.specs.declared.command.AskRequest.{AskRequest}
use Rattle.more_commands.specs.declared.wording.TheConstants as wording
use Rattle.more_commands.specs.inner.Question.{IsAskedAfterWord}
use Rattle.more_commands.proofs.RequestLemmas.{asked_after}
use Rattle.more_commands.proofs.arguments.asked_after_word.Goals as goal

pub returns-then-is_ask : goal.returns-then-is_ask
returns-then-is_ask c =
    let args = map string_bytes c.args.args.now in
    let rest = map string_bytes c.in-Some.rest.now in
    let whole = ap (map string_bytes) c.in-Some.ensures.cases.0 in
    let is = c.if-is_ask.ensures.0 refl in
    let same : map string_bytes c.args.args.now ≡ wording.ASK.now ∷ map string_bytes c.in-Some.rest.now = cc (whole, is) in
    IfOk-weaker c.ask_request.result (IsAskRequest rest) (IsAskedAfterWord args) (λ found is. asked_after args rest found same is) c.ask_request.ensures
