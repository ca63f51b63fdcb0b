-- The words come after the answer of `ask`.
use Rattle.std.proofs.Common.{◌≡◌}
use Rattle.ask_commands.specs.AskCommand.{ask_task}
use Rattle.more_commands.proofs.WordLemmas.{asked_words}
use Rattle.more_commands.proofs.explain_ask.explain_asked.Goals as goal

pub returns-clause-ok : goal.returns-clause-ok
returns-clause-ok c =
    let said = c.in_ok-with_words.ensures in
    asked_words (ask_task c.args.command.now) c.args.protocol.now c.args.given.now c.in_ok-reply.reply c.in_ok-with_words.field-0 _ c.in_ok-reply.ensures.ok c.ask_words-words.ensures said.0 said.1
