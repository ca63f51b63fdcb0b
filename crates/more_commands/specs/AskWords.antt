-- What an answer of `ask` means, by what was asked and by its status, and what to ask next.
use Rattle.std.specs.Prelude.{ℕ, List, []}
use Rattle.ask_commands.specs.AskTask.{AskTask, Check, Judge, Misput, Put}
use Rattle.more_commands.specs.declared.wording.question_words.TheConstants as words
use Rattle.tool_input.specs.declared.status.Status.{Status}
use Rattle.tool_input.specs.declared.status.Status.TheVariants as status

-- after the status 0
abbrev pub ask_done : AskTask → List ℕ
ask_done (Put phrase options) = words.POSSIBLE.now
ask_done (Misput r) = []
ask_done Check = words.ACCEPTED.now
ask_done (Judge options) = words.KEPT.now

-- after the status 1
abbrev pub ask_refuted : AskTask → List ℕ
ask_refuted (Put phrase options) = words.IMPOSSIBLE.now
ask_refuted (Misput r) = []
ask_refuted Check = words.NOT_ACCEPTED.now
ask_refuted (Judge options) = words.BROKEN.now

-- after the status 2
abbrev pub ask_undecided : AskTask → List ℕ
ask_undecided (Put phrase options) = words.UNDECIDED.now
ask_undecided (Misput r) = []
ask_undecided Check = []
ask_undecided (Judge options) = words.SOME_UNDECIDED.now

-- after each status of an answer
abbrev pub ask_words : AskTask → Status → List ℕ
ask_words task status.Done = ask_done task
ask_words task status.Refuted = ask_refuted task
ask_words task status.Undecided = ask_undecided task
ask_words task status.Usage = []
ask_words task status.Refused = []
