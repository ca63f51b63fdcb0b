-- What an answer means, by its task and its status.
use Rattle.std.specs.Prelude.{ℕ, List, []}
use Rattle.bspl_tool.specs.declared.task.Task.{Task}
use Rattle.bspl_tool.specs.declared.task.Task.TheVariants as tasks
use Rattle.more_commands.specs.declared.wording.answers.TheConstants as answers
use Rattle.tool_input.specs.declared.status.Status.{Status}
use Rattle.tool_input.specs.declared.status.Status.TheVariants as status

-- after the status 0
abbrev pub after_done : Task → List ℕ
after_done tasks.Expand = answers.EXPANDED.now
after_done (tasks.Verify brief conflicts) = []
after_done tasks.Check = answers.PROVED.now
after_done tasks.CheckDead = answers.PROVED_DEAD.now
after_done tasks.Replay = answers.LEGAL.now
after_done tasks.Audit = answers.CONSISTENT.now
after_done tasks.Serve = answers.REPLIED.now
after_done (tasks.Dead brief conflicts) = answers.NONE_DEAD.now
after_done task = answers.PLAYED.now

-- after the status 1
abbrev pub after_refuted : Task → List ℕ
after_refuted tasks.Check = answers.NOT_PROVED.now
after_refuted tasks.CheckDead = answers.NOT_PROVED_DEAD.now
after_refuted tasks.Replay = answers.ILLEGAL.now
after_refuted tasks.Audit = answers.INCONSISTENT.now
after_refuted (tasks.Dead brief conflicts) = answers.SOME_DEAD.now
after_refuted (tasks.Run brief conflicts threads) = answers.REFUTED.now
after_refuted (tasks.Restart brief conflicts) = answers.REFUTED.now
after_refuted (tasks.Generate stages conflicts threads) = answers.REFUTED.now
after_refuted task = []

-- after the status 2
abbrev pub after_undecided : Task → List ℕ
after_undecided (tasks.Dead brief conflicts) = answers.SOME_UNDECIDED.now
after_undecided (tasks.Run brief conflicts threads) = answers.NOT_FOUND.now
after_undecided (tasks.Restart brief conflicts) = answers.NOT_FOUND.now
after_undecided (tasks.Generate stages conflicts threads) = answers.NOT_FOUND.now
after_undecided task = []

-- after each status of an answer
abbrev pub status_words : Task → Status → List ℕ
status_words task status.Done = after_done task
status_words task status.Refuted = after_refuted task
status_words task status.Undecided = after_undecided task
status_words task status.Usage = []
status_words task status.Refused = []
