-- What is said of a message by name.
use Rattle.std.specs.Prelude.{ℕ, List, ◌++◌}
use Rattle.std.specs.Fmt.{decimal}
use Rattle.verdict_commands.specs.declared.wording.TheConstants.{DEAD, ENACTED, MESSAGE, UNDECIDED}

-- that no legal run emits it
abbrev pub dead_line : List ℕ → List ℕ
dead_line name = MESSAGE.now ++ name ++ DEAD.now

-- that some legal run emits it
abbrev pub enacted_line : List ℕ → List ℕ
enacted_line name = MESSAGE.now ++ name ++ ENACTED.now

-- that the search came to its budget, with the steps of its log
abbrev pub undecided_message_line : List ℕ → ℕ → List ℕ
undecided_message_line name steps = MESSAGE.now ++ name ++ UNDECIDED.now ++ decimal steps
