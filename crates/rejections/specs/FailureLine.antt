-- The line of the first failure of a log that is not accepted.
use Rattle.std.specs.Prelude.{ℕ, List, [], ◌++◌, codes}
use Rattle.std.specs.Fmt.{decimal}
use Rattle.log_checker.specs.declared.refusal.Reject.{Reject}
use Rattle.log_checker.specs.declared.refusal.Reject.TheVariants.{NoClause, NoDrop, NoMemory, NoPivot, NotEmpty}
use Rattle.tool_input.specs.Lines.{line}

-- the words for the first failure of a log
abbrev pub reject_words : Reject → List ℕ
reject_words (NoClause step) = codes "rejected step " ++ decimal step ++ codes " clause"
reject_words (NoPivot step link) =
    codes "rejected step " ++ decimal step ++ codes " link " ++ decimal link
reject_words (NoDrop after item) =
    codes "rejected drop " ++ decimal after ++ codes " " ++ decimal item
reject_words NotEmpty = codes "rejected not-empty"
reject_words NoMemory = []

-- their line
abbrev pub reject_line : Reject → List ℕ
reject_line reject = line (reject_words reject)
