-- How the line of an answer begins, as it is written.
use Rattle.std.specs.Prelude.{ℕ, if◌then◌else◌, List, ◌∷◌, ◌++◌, length, codes}
use Rattle.list_base.specs.Numeral.{numeral}
use Rattle.protocol_rules.specs.declared.rule.Sense.{Sense}
use Rattle.question_answer.specs.declared.answer.Answer.{Answer}
use Rattle.question_answer.specs.declared.answer.Answer.TheVariants.{Impossible, Possible, Undecided}
use Rattle.refutation_log.specs.declared.refutation.Log.{Log}
use Rattle.ask_commands.specs.Judgement.{is_broken}

-- of a search that came to its budget
abbrev pub undecided_front : Log → List ℕ
undecided_front log = codes "undecided" ++ 32 ∷ numeral (length log.steps)

-- the line of an answer up to the question
abbrev pub possibility_front : Answer → List ℕ
possibility_front (Possible run) = codes "possible"
possibility_front (Impossible log) = codes "impossible"
possibility_front (Undecided log) = undecided_front log

-- the line of a judgement up to the rule
abbrev pub judgement_front : Sense → Answer → List ℕ
judgement_front sense (Undecided log) = undecided_front log
judgement_front sense answer =
    if is_broken sense answer then codes "broken" else codes "kept"
