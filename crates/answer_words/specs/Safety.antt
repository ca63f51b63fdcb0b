-- The words of a verdict on safety.
use Rattle.std.specs.Prelude.{ℕ, List, ◌++◌, length}
use Rattle.bspl_types.specs.declared.event.Event.{Event}
use Rattle.bspl_types.specs.declared.expanded.Expanded.{Expanded}
use Rattle.bspl_types.specs.Expansion.{param_name, role_name}
use Rattle.list_base.specs.Numeral.{numeral}
use Rattle.verdict.specs.declared.outcome.Safety.{Safety}
use Rattle.verdict.specs.declared.outcome.Safety.TheVariants.{Safe, Undecided, Unsafe}
use Rattle.answer_words.specs.Messages.{message_phrase, nth_message}
use Rattle.answer_words.specs.declared.wording.TheConstants as wording
use Rattle.answer_words.specs.declared.wording.verdicts.TheConstants as verdicts

-- the n-th event of the run, and what it sends
abbrev pub event_words : Expanded → List Event → ℕ → List ℕ
event_words x run n =
    verdicts.EVENT.now ++ numeral n ++ verdicts.EVENT_IS.now ++
    message_phrase x (nth_message x run n)

-- the second producer, whose sender does not know what the first one decided
abbrev pub second_words : Expanded → List Event → ℕ → ℕ → List ℕ
second_words x run param n =
    event_words x run n ++ verdicts.AND_SENDER.now ++ role_name x (nth_message x run n).sender ++
    verdicts.DOES_NOT_KNOW.now ++ param_name x param ++ verdicts.BEFORE_IT.now

-- the two messages that clash over the parameter
abbrev pub unsafe_words : Expanded → List Event → ℕ → ℕ → ℕ → List ℕ
unsafe_words x run param first second =
    verdicts.NOT_SAFE.now ++ param_name x param ++ wording.FULL_STOP.now ++
    event_words x run first ++ wording.FULL_STOP.now ++ second_words x run param second ++
    verdicts.ONE_ROLE_DECIDES.now ++ param_name x param ++ verdicts.OTHERS_ASK.now

-- a property that the search did not decide, and how many conflicts it met
abbrev pub undecided_words : List ℕ → ℕ → List ℕ
undecided_words property conflicts =
    wording.WHAT_IS_WRONG.now ++ property ++ verdicts.IS_UNDECIDED.now ++ numeral conflicts ++
    wording.FULL_STOP.now ++ verdicts.LARGER_NUMBER.now

-- the words of the verdict
abbrev pub safety_words : Expanded → Safety → List ℕ
safety_words x (Safe log) = verdicts.SAFE.now
safety_words x (Unsafe run param first second) = unsafe_words x run param first second
safety_words x (Undecided log) = undecided_words verdicts.SAFETY.now (length log.steps)
