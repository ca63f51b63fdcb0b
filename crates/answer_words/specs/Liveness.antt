-- The words of a verdict on liveness.
use Rattle.std.specs.Prelude.{◌≡◌, ℕ, List, [], ◌∷◌, ◌++◌, length}
use Rattle.bspl_types.specs.declared.event.Event.{Event}
use Rattle.bspl_types.specs.declared.expanded.Expanded.{Expanded}
use Rattle.bspl_types.specs.Expansion.{param_name}
use Rattle.verdict.specs.declared.outcome.Liveness.{Liveness}
use Rattle.verdict.specs.declared.outcome.Liveness.TheVariants.{Live, NotLive, Undecided}
use Rattle.answer_words.specs.Producers.{ListsProducers}
use Rattle.answer_words.specs.Safety.{undecided_words}
use Rattle.answer_words.specs.declared.wording.TheConstants as wording
use Rattle.answer_words.specs.declared.wording.verdicts.TheConstants as verdicts

-- the parameter that stays unknown
abbrev pub unknown_words : List ℕ → List ℕ
unknown_words name = verdicts.NOT_LIVE.now ++ name ++ wording.FULL_STOP.now

-- what to do about it, after the lines of the messages that produce it, if there are any
abbrev pub not_live_advice : List ℕ → List ℕ → List ℕ
not_live_advice name [] = verdicts.NO_PRODUCER.now ++ name ++ verdicts.OTHERS_SUPPLY.now
not_live_advice name (byte ∷ lines) = verdicts.SOME_PRODUCER.now ++ name ++ wording.FULL_STOP.now

-- the parameter, what could produce it and what blocks that, and what to do
pub record IsNotLiveWords (x : Expanded) (run : List Event) (param : ℕ) (text : List ℕ)
    : Type 0 where
  pub lines : List ℕ
  pub listed : ListsProducers x run param x.messages lines
  pub is_text : let name = param_name x param in
      text ≡ unknown_words name ++ lines ++ not_live_advice name lines

-- the words of the verdict
abbrev pub IsLivenessWords : Expanded → Liveness → List ℕ → Type 0
IsLivenessWords x (Live log) text = text ≡ verdicts.LIVE.now
IsLivenessWords x (NotLive run param) text = IsNotLiveWords x run param text
IsLivenessWords x (Undecided log) text =
    text ≡ undecided_words verdicts.LIVENESS.now (length log.steps)
