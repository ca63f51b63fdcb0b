-- How the answer to the question of a rule judges the rule, and how that is written.
use Rattle.std.specs.Prelude.{ℕ, Bool, true, false, if◌then◌else◌, List, [], ◌∷◌, ◌++◌, length, codes}
use Rattle.bspl_types.specs.declared.expanded.Expanded.{Expanded}
use Rattle.list_base.specs.Lines.{line_of}
use Rattle.list_base.specs.Numeral.{numeral}
use Rattle.protocol_rules.specs.declared.rule.Sense.{Sense}
use Rattle.protocol_rules.specs.declared.rule.Sense.TheVariants as sense
use Rattle.question_answer.specs.declared.answer.Answer.{Answer}
use Rattle.question_answer.specs.declared.answer.Answer.TheVariants.{Impossible, Possible, Undecided}
use Rattle.question_answer.specs.Answer.{HasEvidence}
use Rattle.question_text.specs.Meaning.{MeansQuestion}
use Rattle.question_text.specs.Tree.{Phrase}
use Rattle.questions.specs.declared.question.Question.{Question}
use Rattle.tool_input.specs.declared.status.Status.{Status}
use Rattle.tool_input.specs.declared.status.Status.TheVariants as status
use Rattle.ask_commands.specs.AskAnswer.{phrase_spelling}
use Rattle.ask_commands.specs.AskAnswer.{possibility_evidence}

-- a rule, its question, and the answer to it
pub record JudgedRule : Type 0 where
  pub sense : Sense
  pub phrase : Phrase
  pub question : Question
  pub answer : Answer

-- the answer is right, with its evidence
pub record IsRightlyJudged (x : Expanded) (budget : ℕ) (j : JudgedRule) : Type 0 where
  pub means : MeansQuestion x j.phrase j.question
  pub right : HasEvidence x j.question budget j.answer

-- what is never to be is possible, or what is to be possible is not
abbrev pub is_broken : Sense → Answer → Bool
is_broken sense.Never (Possible run) = true
is_broken sense.Some (Impossible log) = true
is_broken sense answer = false

-- it is not known
abbrev pub is_unjudged : Answer → Bool
is_unjudged (Undecided log) = true
is_unjudged answer = false

-- the word of a sense
abbrev pub sense_word : Sense → List ℕ
sense_word sense.Never = codes "never"
sense_word sense.Some = codes "some"

-- the words of a judgement; of a search that came to its budget also how many steps its log has
abbrev pub judgement_words : Sense → Answer → List (List ℕ)
judgement_words sense (Undecided log) = codes "undecided" ∷ numeral (length log.steps) ∷ []
judgement_words sense answer =
    (if is_broken sense answer then codes "broken" else codes "kept") ∷ []

-- its line: these words, and the rule
abbrev pub judgement_line : Sense → List ℕ → Answer → List ℕ
judgement_line sense spelling answer =
    line_of (judgement_words sense answer ++ sense_word sense ∷ spelling ∷ [])

-- the line and its evidence: a log, unless the text is brief, or always the run
abbrev pub judgement_text : Expanded → Bool → Sense → Phrase → Answer → List ℕ
judgement_text x brief sense phrase answer =
    judgement_line sense (phrase_spelling phrase) answer ++
    possibility_evidence x (phrase_spelling phrase) brief answer

-- the same of a rule with its answer: what it says, whether it is broken or left open, its text
abbrev pub said_of : JudgedRule → Sense × Phrase
said_of j = (j.sense, j.phrase)

abbrev pub is_judged_broken : JudgedRule → Bool
is_judged_broken j = is_broken j.sense j.answer

abbrev pub is_left_open : JudgedRule → Bool
is_left_open j = is_unjudged j.answer

abbrev pub judged_rule_text : Expanded → Bool → JudgedRule → List ℕ
judged_rule_text x brief j = judgement_text x brief j.sense j.phrase j.answer

-- the status, by whether a rule is broken, which counts first, and whether one is not judged
abbrev pub rules_status : Bool → Bool → Status
rules_status true unjudged = status.Refuted
rules_status false true = status.Undecided
rules_status false false = status.Done
