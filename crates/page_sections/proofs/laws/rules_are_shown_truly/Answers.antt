-- The word for a rule is that of a right answer.
use Rattle.std.proofs.Common.{◌≡◌, ℕ, List, codes, get_or, ap, arith}
use Rattle.ask_commands.specs.Claims.{KeepsRule}
use Rattle.ask_commands.specs.Judgement.{IsRightlyJudged, JudgedRule}
use Rattle.bspl_types.specs.declared.expanded.Expanded.{Expanded}
use Rattle.protocol_rules.specs.declared.rule.Sense.{Sense}
use Rattle.protocol_rules.specs.declared.rule.Sense.TheVariants as senses
use Rattle.question_answer.specs.declared.answer.Answer.{Answer}
use Rattle.question_answer.specs.declared.answer.Answer.TheVariants.{Impossible, Possible, Undecided}
use Rattle.question_answer.specs.Answer.{HasEvidence}
use Rattle.questions.specs.declared.question.Question.{Question}
use Rattle.page_sections.specs.Laws.{IsTrulyShown}
use Rattle.page_sections.specs.RulesSection.{rule_word}
use Rattle.page_sections.proofs.laws.rules_are_shown_truly.Goals as goal

-- the first letter of a word
first : List ℕ → ℕ
first text = get_or text 0 0

-- a rule that is said to be kept
kept_by : (x : Expanded) (sense : Sense) (q : Question) (budget : ℕ) (answer : Answer) → HasEvidence x q budget answer → rule_word sense answer ≡ codes "kept" → KeepsRule x sense q
unfolding first
kept_by x senses.Never q budget (Possible run) right is = absurd (let no : 98 ≡ 107 = ap first is in omega (arith, no))
kept_by x senses.Never q budget (Impossible log) right is = right.impossible
kept_by x senses.Never q budget (Undecided log) right is = absurd (let no : 117 ≡ 107 = ap first is in omega (arith, no))
kept_by x senses.Some q budget (Possible run) right is = right.possible
kept_by x senses.Some q budget (Impossible log) right is = absurd (let no : 98 ≡ 107 = ap first is in omega (arith, no))
kept_by x senses.Some q budget (Undecided log) right is = absurd (let no : 117 ≡ 107 = ap first is in omega (arith, no))

-- and one that is said to be broken
broken_by : (x : Expanded) (sense : Sense) (q : Question) (budget : ℕ) (answer : Answer) → HasEvidence x q budget answer → rule_word sense answer ≡ codes "broken" → ¬ KeepsRule x sense q
unfolding first
broken_by x senses.Never q budget (Possible run) right is = λ kept. kept right.possible
broken_by x senses.Never q budget (Impossible log) right is = absurd (let no : 107 ≡ 98 = ap first is in omega (arith, no))
broken_by x senses.Never q budget (Undecided log) right is = absurd (let no : 117 ≡ 98 = ap first is in omega (arith, no))
broken_by x senses.Some q budget (Possible run) right is = absurd (let no : 107 ≡ 98 = ap first is in omega (arith, no))
broken_by x senses.Some q budget (Impossible log) right is = λ kept. right.impossible kept
broken_by x senses.Some q budget (Undecided log) right is = absurd (let no : 117 ≡ 98 = ap first is in omega (arith, no))

-- what is said of a rule with a right answer
truly_shown : (x : Expanded) (budget : ℕ) (j : JudgedRule) → IsRightlyJudged x budget j → IsTrulyShown x j
truly_shown x budget j judged = record {
  kept = kept_by x j.sense j.question budget j.answer judged.right;
  broken = broken_by x j.sense j.question budget j.answer judged.right;
}

pub returns : goal.returns
returns c = λ x budget rules shown shows. λ k d within. truly_shown x budget (get_or shows.judged k d) (shows.right k d within)
