-- The section of a page on the rules in a protocol's text.
use Rattle.std.specs.Prelude.{◌≡◌, ℕ, if◌then◌else◌, List, [], ◌∷◌, ◌++◌, codes, map}
use Rattle.std.specs.List.{All, flat_map}
use Rattle.ask_commands.specs.AskAnswer.{phrase_spelling}
use Rattle.ask_commands.specs.Judgement.{IsRightlyJudged, JudgedRule, is_broken, said_of, sense_word}
use Rattle.bspl_types.specs.declared.expanded.Expanded.{Expanded}
use Rattle.html.specs.Fragment.{Fragment, Tag, Words, as_html, fitted}
use Rattle.protocol_rules.specs.declared.rule.Rule.{Rule}
use Rattle.protocol_rules.specs.declared.rule.Sense.{Sense}
use Rattle.protocol_rules.specs.Laws.{said_by}
use Rattle.question_answer.specs.declared.answer.Answer.{Answer}
use Rattle.question_answer.specs.declared.answer.Answer.TheVariants.{Impossible, Possible, Undecided}
use Rattle.question_text.specs.Tree.{Phrase}
use Rattle.run_chart.specs.declared.finding.Finding.TheVariants.{Plain}
use Rattle.page_sections.specs.declared.wording.TheConstants.{RULE, RULES_START}
use Rattle.page_sections.specs.VerdictSections.{run_shown}

-- the word that the answer to its question gives a rule
abbrev pub rule_word : Sense → Answer → List ℕ
rule_word sense (Undecided log) = codes "undecided"
rule_word sense answer = if is_broken sense answer then codes "broken" else codes "kept"

-- that word, and the rule as it is spelled
abbrev pub rule_sentence : Sense → Phrase → Answer → List Fragment
rule_sentence sense phrase answer = fitted RULE.now
    (Tag (rule_word sense answer) ∷ Tag (sense_word sense) ∷ Words (phrase_spelling phrase) ∷ [])

-- the run of an answer, if it has one
abbrev pub answer_run : Expanded → Answer → List Fragment
answer_run x (Possible run) = run_shown x run Plain
answer_run x (Impossible log) = []
answer_run x (Undecided log) = []

-- the sentence of a rule, and the run
abbrev pub rule_shown : Expanded → Sense → Phrase → Answer → List Fragment
rule_shown x sense phrase answer = rule_sentence sense phrase answer ++ answer_run x answer

-- the same of a rule with its answer
abbrev pub judged_rule_shown : Expanded → JudgedRule → List Fragment
judged_rule_shown x j = rule_shown x j.sense j.phrase j.answer

-- the section: nothing of no rules, else its heading and each of them
abbrev pub rules_section : Expanded → List JudgedRule → List Fragment
rules_section x [] = []
rules_section x (j ∷ judged) = Tag RULES_START.now ∷ flat_map (judged_rule_shown x) (j ∷ judged)

-- each of the rules is judged rightly and shown, in order
pub record ShowsRules (x : Expanded) (budget : ℕ) (rules : List Rule) (shown : List Fragment)
    : Type 0 where
  pub judged : List JudgedRule
  pub one_each : map said_of judged ≡ map said_by rules
  pub right : All (IsRightlyJudged x budget) judged
  pub section : shown ≡ rules_section x judged

-- that is written after a text
pub record AppendsRules (x : Expanded) (budget : ℕ) (rules : List Rule) (old new : List ℕ)
    : Type 0 where
  pub shown : List Fragment
  pub shows : ShowsRules x budget rules shown
  pub text : new ≡ old ++ as_html shown
