-- The rules are judged one after the other.
use Rattle.std.proofs.Common.{◌≡◌, ℕ, ◌+◌, ◌<◌, Bool, true, false, ◌||◌, List, [], ◌∷◌, ◌++◌, append-nil, get_or, length, map, take, refl, sym, ap, ◌∙◌, arith}
use Rattle.std.specs.List.{list_any}
use Rattle.std.proofs.lemmas.List.{flat_map_more, map_push, take_all, take_more}
use Rattle.std.proofs.lemmas.List.Elements.{All-push}
use Rattle.std.proofs.lemmas.List.Folds.{list_any-append}
use Rattle.bspl_types.specs.declared.expanded.Expanded.{Expanded}
use Rattle.protocol_rules.specs.declared.rule.Rule.{Rule}
use Rattle.protocol_rules.specs.declared.rule.Sense.{Sense}
use Rattle.protocol_rules.specs.Laws.{said_by}
use Rattle.question_answer.specs.declared.answer.Answer.{Answer}
use Rattle.question_answer.specs.Answer.{HasEvidence}
use Rattle.question_text.specs.Tree.{Phrase, phrase_of}
use Rattle.questions.specs.declared.question.Question.{Question}
use Rattle.tool_input.specs.declared.status.Status.{Status}
use Rattle.ask_commands.specs.declared.judged.Judged.{Judged}
use Rattle.ask_commands.specs.declared.options.AskOptions.{AskOptions}
use Rattle.ask_commands.specs.AskAnswer.{asked_protocol_line}
use Rattle.ask_commands.specs.Judgement.{IsRightlyJudged, JudgedRule, is_broken, is_judged_broken, is_left_open, is_unjudged, judged_rule_text, judgement_text, rules_status, said_of}
use Rattle.ask_commands.specs.RulesAnswer.{AreJudged}
use Rattle.ask_commands.specs.AskedRules.{IsQuestionOf}
use Rattle.ask_commands.specs.inner.Rules.{HasJudged}

-- before the first rule
pub none_judged : (x : Expanded) (options : AskOptions) (rules : List Rule) (so_far : Judged) → so_far.text ≡ asked_protocol_line x → so_far.broken ≡ false → so_far.unjudged ≡ false → HasJudged x options rules 0 so_far
none_judged x options rules so_far text broken unjudged = record {
  judged = [];
  one_each = refl;
  right = λ k d within. absurd (omega arith);
  text = text ∙ sym (append-nil (asked_protocol_line x));
  broken = broken;
  unjudged = unjudged;
}

-- whether one of the items and one more passes a test
any_more : {X : Type 0} (test : X → Bool) (xs : List X) (x : X) (before : Bool) → before ≡ list_any test xs → (before || test x) ≡ list_any test (xs ++ x ∷ [])
any_more test xs x before is = ap (λ b. b || test x) is ∙ sym (list_any-append test xs (x ∷ []) ∙ ap (λ b. list_any test xs || b) (or_false (test x))) where
  or_false : (b : Bool) → (b || false) ≡ b
  or_false true = refl
  or_false false = refl

-- after one rule more
pub one_judged : (x : Expanded) (options : AskOptions) (rules : List Rule) (count : ℕ) (rule : Rule) (q : Question) (old new : Judged) (answer : Answer) → HasJudged x options rules count old → count < length rules → get_or rules count rule ≡ rule → IsQuestionOf x rule q → HasEvidence x q options.conflicts answer → new.text ≡ old.text ++ judgement_text x options.brief rule.sense (phrase_of rule.question) answer → new.broken ≡ (old.broken || is_broken rule.sense answer) → new.unjudged ≡ (old.unjudged || is_unjudged answer) → HasJudged x options rules (count + 1) new
one_judged x options rules count rule q old new answer so_far within at asks right text broken unjudged =
    let before = so_far.judged in
    let j : JudgedRule = record { sense = rule.sense; phrase = phrase_of rule.question; question = q; answer = answer } in
    let more : take (count + 1) rules ≡ take count rules ++ rule ∷ [] = take_more rules count rule within ∙ ap (λ (r : Rule). take count rules ++ r ∷ []) at in
    let right_one : IsRightlyJudged x options.conflicts j = record { means = asks.means; right = right } in record {
      judged = before ++ j ∷ [];
      one_each = map_push said_of before j ∙ ap (λ (list : List (Sense × Phrase)). list ++ said_by rule ∷ []) so_far.one_each ∙ sym (map_push said_by (take count rules) rule) ∙ ap (map said_by) (sym more);
      right = All-push (IsRightlyJudged x options.conflicts) before j so_far.right right_one;
      text = text ∙ ap (λ (t : List ℕ). t ++ judged_rule_text x options.brief j) so_far.text ∙ flat_map_more (judged_rule_text x options.brief) (asked_protocol_line x) before j;
      broken = broken ∙ any_more is_judged_broken before j old.broken so_far.broken;
      unjudged = unjudged ∙ any_more is_left_open before j old.unjudged so_far.unjudged;
    }

-- after the last one
pub all_judged : (x : Expanded) (options : AskOptions) (rules : List Rule) (count : ℕ) (so_far : Judged) (out : List ℕ) (ends : Status) → HasJudged x options rules count so_far → count ≡ length rules → out ≡ so_far.text → ends ≡ rules_status so_far.broken so_far.unjudged → AreJudged x options rules out ends
all_judged x options rules count so_far out ends judged all text is = record {
  judged = judged.judged;
  one_each = judged.one_each ∙ ap (map said_by) (take_all count rules (omega (arith, all)));
  right = judged.right;
  text = text ∙ judged.text;
  ends_is = is ∙ ap (λ (b : Bool). rules_status b so_far.unjudged) judged.broken ∙ ap (λ (b : Bool). rules_status (list_any is_judged_broken judged.judged) b) judged.unjudged;
}
