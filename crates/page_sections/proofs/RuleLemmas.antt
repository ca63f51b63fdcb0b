-- The rules are shown one after the other.
use Rattle.std.proofs.Common.{◌≡◌, ℕ, zero, suc, ◌+◌, ◌<◌, ◌≤◌, List, [], ◌∷◌, ◌++◌, append-nil, get_or, length, map, take, refl, sym, ap, subst, ◌∙◌, arith}
use Rattle.std.specs.List.{All, AllZip, flat_map}
use Rattle.std.proofs.lemmas.List.{length-map, map_push, take_all, take_more}
use Rattle.std.proofs.lemmas.List.Elements.{All-cons, All-nil, All-push}
use Rattle.ask_commands.specs.AskedRules.{IsQuestionOf}
use Rattle.ask_commands.specs.Judgement.{IsRightlyJudged, JudgedRule, said_of}
use Rattle.bspl_types.specs.declared.expanded.Expanded.{Expanded}
use Rattle.html.specs.Fragment.{Fragment, Tag, as_html}
use Rattle.protocol_rules.specs.declared.rule.Rule.{Rule}
use Rattle.protocol_rules.specs.declared.rule.Sense.{Sense}
use Rattle.protocol_rules.specs.Laws.{said_by}
use Rattle.question_answer.specs.declared.answer.Answer.{Answer}
use Rattle.question_answer.specs.Answer.{HasEvidence}
use Rattle.question_text.specs.Tree.{Phrase, phrase_of}
use Rattle.questions.specs.declared.question.Question.{Question}
use Rattle.questions.specs.Subject.{IsAbout}
use Rattle.page_sections.specs.declared.wording.TheConstants.{RULES_START}
use Rattle.page_sections.specs.inner.Rules.{AreShown, FirstAreShown}
use Rattle.page_sections.specs.RulesSection.{AppendsRules, judged_rule_shown, rule_shown, rules_section}
use Rattle.page_sections.proofs.GroupLemmas.{then_written}
use Rattle.page_sections.proofs.WritingLemmas.{written_more}

-- a question is there for each rule, and is its
zip_at : {A B : Type 0} (R : A → B → Type 0) (xs : List A) (ys : List B) (k : ℕ) (d : A) (e : B) → AllZip R xs ys → k < length xs → R (get_or xs k d) (get_or ys k e)
zip_at R [] ys k d e all within = absurd (omega (arith, within))
zip_at R (x ∷ xs) [] k d e all within = absurd all
zip_at R (x ∷ xs) (y ∷ ys) zero d e all within = all.0
zip_at R (x ∷ xs) (y ∷ ys) (suc k) d e all within = zip_at R xs ys k d e all.1 (omega (arith, within))

-- the question at a place is its rule's
pub question_at : (x : Expanded) (rules : List Rule) (questions : List Question) (k : ℕ) (rule : Rule) (q : Question) → AllZip (IsQuestionOf x) rules questions → k < length rules → rule ≡ get_or rules k rule → q ≡ get_or questions k q → IsQuestionOf x rule q
question_at x rules questions k rule q all within rule_is q_is =
    subst (λ (r : Rule). IsQuestionOf x r q) (sym rule_is) (subst (λ (p : Question). IsQuestionOf x (get_or rules k rule) p) (sym q_is) (zip_at (IsQuestionOf x) rules questions k rule q all within))

-- and about the protocol
pub question_about : (x : Expanded) (rules : List Rule) (questions : List Question) (k : ℕ) (q : Question) → AllZip (IsQuestionOf x) rules questions → k < length rules → q ≡ get_or questions k q → IsAbout x q
question_about x [] questions k q all within is = absurd (omega (arith, within))
question_about x (rule ∷ rules) questions k q all within is =
    subst (IsAbout x) (sym is) (zip_at (IsQuestionOf x) (rule ∷ rules) questions k rule q all within).about

-- before the first rule
pub none_shown : (x : Expanded) (budget : ℕ) (rules : List Rule) (text : List ℕ) → FirstAreShown x budget rules 0 text text
none_shown x budget rules text = record {
  judged = [];
  one_each = refl;
  right = λ k d within. absurd (omega (arith, within));
  text = sym (append-nil text);
}

-- after one rule more
pub one_shown : (x : Expanded) (budget : ℕ) (rules : List Rule) (count : ℕ) (rule : Rule) (q : Question) (answer : Answer) (old middle new : List ℕ) → FirstAreShown x budget rules count old middle → count < length rules → get_or rules count rule ≡ rule → IsQuestionOf x rule q → HasEvidence x q budget answer → new ≡ middle ++ as_html (rule_shown x rule.sense (phrase_of rule.question) answer) → FirstAreShown x budget rules (count + 1) old new
one_shown x budget rules count rule q answer old middle new so_far within at asks right text =
    let before = so_far.judged in
    let j : JudgedRule = record { sense = rule.sense; phrase = phrase_of rule.question; question = q; answer = answer } in
    let more : take (count + 1) rules ≡ take count rules ++ rule ∷ [] = take_more rules count rule within ∙ ap (λ (r : Rule). take count rules ++ r ∷ []) at in
    let right_one : IsRightlyJudged x budget j = record { means = asks.means; right = right } in record {
      judged = before ++ j ∷ [];
      one_each = map_push said_of before j ∙ ap (λ (list : List (Sense × Phrase)). list ++ said_by rule ∷ []) so_far.one_each ∙ sym (map_push said_by (take count rules) rule) ∙ ap (map said_by) (sym more);
      right = All-push (IsRightlyJudged x budget) before j so_far.right right_one;
      text = text ∙ written_more (judged_rule_shown x) old middle before j so_far.text;
    }

-- after the last one
pub all_shown : (x : Expanded) (budget : ℕ) (rules : List Rule) (count : ℕ) (old new : List ℕ) → FirstAreShown x budget rules count old new → length rules ≤ count → AreShown x budget rules old new
all_shown x budget rules count old new shown all = subst (λ (list : List Rule). AreShown x budget list old new) (take_all count rules all) shown

-- of no rules there is no section
pub no_section : (x : Expanded) (budget : ℕ) (rules : List Rule) (text : List ℕ) → length rules ≡ 0 → AppendsRules x budget rules text text
no_section x budget [] text none = record {
  shown = [];
  shows = record {
    judged = [];
    one_each = refl;
    right = λ k d within. absurd (omega (arith, within));
    section = refl;
  };
  text = sym (append-nil text);
}
no_section x budget (rule ∷ rules) text none = absurd (omega (arith, none))

-- of some it is the heading and each of them
headed : (x : Expanded) (rules : List Rule) (judged : List JudgedRule) → map said_of judged ≡ map said_by rules → 0 < length rules → Tag RULES_START.now ∷ flat_map (judged_rule_shown x) judged ≡ rules_section x judged
headed x rules [] each some =
    let none : 0 ≡ length (map said_by rules) = ap (λ (list : List (Sense × Phrase)). length list) each in
    let long = length-map rules said_by in
    absurd (omega (arith, none, long, some))
headed x rules (j ∷ judged) each some = refl

pub some_section : (x : Expanded) (budget : ℕ) (rules : List Rule) (old middle new : List ℕ) → 0 < length rules → middle ≡ old ++ as_html (Tag RULES_START.now ∷ []) → AreShown x budget rules middle new → AppendsRules x budget rules old new
some_section x budget rules old middle new some begins shown =
    let start : List Fragment = Tag RULES_START.now ∷ [] in
    let items = flat_map (judged_rule_shown x) shown.judged in record {
      shown = start ++ items;
      shows = record {
        judged = shown.judged;
        one_each = shown.one_each;
        right = shown.right;
        section = headed x rules shown.judged shown.one_each some;
      };
      text = then_written old middle new start items begins shown.text;
    }

-- each question is about the protocol
pub questions_about : (x : Expanded) (rules : List Rule) (questions : List Question) → AllZip (IsQuestionOf x) rules questions → All (IsAbout x) questions
questions_about x [] [] all = All-nil (IsAbout x)
questions_about x [] (q ∷ questions) all = absurd all
questions_about x (rule ∷ rules) [] all = All-nil (IsAbout x)
questions_about x (rule ∷ rules) (q ∷ questions) all = All-cons (IsAbout x) q questions all.0.about (questions_about x rules questions all.1)
