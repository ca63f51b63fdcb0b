-- What the status of judged rules says is true.
use Rattle.std.proofs.Common.{◌≡◌, ℕ, ◌<◌, Bool, true, false, List, [], ◌∷◌, length, map, get_or, refl, sym, ap, subst, ◌∙◌, arith}
use Rattle.std.specs.List.{Contains, list_any}
use Rattle.std.proofs.lemmas.Bool.{both_ways}
use Rattle.std.proofs.lemmas.List.{get_or-map, length-map}
use Rattle.std.proofs.lemmas.List.Elements.{All-contains, Contains-get_or}
use Rattle.std.proofs.lemmas.List.Folds.{Any-from_list_any, list_any-from_Any}
use Rattle.bspl_types.specs.declared.expanded.Expanded.{Expanded}
use Rattle.protocol_rules.specs.declared.rule.Rule.{Rule}
use Rattle.protocol_rules.specs.declared.rule.Sense.{Sense}
use Rattle.protocol_rules.specs.declared.rule.Sense.TheVariants as senses
use Rattle.protocol_rules.specs.Laws.{HasOneListOfRules, said_by}
use Rattle.question_answer.specs.declared.answer.Answer.{Answer}
use Rattle.question_answer.specs.declared.answer.Answer.TheVariants.{Impossible, Possible, Undecided}
use Rattle.question_answer.specs.Answer.{HasEvidence}
use Rattle.question_text.specs.Meaning.{AsksQuestion, MeansQuestion}
use Rattle.question_text.specs.Tree.{Phrase}
use Rattle.questions.specs.declared.question.Question.{Question}
use Rattle.tool_input.specs.declared.status.Status.TheVariants as status
use Rattle.tool_input.specs.Parts.{protocol_text}
use Rattle.ask_commands.specs.declared.options.AskOptions.{AskOptions}
use Rattle.ask_commands.specs.Claims.{KeepsRule, IsRuleIn}
use Rattle.ask_commands.specs.Judgement.{IsRightlyJudged, JudgedRule, is_broken, is_judged_broken, is_left_open, is_unjudged, rules_status, said_of}
use Rattle.ask_commands.specs.Laws.{HasBrokenRule}
use Rattle.ask_commands.specs.RulesAnswer.{IsRulesAnswer}
use Rattle.ask_commands.proofs.TruthLemmas.{OneMeaning, same_possible}

-- an item of a list is there for one of its images
image_among : {X Y : Type 0} (f : X → Y) (xs : List X) (x : X) → Contains xs x → Contains (map f xs) (f x)
image_among f xs x (k, within, is) = (k, (let long = length-map xs f in omega (arith, long, within)), get_or-map f xs k x (f x) within ∙ ap f is)

-- and one of the images for an item
pub record IsImage {X Y : Type 0} (f : X → Y) (xs : List X) (y : Y) : Type 0 where
  pub item : X
  pub among : Contains xs item
  pub image : f item ≡ y

of_image : {X Y : Type 0} (f : X → Y) (xs : List X) (y : Y) → Contains (map f xs) y → IsImage f xs y
of_image f [] y (k, within, is) = absurd (omega (arith, within))
of_image f (x ∷ xs) y (k, within, is) =
    let below : k < length (x ∷ xs) = (let long = length-map (x ∷ xs) f in omega (arith, long, within)) in
    record {
      item = get_or (x ∷ xs) k x;
      among = Contains-get_or (x ∷ xs) k x below;
      image = sym (get_or-map f (x ∷ xs) k x y below) ∙ is;
    }

-- what a status says of the judgements
done_is : (broken left : Bool) → status.Done ≡ rules_status broken left → (broken ≡ false) × (left ≡ false)
done_is true left is = absurd (cc)
done_is false true is = absurd (cc)
done_is false false is = (refl, refl)

refuted_is : (broken left : Bool) → status.Refuted ≡ rules_status broken left → broken ≡ true
refuted_is true left is = refl
refuted_is false true is = absurd (cc)
refuted_is false false is = absurd (cc)

-- a test that no item passes
none_passes : {X : Type 0} (test : X → Bool) (xs : List X) (x : X) → list_any test xs ≡ false → Contains xs x → test x ≡ false
none_passes test xs x none (k, within, is) =
    elim (test x) as (λ b. test x ≡ b → b ≡ false) [
      | true ↦ λ yes. absurd (both_ways _ none (list_any-from_Any test xs (k, x, within, is, yes)))
      | false ↦ λ no. refl
    ] refl

-- a judgement that is right and neither broken nor open
kept_by : (x : Expanded) (sense : Sense) (q : Question) (budget : ℕ) (answer : Answer) → HasEvidence x q budget answer → is_broken sense answer ≡ false → is_unjudged answer ≡ false → KeepsRule x sense q
kept_by x senses.Never q budget (Possible run) right whole judged = absurd (cc)
kept_by x senses.Never q budget (Impossible log) right whole judged = right.impossible
kept_by x senses.Never q budget (Undecided log) right whole judged = absurd (cc)
kept_by x senses.Some q budget (Possible run) right whole judged = right.possible
kept_by x senses.Some q budget (Impossible log) right whole judged = absurd (cc)
kept_by x senses.Some q budget (Undecided log) right whole judged = absurd (cc)

-- and one that is broken
broken_by : (x : Expanded) (sense : Sense) (q : Question) (budget : ℕ) (answer : Answer) → HasEvidence x q budget answer → is_broken sense answer ≡ true → ¬ KeepsRule x sense q
broken_by x senses.Never q budget (Possible run) right is = λ kept. kept right.possible
broken_by x senses.Never q budget (Impossible log) right is = absurd (cc)
broken_by x senses.Never q budget (Undecided log) right is = absurd (cc)
broken_by x senses.Some q budget (Possible run) right is = absurd (cc)
broken_by x senses.Some q budget (Impossible log) right is = λ kept. right.impossible kept
broken_by x senses.Some q budget (Undecided log) right is = absurd (cc)

-- what is kept of a question is kept of each that a tree means too
kept_alike : OneMeaning → (x : Expanded) (sense : Sense) (rule : Rule) (q r : Question) → AsksQuestion x rule.question q → AsksQuestion x rule.question r → KeepsRule x sense q → KeepsRule x sense r
kept_alike law x senses.Never rule q r asks also kept = λ possible. kept (same_possible law x rule.question rule.question r q refl also asks possible)
kept_alike law x senses.Some rule q r asks also kept = same_possible law x rule.question rule.question q r refl asks also kept

-- the judgement of a rule
judged_kept : OneMeaning → (x : Expanded) (budget : ℕ) (sense : Sense) (rule : Rule) (q : Question) (j : JudgedRule) → rule.sense ≡ sense → AsksQuestion x rule.question q → said_of j ≡ said_by rule → IsRightlyJudged x budget j → is_judged_broken j ≡ false → is_left_open j ≡ false → KeepsRule x sense q
judged_kept law x budget sense rule q j is asks said right whole judged =
    let senses_are : j.sense ≡ sense = ap (λ (both : Sense × Phrase). both.0) said ∙ is in
    let means : AsksQuestion x rule.question j.question = subst (λ (p : Phrase). MeansQuestion x p j.question) (ap (λ (both : Sense × Phrase). both.1) said) right.means in
    let kept : KeepsRule x sense j.question = subst (λ (s : Sense). KeepsRule x s j.question) senses_are (kept_by x j.sense j.question budget j.answer right.right whole judged) in
    kept_alike law x sense rule j.question q means asks kept

pub done_kept : OneMeaning → HasOneListOfRules → (x : Expanded) (input out : List ℕ) (options : AskOptions) (sense : Sense) (q : Question) → IsRulesAnswer x input options out status.Done → IsRuleIn x input sense q → KeepsRule x sense q
done_kept law lists x input out options sense q is rule_in =
    let answer = is.answer in
    let whole = done_is (list_any is_judged_broken answer.judged) (list_any is_left_open answer.judged) answer.ends_is in
    let said = image_among said_by rule_in.rules rule_in.rule rule_in.among in
    let same : map said_by rule_in.rules ≡ map said_of answer.judged = lists (protocol_text input) x.name rule_in.rules is.rules rule_in.of_text is.of_text ∙ sym answer.one_each in
    let found = of_image said_of answer.judged (said_by rule_in.rule) (subst (λ (list : List (Sense × Phrase)). Contains list (said_by rule_in.rule)) same said) in
    judged_kept law x options.conflicts sense rule_in.rule q found.item rule_in.sense_is rule_in.asks found.image
    (All-contains (IsRightlyJudged x options.conflicts) answer.judged found.item answer.right found.among)
    (none_passes is_judged_broken answer.judged found.item whole.0 found.among)
    (none_passes is_left_open answer.judged found.item whole.1 found.among)

pub refuted_broken : (x : Expanded) (input out : List ℕ) (options : AskOptions) → IsRulesAnswer x input options out status.Refuted → HasBrokenRule x input
refuted_broken x input out options is =
    let answer = is.answer in
    let (k, j, within, at, broken) = Any-from_list_any is_judged_broken answer.judged (refuted_is (list_any is_judged_broken answer.judged) (list_any is_left_open answer.judged) answer.ends_is) in
    let among : Contains answer.judged j = (k, within, at) in
    let right = All-contains (IsRightlyJudged x options.conflicts) answer.judged j answer.right among in
    let found = of_image said_by is.rules (said_of j) (subst (λ (list : List (Sense × Phrase)). Contains list (said_of j)) answer.one_each (image_among said_of answer.judged j among)) in
    record {
      sense = j.sense;
      question = j.question;
      rule_in = record {
        rules = is.rules;
        of_text = is.of_text;
        rule = found.item;
        among = found.among;
        sense_is = ap (λ (both : Sense × Phrase). both.0) found.image;
        asks = subst (λ (p : Phrase). MeansQuestion x p j.question) (sym (ap (λ (both : Sense × Phrase). both.1) found.image)) right.means;
      };
      broken = broken_by x j.sense j.question options.conflicts j.answer right.right broken;
    }
