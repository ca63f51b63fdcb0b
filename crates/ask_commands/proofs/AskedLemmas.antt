-- The questions of rules, one for each.
use Rattle.std.proofs.Common.{◌≡◌, ℕ, zero, suc, ◌+◌, ◌<◌, List, [], ◌∷◌, ◌++◌, get_or, length, take, drop, sym, ap, subst, ◌∙◌, arith}
use Rattle.std.specs.List.{All, AllZip}
use Rattle.std.proofs.lemmas.List.{drop_more, take_more, take-append-drop}
use Rattle.std.proofs.lemmas.List.Elements.{All-cons, All-nil}
use Rattle.bspl_types.specs.declared.expanded.Expanded.{Expanded}
use Rattle.protocol_rules.specs.declared.rule.Rule.{Rule}
use Rattle.question_text.specs.Tree.{phrase_of}
use Rattle.questions.specs.declared.question.Question.{Question}
use Rattle.questions.specs.Subject.{IsAbout}
use Rattle.tool_input.specs.declared.answer_error.AnswerError.{AnswerError}
use Rattle.tool_input.specs.declared.answer_error.AnswerError.TheVariants as error
use Rattle.tool_input.specs.declared.rejection.Rejection.{Rejection}
use Rattle.tool_input.specs.Error.{RejectsFor}
use Rattle.ask_commands.specs.AskAnswer.{IsAskRefused}
use Rattle.ask_commands.specs.RulesAnswer.{IsAskedOf, IsFirstRefused}
use Rattle.ask_commands.specs.AskedRules.{IsQuestionOf}

-- one pair more
zip_push : {A B : Type 0} (R : A → B → Type 0) (xs : List A) (ys : List B) (x : A) (y : B) → AllZip R xs ys → R x y → AllZip R (xs ++ x ∷ []) (ys ++ y ∷ [])
zip_push R [] [] x y all one = (one, tt)
zip_push R [] (w ∷ ys) x y all one = absurd all
zip_push R (z ∷ xs) [] x y all one = absurd all
zip_push R (z ∷ xs) (w ∷ ys) x y all one = (all.0, zip_push R xs ys x y all.1 one)

-- a question is there for each rule, and is its
pub zip_at : {A B : Type 0} (R : A → B → Type 0) (xs : List A) (ys : List B) (k : ℕ) (d : A) (e : B) → AllZip R xs ys → k < length xs → (k < length ys) × R (get_or xs k d) (get_or ys k e)
zip_at R [] ys k d e all within = absurd (omega (arith, within))
zip_at R (x ∷ xs) [] k d e all within = absurd all
zip_at R (x ∷ xs) (y ∷ ys) zero d e all within = (omega arith, all.0)
zip_at R (x ∷ xs) (y ∷ ys) (suc k) d e all within = let rest = zip_at R xs ys k d e all.1 (omega (arith, within)) in (omega (arith, rest.0), rest.1)

-- no item without a question
zip_short : {A B : Type 0} (R : A → B → Type 0) (xs : List A) (k : ℕ) → AllZip R xs [] → k < length xs → ⊥
zip_short R [] k all within = omega (arith, within)
zip_short R (x ∷ xs) k all within = all

-- rules that have questions ask something
zip_asked : (x : Expanded) (rules : List Rule) (questions : List Question) → AllZip (IsQuestionOf x) rules questions → All (IsAskedOf x) rules
zip_asked x rules [] all k d within = absurd (zip_short (IsQuestionOf x) rules k all within)
zip_asked x rules (q ∷ questions) all k d within =
    let (_, asks) = zip_at (IsQuestionOf x) rules (q ∷ questions) k d q all within in
    (get_or (q ∷ questions) k q, asks.means)

-- one question more
pub question_more : (x : Expanded) (rules : List Rule) (k : ℕ) (d : Rule) (questions : List Question) (q : Question) → AllZip (IsQuestionOf x) (take k rules) questions → k < length rules → IsQuestionOf x (get_or rules k d) q → AllZip (IsQuestionOf x) (take (k + 1) rules) (questions ++ q ∷ [])
question_more x rules k d questions q all within asks = subst (λ (list : List Rule). AllZip (IsQuestionOf x) list (questions ++ q ∷ [])) (sym (take_more rules k d within)) (zip_push (IsQuestionOf x) (take k rules) questions (get_or rules k d) q all asks)

-- the first rule that asks nothing
pub first_refused : (x : Expanded) (rules : List Rule) (k : ℕ) (d : Rule) (questions : List Question) (r : Rejection) → AllZip (IsQuestionOf x) (take k rules) questions → k < length rules → IsAskRefused x (phrase_of (get_or rules k d).question) r → IsFirstRefused x rules r
first_refused x rules k d questions r all within refused = record {
  before = take k rules;
  rule = get_or rules k d;
  after = drop (k + 1) rules;
  whole = sym (take-append-drop k rules) ∙ ap (λ (rest : List Rule). take k rules ++ rest) (drop_more rules k d within);
  asked = zip_asked x (take k rules) questions all;
  refused = refused;
}

-- memory may run out there too
pub rule_refused : (x : Expanded) (rules : List Rule) (k : ℕ) (d : Rule) (questions : List Question) (e : AnswerError) → AllZip (IsQuestionOf x) (take k rules) questions → k < length rules → RejectsFor (IsAskRefused x (phrase_of (get_or rules k d).question)) e → RejectsFor (IsFirstRefused x rules) e
rule_refused x rules k d questions (error.Rejected r) all within refused = first_refused x rules k d questions r all within refused
rule_refused x rules k d questions error.NoMemory all within refused = tt

-- the question at a place is its rule's
pub question_at : (x : Expanded) (rules : List Rule) (questions : List Question) (k : ℕ) (rule : Rule) (q : Question) → AllZip (IsQuestionOf x) rules questions → k < length rules → rule ≡ get_or rules k rule → q ≡ get_or questions k q → IsQuestionOf x rule q
question_at x rules questions k rule q all within rule_is q_is =
    subst (λ (r : Rule). IsQuestionOf x r q) (sym rule_is) (subst (λ (p : Question). IsQuestionOf x (get_or rules k rule) p) (sym q_is) (zip_at (IsQuestionOf x) rules questions k rule q all within).1)

-- and about the protocol
pub question_about : (x : Expanded) (rules : List Rule) (questions : List Question) (k : ℕ) (q : Question) → AllZip (IsQuestionOf x) rules questions → k < length rules → q ≡ get_or questions k q → IsAbout x q
question_about x [] questions k q all within is = absurd (omega (arith, within))
question_about x (rule ∷ rules) questions k q all within is =
    subst (IsAbout x) (sym is) (zip_at (IsQuestionOf x) (rule ∷ rules) questions k rule q all within).1.about

-- each question is about the protocol
pub questions_about : (x : Expanded) (rules : List Rule) (questions : List Question) → AllZip (IsQuestionOf x) rules questions → All (IsAbout x) questions
questions_about x [] [] all = All-nil (IsAbout x)
questions_about x [] (q ∷ questions) all = absurd all
questions_about x (rule ∷ rules) [] all = All-nil (IsAbout x)
questions_about x (rule ∷ rules) (q ∷ questions) all = All-cons (IsAbout x) q questions all.0.about (questions_about x rules questions all.1)
