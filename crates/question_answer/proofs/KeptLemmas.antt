-- Models of earlier questions, and the condition that they may meet.
use Rattle.std.proofs.Common.{◌≡◌, ℕ, ◌<◌, ◌≤◌, Bool, List, [], ◌∷◌, ◌++◌, length, Some, sym, ap, ◌∙◌, subst, arith, All, length-append}
use Rattle.std.proofs.lemmas.List.Elements.{All-pop, All-push, All-weaker}
use Rattle.bspl_types.specs.declared.expanded.Expanded.{Expanded}
use Rattle.circuit_clauses.specs.Condition.{Condition, Literal, Both, Either, Always, Never, IsOver}
use Rattle.clause_encoding.specs.declared.variables.Variables.{Variables}
use Rattle.clause_encoding.specs.Formula.{plain_variables}
use Rattle.clause_encoding.specs.Variables.{variable_count}
use Rattle.question_formula.specs.Conditions.{asked}
use Rattle.question_formula.specs.Formula.{question_condition}
use Rattle.question_formula.specs.Laws.{ConditionVariablesExist}
use Rattle.questions.specs.declared.question.Question.{Question}
use Rattle.questions.specs.declared.question.Happening.{Happening}
use Rattle.questions.specs.Subject.{IsAbout, IsAboutHappening}
use Rattle.question_answer.specs.declared.question_search.TheConstants.{MOST_MODELS}
use Rattle.question_answer.specs.inner.Models.{IsSearchOf, IsSharedModel}

-- the condition of the question, by other names of the protocol and the variables
pub is_condition : (x y : Expanded) (vars : Variables) (q : Question) (c : Condition) → y ≡ x → vars ≡ plain_variables y → c ≡ asked y vars q → c ≡ question_condition x q
is_condition x y vars q c same are is =
    is ∙ ap (λ (vs : Variables). asked y vs q) are ∙ ap (λ (z : Expanded). asked z (plain_variables z) q) same

-- a condition has variables up to each later number
over_later : (n m : ℕ) (c : Condition) → n ≤ m → IsOver n c → IsOver m c
over_later n m (Literal l) later over = let up_to = over.1 in (over.0, omega (arith, later, up_to))
over_later n m (Both c d) later over = (over_later n m c later over.0, over_later n m d later over.1)
over_later n m (Either c d) later over = (over_later n m c later over.0, over_later n m d later over.1)
over_later n m Always later over = tt
over_later n m Never later over = tt

-- each model has the variables of the condition
pub models_have : ConditionVariablesExist → (x : Expanded) (q : Question) (c : Condition) (models : List (List Bool)) → IsAbout x q → c ≡ question_condition x q → All (IsSharedModel x) models → All (λ model. IsOver (length model) c) models
models_have exist x q c models about is all =
    let over = subst (IsOver (variable_count (plain_variables x))) (sym is) (exist x q about) in
    All-weaker (IsSharedModel x) (λ model. IsOver (length model) c)
    (λ model shared. over_later (variable_count (plain_variables x)) (length model) c shared.has_all over) models all

-- with one model more they are those of a search
pub kept : (x formulas : Expanded) (models : List (List Bool)) (model : List Bool) → IsSearchOf x formulas models → IsSharedModel x model → length models < MOST_MODELS → IsSearchOf x formulas (models ++ model ∷ [])
kept x formulas models model search_of shared room = record {
  same = search_of.same;
  few = omega (arith, room, length-append models (model ∷ []));
  each = All-push (IsSharedModel x) models model search_of.each shared;
}

-- of what is open, the last and the others are of the protocol
pub last_and_others : (x : Expanded) (all others : List Happening) (last : Happening) → all ≡ others ++ last ∷ [] → All (IsAboutHappening x) all → All (IsAboutHappening x) others × IsAboutHappening x last
last_and_others x all others last is known = All-pop (IsAboutHappening x) all others (Some last) is known
