-- What an answer to a question says is true.
use Rattle.std.proofs.Common.{◌≡◌, ℕ, Bool, List, [], ◌∷◌, ◌++◌, append_assoc, codes, get_or, inl, inr, refl, sym, ap, subst, ◌∙◌, arith}
use Rattle.std.proofs.lemmas.List.{append_cancel_left, append_cancel_right}
use Rattle.bspl_types.specs.declared.expanded.Expanded.{Expanded}
use Rattle.list_base.specs.Lines.{line_of}
use Rattle.log_checker.specs.declared.refusal.Reject.{Reject}
use Rattle.log_checker.specs.declared.refusal.Reject.TheVariants.{NoClause, NoDrop, NoMemory, NoPivot, NotEmpty}
use Rattle.question_answer.specs.declared.answer.Answer.{Answer}
use Rattle.question_answer.specs.declared.answer.Answer.TheVariants.{Impossible, Possible, Undecided}
use Rattle.question_answer.specs.Answer.{HasEvidence}
use Rattle.question_text.specs.declared.tree.Tree.{Tree}
use Rattle.question_text.specs.Laws.{HasOneTree}
use Rattle.question_text.specs.Meaning.{AsksQuestion, MeansQuestion}
use Rattle.question_text.specs.MeaningLaws.{MeansOneQuestion}
use Rattle.question_text.specs.QuestionText.{IsQuestionText, tree_spelling}
use Rattle.question_text.specs.Tree.{Phrase, phrase_of}
use Rattle.questions.specs.declared.question.Question.{Question}
use Rattle.questions.specs.Answer.{IsPossible}
use Rattle.questions.specs.Same.{SameHasSameAnswer}
use Rattle.rejections.specs.FailureLine.{reject_line}
use Rattle.tool_input.specs.declared.status.Status.{Status}
use Rattle.tool_input.specs.Lines.{line}
use Rattle.ask_commands.specs.declared.options.AskOptions.{AskOptions}
use Rattle.ask_commands.specs.AskAnswer.{IsAskAnswer, ask_text, asked_protocol_line, possibility_evidence, possibility_line}
use Rattle.ask_commands.specs.CheckAnswer.{IsCheckAskAnswer}
use Rattle.ask_commands.specs.TitledQuestion.{IsSpelledQuestion}
use Rattle.ask_commands.specs.Claims.{SaysAcceptedQuestion, SaysImpossible, SaysOfQuestion, SaysPossible}

-- a question means one of the protocol at most, and that has one answer
pub record OneMeaning : Type 0 where
  pub question : MeansOneQuestion
  pub answer : SameHasSameAnswer

-- trees of one phrase ask what is possible alike
pub same_possible : OneMeaning → (x : Expanded) (one other : Tree) (q r : Question) → phrase_of one ≡ phrase_of other → AsksQuestion x one q → AsksQuestion x other r → IsPossible x q → IsPossible x r
same_possible law x one other q r same asks also is = record {
  run = is.run;
  legal = is.legal;
  key = is.key;
  yes = (law.answer x is.run is.key q r (law.question x one other q r same asks also)).0 is.yes;
}

-- the first byte of a text
first : List ℕ → ℕ
first text = get_or text 0 0

-- what comes after the line of the protocol
after_protocol : (x : Expanded) (spelling : List ℕ) (brief : Bool) (answer : Answer) (word : List ℕ) (tree : Tree) (out : List ℕ) → out ≡ ask_text x spelling brief answer → (says : SaysOfQuestion word x tree out) → possibility_line spelling answer ++ possibility_evidence x spelling brief answer ≡ line_of (word ∷ tree_spelling tree ∷ []) ++ says.rest
after_protocol x spelling brief answer word tree out is says =
    append_cancel_left (asked_protocol_line x) (possibility_line spelling answer ++ possibility_evidence x spelling brief answer) (line_of (word ∷ tree_spelling tree ∷ []) ++ says.rest)
    (sym (append_assoc (asked_protocol_line x) (possibility_line spelling answer) (possibility_evidence x spelling brief answer)) ∙ sym is ∙ says.text ∙ append_assoc (asked_protocol_line x) (line_of (word ∷ tree_spelling tree ∷ [])) says.rest)

-- of a right answer with the line `possible` the question is possible
possible_line : (x : Expanded) (q : Question) (budget : ℕ) (spelling evidence other rest : List ℕ) (answer : Answer) → HasEvidence x q budget answer → possibility_line spelling answer ++ evidence ≡ line_of (codes "possible" ∷ other ∷ []) ++ rest → IsPossible x q
unfolding first
possible_line x q budget spelling evidence other rest (Possible run) right same = right.possible
possible_line x q budget spelling evidence other rest (Impossible log) right same = absurd (let no : 105 ≡ 112 = ap first same in omega (arith, no))
possible_line x q budget spelling evidence other rest (Undecided log) right same = absurd (let no : 117 ≡ 112 = ap first same in omega (arith, no))

-- and of one with the line `impossible` it is not
impossible_line : (x : Expanded) (q : Question) (budget : ℕ) (spelling evidence other rest : List ℕ) (answer : Answer) → HasEvidence x q budget answer → possibility_line spelling answer ++ evidence ≡ line_of (codes "impossible" ∷ other ∷ []) ++ rest → ¬ IsPossible x q
unfolding first
impossible_line x q budget spelling evidence other rest (Possible run) right same = absurd (let no : 112 ≡ 105 = ap first same in omega (arith, no))
impossible_line x q budget spelling evidence other rest (Impossible log) right same = right.impossible
impossible_line x q budget spelling evidence other rest (Undecided log) right same = absurd (let no : 117 ≡ 105 = ap first same in omega (arith, no))

pub said_possible : OneMeaning → (x : Expanded) (tree : Tree) (options : AskOptions) (out : List ℕ) (ends : Status) (q : Question) → IsAskAnswer x (phrase_of tree) options out ends → AsksQuestion x tree q → SaysPossible x tree out → IsPossible x q
said_possible law x tree options out ends q is asks says =
    let same = after_protocol x (tree_spelling tree) options.brief is.answer (codes "possible") tree out is.text says in
    same_possible law x tree tree is.question q refl is.means asks (possible_line x is.question options.conflicts (tree_spelling tree) (possibility_evidence x (tree_spelling tree) options.brief is.answer) (tree_spelling tree) says.rest is.answer is.right same)

pub said_impossible : OneMeaning → (x : Expanded) (tree : Tree) (options : AskOptions) (out : List ℕ) (ends : Status) (q : Question) → IsAskAnswer x (phrase_of tree) options out ends → AsksQuestion x tree q → SaysImpossible x tree out → ¬ IsPossible x q
said_impossible law x tree options out ends q is asks says = λ possible.
    let same = after_protocol x (tree_spelling tree) options.brief is.answer (codes "impossible") tree out is.text says in
    impossible_line x is.question options.conflicts (tree_spelling tree) (possibility_evidence x (tree_spelling tree) options.brief is.answer) (tree_spelling tree) says.rest is.answer is.right same
    (same_possible law x tree tree q is.question refl asks is.means possible)

-- the line of a failure is not that of an accepted log
not_rejected : (reject : Reject) (text : List ℕ) → reject_line reject ≡ line (codes "accepted impossible " ++ text) → ⊥
unfolding first
not_rejected (NoClause step) text same = let no : 114 ≡ 97 = ap first same in omega (arith, no)
not_rejected (NoPivot step link) text same = let no : 114 ≡ 97 = ap first same in omega (arith, no)
not_rejected (NoDrop after item) text same = let no : 114 ≡ 97 = ap first same in omega (arith, no)
not_rejected NotEmpty text same = let no : 114 ≡ 97 = ap first same in omega (arith, no)
not_rejected NoMemory text same = let no : 10 ≡ 97 = ap first same in omega (arith, no)

-- the title of an accepted log is the text that is said
titled_alike : (title text : List ℕ) → line (codes "accepted impossible " ++ title) ≡ line (codes "accepted impossible " ++ text) → title ≡ text
titled_alike title text same =
    append_cancel_left (codes "accepted impossible ") title text (append_cancel_right (codes "accepted impossible " ++ title) (codes "accepted impossible " ++ text) (10 ∷ []) same)

-- a question that is not possible, in the words of another text of it
titled_impossible : OneMeaning → HasOneTree → (x : Expanded) (title text : List ℕ) (phrase : Phrase) (tree : Tree) (asked q : Question) → IsSpelledQuestion x title phrase asked → title ≡ text → IsQuestionText text tree → AsksQuestion x tree q → ¬ IsPossible x asked → ¬ IsPossible x q
titled_impossible law trees x title text phrase tree asked q is same read asks impossible = λ possible.
    let its = is.read in
    let one : phrase_of tree ≡ phrase_of its.tree = trees text tree its.tree read (subst (λ (t : List ℕ). IsQuestionText t its.tree) same its.read) in
    let means : AsksQuestion x its.tree asked = subst (λ (p : Phrase). MeansQuestion x p asked) (sym its.phrase_is) is.means in
    impossible (same_possible law x tree its.tree q asked one asks means possible)

pub accepted_impossible : OneMeaning → HasOneTree → (x : Expanded) (part text out : List ℕ) (ends : Status) (tree : Tree) (q : Question) → IsCheckAskAnswer x part out ends → IsQuestionText text tree → AsksQuestion x tree q → SaysAcceptedQuestion text out → ¬ IsPossible x q
accepted_impossible law trees x part text out ends tree q is read asks says =
    elim is.answer [
      | inl accepted ↦ titled_impossible law trees x is.spelling text is.read.phrase tree is.question q is.read.asks (titled_alike is.spelling text (sym accepted.text ∙ says)) read asks accepted.impossible
      | inr rejected ↦ absurd (not_rejected rejected.reject text (sym rejected.text ∙ says))
    ]
