-- What `--check` answers, from what is read and checked.
use Rattle.std.proofs.Common.{◌≡◌, ◌≢◌, ℕ, ◌≤◌, List, ◌++◌, codes, length, length-append, inl, inr, refl, sym, ap, subst, ◌∙◌, arith}
use Rattle.bspl_types.specs.declared.expanded.Expanded.{Expanded}
use Rattle.bspl_types.specs.Limits.{input_limit}
use Rattle.question_answer.specs.Laws.{BytesAreTitledOnce}
use Rattle.question_answer.specs.QuestionLog.{IsRefusedRest, IsRestOfLog, IsTitled, question_title}
use Rattle.question_text.specs.declared.fault.QuestionFault.{QuestionFault}
use Rattle.question_text.specs.declared.fault.QuestionFault.TheVariants as faults
use Rattle.question_text.specs.declared.tree.Tree.{Tree}
use Rattle.question_text.specs.declared.unknown.UnknownName.{UnknownName}
use Rattle.question_text.specs.declared.unknown.UnknownName.TheVariants as unknowns
use Rattle.question_text.specs.Laws.{HasOneTree, ReadTextHasNoFault}
use Rattle.question_text.specs.Meaning.{AsksQuestion, MeansQuestion}
use Rattle.question_text.specs.MeaningLaws.{AskedHasNoUnknownName}
use Rattle.question_text.specs.QuestionText.{IsMisread, IsQuestionText, tree_spelling}
use Rattle.question_text.specs.Tree.{Phrase, phrase_of}
use Rattle.question_text.specs.Unknown.{IsFirstUnknownName, IsUnknownIn, names_in}
use Rattle.questions.specs.declared.question.Question.{Question}
use Rattle.refutation_log.specs.declared.refusal.LogRefusal.{LogRefusal}
use Rattle.refutation_log.specs.declared.refusal.LogRefusal.TheVariants.{Form, NoMemory, Number}
use Rattle.refutation_log.specs.declared.refutation.Log.{Log}
use Rattle.refutation_log.specs.declared.refutation.Version.{Version}
use Rattle.refutation_log.specs.declared.refutation.Version.TheVariants.{One, Two}
use Rattle.rejections.specs.PartRejection.{log_rejection}
use Rattle.tool_input.specs.Error.{RejectsFor, error_for}
use Rattle.ask_commands.specs.AskAnswer.{phrase_spelling}
use Rattle.ask_commands.specs.CheckAnswer.{IsCheckAskRefused, IsLogOnQuestion}
use Rattle.ask_commands.specs.TitledQuestion.{HasQuestionTitle, IsSpelledQuestion}

-- a first line that is none
pub not_titled : (x : Expanded) (part : List ℕ) → ¬ HasQuestionTitle x part → RejectsFor (IsCheckAskRefused x part) (error_for (log_rejection (Form 1)))
not_titled x part none = record { refusal = Form 1; refused = inl (none, refl); rejection_is = refl }

-- one on no question
pub not_asked : BytesAreTitledOnce → (x : Expanded) (part spelling rest : List ℕ) (version : Version) → IsTitled part version spelling rest → ((phrase : Phrase) (q : Question) → ¬ IsSpelledQuestion x spelling phrase q) → ¬ HasQuestionTitle x part
not_asked once x part spelling rest version titled none title =
    let same = (once part title.spelling spelling title.rest rest title.version version title.titled titled).spellings in
    none title.phrase title.question (subst (λ (t : List ℕ). IsSpelledQuestion x t title.phrase title.question) same title.asks)

-- what is refused after one
pub rest_refused : (x : Expanded) (part : List ℕ) (title : HasQuestionTitle x part) (refusal : LogRefusal) → IsRefusedRest title.version title.rest refusal → RejectsFor (IsCheckAskRefused x part) (error_for (log_rejection refusal))
rest_refused x part title (Form number) refused = record { refusal = Form number; refused = inr (record { title = title; refused = refused }); rejection_is = refl }
rest_refused x part title (Number number) refused = record { refusal = Number number; refused = record { title = title; refused = refused }; rejection_is = refl }
rest_refused x part title NoMemory refused = tt

-- the first line is longer than its question
title_length : (version : Version) (spelling : List ℕ) → length spelling ≤ length (question_title version spelling)
title_length One spelling =
    let whole : length (question_title One spelling) ≡ length ((codes "log 1 ask " ++ spelling) ++ codes "\n") = refl in
    omega (arith, whole, length-append (codes "log 1 ask " ++ spelling) (codes "\n"), length-append (codes "log 1 ask ") spelling)
title_length Two spelling =
    let whole : length (question_title Two spelling) ≡ length ((codes "log 2 ask " ++ spelling) ++ codes "\n") = refl in
    omega (arith, whole, length-append (codes "log 2 ask " ++ spelling) (codes "\n"), length-append (codes "log 2 ask ") spelling)

-- and so is the text
pub spelling_is_short : (part spelling rest : List ℕ) (version : Version) → IsTitled part version spelling rest → length part ≤ input_limit → length spelling ≤ 4294967295
spelling_is_short part spelling rest version titled short =
    let whole = ap length titled.whole ∙ length-append (question_title version spelling) rest in
    omega (arith, short, whole, title_length version spelling)

-- what follows it is no longer than the text
pub rest_is_short : (part spelling rest : List ℕ) (version : Version) → IsTitled part version spelling rest → length rest ≤ length part
rest_is_short part spelling rest version titled =
    let whole = ap length titled.whole ∙ length-append (question_title version spelling) rest in
    omega (arith, whole)

-- a text with a fault spells no question
pub misread_spells_none : ReadTextHasNoFault → (x : Expanded) (text : List ℕ) (fault : QuestionFault) → IsMisread text fault → (fault ≡ faults.NoMemory → ⊥) → (phrase : Phrase) (q : Question) → ¬ IsSpelledQuestion x text phrase q
misread_spells_none exclusive x text fault misread some phrase q is = exclusive text is.read.tree fault is.read.read (record { misread = misread; no_memory = some })

-- nor does one that is spelled otherwise
pub other_spelling : HasOneTree → (x : Expanded) (text : List ℕ) (tree : Tree) → IsQuestionText text tree → tree_spelling tree ≢ text → (phrase : Phrase) (q : Question) → ¬ IsSpelledQuestion x text phrase q
other_spelling trees x text tree read other phrase q is =
    let same : phrase_of tree ≡ phrase = trees text tree is.read.tree read is.read.read ∙ is.read.phrase_is in
    other (ap phrase_spelling same ∙ sym is.spelled)

-- an unknown name, unless memory ran out
as_first_unknown : (x : Expanded) (tree : Tree) (name : UnknownName) → IsUnknownIn x (names_in (phrase_of tree)) name → (name ≡ unknowns.NoMemory → ⊥) → IsFirstUnknownName x tree name
as_first_unknown x tree (unknowns.Message name) is some = is
as_first_unknown x tree (unknowns.Role name) is some = is
as_first_unknown x tree (unknowns.Parameter name) is some = is
as_first_unknown x tree unknowns.NoMemory is some = absurd (some refl)

-- nor one with an unknown name
pub unknown_is_not_asked : HasOneTree → AskedHasNoUnknownName → (x : Expanded) (text : List ℕ) (tree : Tree) (name : UnknownName) → IsQuestionText text tree → IsUnknownIn x (names_in (phrase_of tree)) name → (name ≡ unknowns.NoMemory → ⊥) → (phrase : Phrase) (q : Question) → ¬ IsSpelledQuestion x text phrase q
unknown_is_not_asked trees law x text tree name read unknown some phrase q is =
    let its = is.read in
    let same : phrase_of its.tree ≡ phrase_of tree = trees text its.tree tree its.read read in
    let asks : AsksQuestion x its.tree q = subst (λ (p : Phrase). MeansQuestion x p q) (sym its.phrase_is) is.means in
    law x its.tree tree q name same asks (as_first_unknown x tree name unknown some)

-- a text that is read, spelled so and known is a question's
pub is_spelled : (x : Expanded) (text : List ℕ) (tree : Tree) (q : Question) → IsQuestionText text tree → tree_spelling tree ≡ text → AsksQuestion x tree q → (phrase : Phrase) × IsSpelledQuestion x text phrase q
is_spelled x text tree q read spelled asks = (phrase_of tree, record { read = record { tree = tree; read = read; phrase_is = refl }; spelled = sym spelled; means = asks })

-- the first line of a log on that question
abbrev pub title_of : (x : Expanded) (part spelling rest : List ℕ) (version : Version) (q : Question) → IsTitled part version spelling rest → ((phrase : Phrase) × IsSpelledQuestion x spelling phrase q) → HasQuestionTitle x part
title_of x part spelling rest version q titled (phrase, asks) = record {
  version = version;
  spelling = spelling;
  rest = rest;
  titled = titled;
  phrase = phrase;
  question = q;
  asks = asks;
}

-- and the log after it
pub log_on : (x : Expanded) (part spelling rest : List ℕ) (version : Version) (q : Question) (log : Log) → IsTitled part version spelling rest → ((phrase : Phrase) × IsSpelledQuestion x spelling phrase q) → IsRestOfLog version rest log → IsLogOnQuestion x part spelling q log
log_on x part spelling rest version q log titled (phrase, asks) is_rest = record {
  version = version;
  rest = rest;
  titled = titled;
  phrase = phrase;
  asks = asks;
  is_rest = is_rest;
}
