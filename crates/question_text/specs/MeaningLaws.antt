-- What a tree asks of a protocol, it asks once. Each statement is the contract of a public function.
use Rattle.std.specs.Prelude.{◌≡◌}
use Rattle.bspl_types.specs.declared.expanded.Expanded.{Expanded}
use Rattle.questions.specs.declared.question.Question.{Question}
use Rattle.questions.specs.Same.{AskTheSame}
use Rattle.questions.specs.Subject.{IsAbout}
use Rattle.question_text.specs.declared.tree.Tree.{Tree}
use Rattle.question_text.specs.declared.unknown.UnknownName.{UnknownName}
use Rattle.question_text.specs.Meaning.{AsksQuestion}
use Rattle.question_text.specs.Tree.{phrase_of}
use Rattle.question_text.specs.Unknown.{IsFirstUnknownName}

-- trees with the same words mean one question at most
abbrev pub MeansOneQuestion : Type 0
MeansOneQuestion =
    (x : Expanded) (one other : Tree) (q r : Question) → phrase_of one ≡ phrase_of other →
    AsksQuestion x one q → AsksQuestion x other r → AskTheSame q r

-- they have one first unknown name at most
abbrev pub HasOneUnknownName : Type 0
HasOneUnknownName =
    (x : Expanded) (one other : Tree) (name again : UnknownName) → phrase_of one ≡ phrase_of other →
    IsFirstUnknownName x one name → IsFirstUnknownName x other again → name ≡ again

-- a tree that asks a question has no unknown name
abbrev pub AskedHasNoUnknownName : Type 0
AskedHasNoUnknownName =
    (x : Expanded) (one other : Tree) (q : Question) (name : UnknownName) →
    phrase_of one ≡ phrase_of other → AsksQuestion x one q → ¬ IsFirstUnknownName x other name

-- what a tree asks of a protocol is about it
abbrev pub AskedIsAbout : Type 0
AskedIsAbout = (x : Expanded) (tree : Tree) (q : Question) → AsksQuestion x tree q → IsAbout x q
