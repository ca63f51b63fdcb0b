-- What question a tree asks of a protocol: its names stand for messages, roles and parameters.
use Rattle.std.specs.Prelude.{◌≡◌, ℕ, ◌<◌, List, length, map}
use Rattle.std.specs.List.{All}
use Rattle.bspl_types.specs.declared.expanded.Expanded.{Expanded}
use Rattle.bspl_types.specs.Expansion.{message_name}
use Rattle.bspl_types.specs.NamedParts.{IsMessageNamed, IsParamNamed, IsRoleNamed}
use Rattle.questions.specs.declared.question.Happening.{Happening}
use Rattle.questions.specs.declared.question.Happening.TheVariants as happenings
use Rattle.questions.specs.declared.question.Question.{Question}
use Rattle.questions.specs.declared.question.Question.TheVariants as asks
use Rattle.question_text.specs.declared.tree.Said.{Said}
use Rattle.question_text.specs.declared.tree.Said.TheVariants as said
use Rattle.question_text.specs.declared.tree.Tree.{Tree}
use Rattle.question_text.specs.Tree.{Phrase, Happened, Before, After, Can, Rest, Not, And, Or}
use Rattle.question_text.specs.Tree.{Bracketed, phrase_of}

-- the happening that is said, by the names of what it is about
abbrev pub Says : Expanded → Said → Happening → Type 0
Says x (said.Sent message) (happenings.Sent m) = IsMessageNamed x message m
Says x (said.Received message) (happenings.Received m) = IsMessageNamed x message m
Says x (said.Knows role param) (happenings.Knows r p) =
    IsRoleNamed x role r × IsParamNamed x param p
Says x (said.Bound param) (happenings.Bound p) = IsParamNamed x param p
Says x said happening = ⊥

-- the messages of these names, in order
pub record AreMessagesNamed (x : Expanded) (names : List (List ℕ)) (messages : List ℕ)
    : Type 0 where
  pub known : All (λ m. m < length x.messages) messages
  pub named : map (message_name x) messages ≡ names

-- whether it has happened
abbrev pub AsksHappened : Expanded → Said → Question → Type 0
AsksHappened x one (asks.Happened h) = Says x one h
AsksHappened x one q = ⊥

-- whether the one had happened when the other had not
abbrev pub AsksBefore : Expanded → Said → Said → Question → Type 0
AsksBefore x one other (asks.Before g h) = Says x one g × Says x other h
AsksBefore x one other q = ⊥

-- a question means a question on numbers; `A after B` means `A and B before A`, and brackets leave
-- no trace
abbrev pub MeansQuestion : Expanded → Phrase → Question → Type 0
MeansQuestion x (Happened one) q = AsksHappened x one q
MeansQuestion x (Before one other) q = AsksBefore x one other q
MeansQuestion x (After one other) (asks.And' _ q _ r) =
    AsksHappened x one q × AsksBefore x other one r
MeansQuestion x (Can message) (asks.Can m) = IsMessageNamed x message m
MeansQuestion x (Rest names) (asks.Rest excused) = AreMessagesNamed x names excused
MeansQuestion x (Not p) (asks.Not' _ q) = MeansQuestion x p q
MeansQuestion x (And p s) (asks.And' _ q _ r) = MeansQuestion x p q × MeansQuestion x s r
MeansQuestion x (Or p s) (asks.Or' _ q _ r) = MeansQuestion x p q × MeansQuestion x s r
MeansQuestion x (Bracketed p) q = MeansQuestion x p q
MeansQuestion x p q = ⊥

-- what the tree asks of the protocol
abbrev pub AsksQuestion : Expanded → Tree → Question → Type 0
AsksQuestion x tree q = MeansQuestion x (phrase_of tree) q
