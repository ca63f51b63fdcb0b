-- The grammar, by levels: which trees are questions, which terms, and which factors.
--
--   question  = [ question "or" ] term
--   term      = [ term "and" ] factor
--   factor    = "not" factor | "(" question ")" | "rest" { "but" name } | "can" name
--             | happening [ ( "before" | "after" ) happening ]
--   happening = "sent" name | "received" name | "knows" name name | "bound" name
use Rattle.std.specs.Prelude.{ℕ, List, IsTrue}
use Rattle.std.specs.List.{All}
use Rattle.bspl_types.specs.Name.{is_name}
use Rattle.question_text.specs.declared.tree.Said.{Said}
use Rattle.question_text.specs.declared.tree.Said.TheVariants as said
use Rattle.question_text.specs.Tree.{Phrase, Happened, Before, After, Can, Rest, Not, And, Or}
use Rattle.question_text.specs.Tree.{Bracketed}

-- a name
abbrev pub IsName : List ℕ → Type 0
IsName word = IsTrue (is_name word)

-- each name of a happening is one
abbrev pub HasNames : Said → Type 0
HasNames (said.Sent message) = IsName message
HasNames (said.Received message) = IsName message
HasNames (said.Knows role param) = IsName role × IsName param
HasNames (said.Bound param) = IsName param

-- the levels of the grammar: each factor is a term, and each term is a question
pub data Level : Type 0 where
  QuestionLevel : Level
  TermLevel : Level
  FactorLevel : Level

-- `and` joins no factors to a factor
abbrev pub TakesAnd : Level → Type 0
TakesAnd QuestionLevel = Unit {0}
TakesAnd TermLevel = Unit {0}
TakesAnd FactorLevel = ⊥

-- `or` joins terms to a question alone
abbrev pub TakesOr : Level → Type 0
TakesOr QuestionLevel = Unit {0}
TakesOr TermLevel = ⊥
TakesOr FactorLevel = ⊥

-- the tree is one of that level, by the grammar
abbrev pub HasLevel : Level → Phrase → Type 0
HasLevel level (Happened h) = HasNames h
HasLevel level (Before one other) = HasNames one × HasNames other
HasLevel level (After one other) = HasNames one × HasNames other
HasLevel level (Can message) = IsName message
HasLevel level (Rest excused) = All IsName excused
HasLevel level (Not q) = HasLevel FactorLevel q
HasLevel level (And q r) = TakesAnd level × HasLevel TermLevel q × HasLevel FactorLevel r
HasLevel level (Or q r) = TakesOr level × HasLevel QuestionLevel q × HasLevel TermLevel r
HasLevel level (Bracketed q) = HasLevel QuestionLevel q
