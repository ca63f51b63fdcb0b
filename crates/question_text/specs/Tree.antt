-- How a question is written: a tree, and its words in order.
use Rattle.std.specs.Prelude.{ℕ, List, [], ◌∷◌, ◌++◌, codes}
use Rattle.std.specs.List.{flat_map}
use Rattle.question_text.specs.declared.tree.Said.{Said}
use Rattle.question_text.specs.declared.tree.Said.TheVariants as said
use Rattle.question_text.specs.declared.tree.Tree.{Tree}
use Rattle.question_text.specs.declared.tree.Tree.TheVariants as tree

-- a tree of questions, wherever its nodes lie in memory
pub data Phrase : Type 0 where
  Happened : (h : Said) → Phrase
  Before : (one other : Said) → Phrase
  After : (one other : Said) → Phrase
  Can : (message : List ℕ) → Phrase
  Rest : (excused : List (List ℕ)) → Phrase
  Not : (q : Phrase) → Phrase
  And : (q r : Phrase) → Phrase
  Or : (q r : Phrase) → Phrase
  Bracketed : (q : Phrase) → Phrase

-- the tree, without where its nodes lie
abbrev pub phrase_of : Tree → Phrase
phrase_of (tree.Happened h) = Happened h
phrase_of (tree.Before one other) = Before one other
phrase_of (tree.After one other) = After one other
phrase_of (tree.Can message) = Can message
phrase_of (tree.Rest excused) = Rest excused
phrase_of (tree.Not' _ q) = Not (phrase_of q)
phrase_of (tree.And' _ q _ r) = And (phrase_of q) (phrase_of r)
phrase_of (tree.Or' _ q _ r) = Or (phrase_of q) (phrase_of r)
phrase_of (tree.Bracketed' _ q) = Bracketed (phrase_of q)

-- the words of a happening
abbrev pub words_of_said : Said → List (List ℕ)
words_of_said (said.Sent message) = codes "sent" ∷ message ∷ []
words_of_said (said.Received message) = codes "received" ∷ message ∷ []
words_of_said (said.Knows role param) = codes "knows" ∷ role ∷ param ∷ []
words_of_said (said.Bound param) = codes "bound" ∷ param ∷ []

-- the words of a question, the brackets among them, in order
abbrev pub words_of_phrase : Phrase → List (List ℕ)
words_of_phrase (Happened h) = words_of_said h
words_of_phrase (Before one other) = words_of_said one ++ codes "before" ∷ words_of_said other
words_of_phrase (After one other) = words_of_said one ++ codes "after" ∷ words_of_said other
words_of_phrase (Can message) = codes "can" ∷ message ∷ []
words_of_phrase (Rest excused) = codes "rest" ∷ flat_map (λ m. codes "but" ∷ m ∷ []) excused
words_of_phrase (Not q) = codes "not" ∷ words_of_phrase q
words_of_phrase (And q r) = words_of_phrase q ++ codes "and" ∷ words_of_phrase r
words_of_phrase (Or q r) = words_of_phrase q ++ codes "or" ∷ words_of_phrase r
words_of_phrase (Bracketed q) = codes "(" ∷ words_of_phrase q ++ codes ")" ∷ []

-- the words of a tree
abbrev pub words_of_tree : Tree → List (List ℕ)
words_of_tree t = words_of_phrase (phrase_of t)
