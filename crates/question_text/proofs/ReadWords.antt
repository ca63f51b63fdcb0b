-- The words of what has been read.
use Rattle.std.proofs.Common.{ℕ, zero, suc, List, [], ◌∷◌, ◌++◌, Option, Some, None, codes}
use Rattle.question_text.specs.declared.part.Place.TheVariants.{Second}
use Rattle.question_text.specs.inner.Pending.{Awaiting}
use Rattle.question_text.specs.inner.Piece.{Piece, Nothing, Linked, Verbed, Knowing, KnowingRole, Once, MayBe, Resting, ButFor, Whole, words_before, verb_word}
use Rattle.question_text.specs.inner.Progress.{Progress}
use Rattle.question_text.specs.Tree.{Phrase, Rest, words_of_phrase, words_of_said}

-- the words of a piece
abbrev pub piece_words : Piece → List (List ℕ)
piece_words Nothing = []
piece_words (Linked link one) = words_before (Second link one)
piece_words (Verbed place verb) = words_before place ++ verb_word verb ∷ []
piece_words (Knowing place) = words_before place ++ codes "knows" ∷ []
piece_words (KnowingRole place role) = words_before place ++ codes "knows" ∷ role ∷ []
piece_words (Once h) = words_of_said h
piece_words MayBe = codes "can" ∷ []
piece_words (Resting excused) = words_of_phrase (Rest excused)
piece_words (ButFor excused) = words_of_phrase (Rest excused) ++ codes "but" ∷ []
piece_words (Whole q) = words_of_phrase q

-- the words of a phrase that waits, and the word after it
abbrev pub joined_words : List ℕ → Option Phrase → List (List ℕ)
joined_words word None = []
joined_words word (Some q) = words_of_phrase q ++ word ∷ []

-- a number of `not`s
abbrev pub not_words : ℕ → List (List ℕ)
not_words zero = []
not_words (suc n) = codes "not" ∷ not_words n

-- the words of what waits
abbrev pub awaiting_words : Awaiting → List (List ℕ)
awaiting_words w = joined_words (codes "or") w.disjunct ++ (joined_words (codes "and") w.conjunct ++ not_words w.nots)

-- the words up to the innermost bracket that is open
abbrev pub outside_words : List Awaiting → List (List ℕ)
outside_words [] = []
outside_words (w ∷ o) = outside_words o ++ (awaiting_words w ++ codes "(" ∷ [])

-- the words before the piece
abbrev pub words_around : Awaiting → List Awaiting → List (List ℕ)
words_around w o = outside_words o ++ awaiting_words w

-- the words of all that has been read
abbrev pub progress_words : Progress → List (List ℕ)
progress_words r = words_around r.inside r.outside ++ piece_words r.piece
