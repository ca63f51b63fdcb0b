-- What has been read of a question, and the question, if it is one.
use Rattle.std.specs.Prelude.{List, [], Option, Some, None}
use Rattle.std.specs.Option.{option_map}
use Rattle.question_text.specs.inner.Pending.{Awaiting, nothing_awaits, question_with}
use Rattle.question_text.specs.inner.Piece.{Piece, Nothing, factor_of}
use Rattle.question_text.specs.Tree.{Phrase}

-- the factor so far, what waits for it, and what waits outside of the brackets that are open
pub record Progress : Type 0 where
  pub piece : Piece
  pub inside : Awaiting
  pub outside : List Awaiting

-- nothing has been read
abbrev pub at_start : Progress
at_start = record { piece = Nothing; inside = nothing_awaits; outside = [] }

-- the piece, with what waits as it was
abbrev pub with_piece : Awaiting → List Awaiting → Option Piece → Option Progress
with_piece w o piece =
    option_map (λ p. record { piece = p; inside = w; outside = o }) piece

-- the question, if all brackets are closed and the last factor is whole
abbrev pub whole_from : List Awaiting → Awaiting → Option Phrase → Option Phrase
whole_from [] w (Some q) = Some (question_with w q)
whole_from o w other = None

-- the question, if the words are one
abbrev pub whole_question : Progress → Option Phrase
whole_question r = whole_from r.outside r.inside (factor_of r.piece)
