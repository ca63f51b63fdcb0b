-- What has been read after one more word.
use Rattle.std.specs.Prelude.{ℕ, ◌+◌, List, [], ◌∷◌, ◌++◌, Option, Some, None}
use Rattle.std.specs.Prelude.{if◌then◌else◌}
use Rattle.std.specs.Option.{option_map_or}
use Rattle.bspl_types.specs.Name.{is_name}
use Rattle.question_text.specs.declared.keyword.Keyword.{Keyword}
use Rattle.question_text.specs.declared.keyword.Keyword.TheVariants as keyword
use Rattle.question_text.specs.declared.part.Place.{Place}
use Rattle.question_text.specs.declared.part.Place.TheVariants.{First, Second}
use Rattle.question_text.specs.declared.part.Verb.TheVariants as verb
use Rattle.question_text.specs.declared.tree.Said.{Said}
use Rattle.question_text.specs.declared.tree.Said.TheVariants as said
use Rattle.question_text.specs.inner.Keyword.{keyword_of}
use Rattle.question_text.specs.inner.Pending.{Awaiting, nothing_awaits, question_with, term_with}
use Rattle.question_text.specs.inner.Piece.{Piece, Nothing, Linked, Verbed, Knowing, KnowingRole}
use Rattle.question_text.specs.inner.Piece.{Once, MayBe, Resting, ButFor, Whole, is_but, link_of}
use Rattle.question_text.specs.inner.Piece.{placed, said_of}
use Rattle.question_text.specs.inner.Progress.{Progress, with_piece}
use Rattle.question_text.specs.Tree.{Phrase, Bracketed, Can, Happened, Rest}

-- the happening begins
abbrev pub begin_said : Place → Option Keyword → Option Piece
begin_said place (Some keyword.Sent) = Some (Verbed place verb.Sent)
begin_said place (Some keyword.Received) = Some (Verbed place verb.Received)
begin_said place (Some keyword.Bound) = Some (Verbed place verb.Bound)
begin_said place (Some keyword.Knows) = Some (Knowing place)
begin_said place other = None

-- the brackets close round the question
abbrev pub close_bracket : List Awaiting → Phrase → Option Progress
close_bracket [] q = None
close_bracket (w ∷ o) q = Some (record { piece = Whole (Bracketed q); inside = w; outside = o })

-- the word after a factor
abbrev pub after_factor : Awaiting → List Awaiting → Phrase → Option Keyword → Option Progress
after_factor w o q (Some keyword.And) = Some (record {
  piece = Nothing;
  inside = record { disjunct = w.disjunct; conjunct = Some (term_with w q); nots = 0 };
  outside = o;
})
after_factor w o q (Some keyword.Or) = Some (record {
  piece = Nothing;
  inside = record { disjunct = Some (question_with w q); conjunct = None; nots = 0 };
  outside = o;
})
after_factor w o q (Some keyword.Close) = close_bracket o (question_with w q)
after_factor w o q other = None

-- the piece, if the word is a name
abbrev pub if_name : List ℕ → Piece → Option Piece
if_name word piece = if is_name word then Some piece else None

-- the first word of a factor
abbrev pub begin_factor : Awaiting → List Awaiting → Option Keyword → Option Progress
begin_factor w o (Some keyword.Not) =
    Some (record { piece = Nothing; inside = record w { nots = w.nots + 1 }; outside = o })
begin_factor w o (Some keyword.Open) =
    Some (record { piece = Nothing; inside = nothing_awaits; outside = w ∷ o })
begin_factor w o (Some keyword.Rest) = with_piece w o (Some (Resting []))
begin_factor w o (Some keyword.Can) = with_piece w o (Some MayBe)
begin_factor w o other = with_piece w o (begin_said First other)

-- the word after a first happening
abbrev pub after_said : Awaiting → List Awaiting → Said → Option Keyword → Option Progress
after_said w o h k =
    option_map_or (λ link. with_piece w o (Some (Linked link h))) (link_of k)
    (after_factor w o (Happened h) k)

-- the word after `rest` and some excused messages
abbrev pub after_rest : Awaiting → List Awaiting → List (List ℕ) → Option Keyword → Option Progress
after_rest w o excused k =
    if is_but k then with_piece w o (Some (ButFor excused)) else after_factor w o (Rest excused) k

-- what has been read after the word, if some question has it there
abbrev pub step_from : Awaiting → List Awaiting → Piece → List ℕ → Option Progress
step_from w o Nothing word = begin_factor w o (keyword_of word)
step_from w o (Linked link one) word =
    with_piece w o (begin_said (Second link one) (keyword_of word))
step_from w o (Verbed place verb) word =
    with_piece w o (if_name word (placed place (said_of verb word)))
step_from w o (Knowing place) word = with_piece w o (if_name word (KnowingRole place word))
step_from w o (KnowingRole place role) word =
    with_piece w o (if_name word (placed place (said.Knows role word)))
step_from w o (Once h) word = after_said w o h (keyword_of word)
step_from w o MayBe word = with_piece w o (if_name word (Whole (Can word)))
step_from w o (Resting excused) word = after_rest w o excused (keyword_of word)
step_from w o (ButFor excused) word =
    with_piece w o (if_name word (Resting (excused ++ word ∷ [])))
step_from w o (Whole q) word = after_factor w o q (keyword_of word)

-- the same, of all that has been read
abbrev pub step : Progress → List ℕ → Option Progress
step r word = step_from r.inside r.outside r.piece word
