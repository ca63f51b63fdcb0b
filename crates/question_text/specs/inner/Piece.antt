-- What has been read of a factor.
use Rattle.std.specs.Prelude.{ℕ, Bool, true, false, List, [], ◌∷◌, ◌++◌, Option, Some, None, codes}
use Rattle.question_text.specs.declared.keyword.Keyword.{Keyword}
use Rattle.question_text.specs.declared.keyword.Keyword.TheVariants as keyword
use Rattle.question_text.specs.declared.part.Link.{Link}
use Rattle.question_text.specs.declared.part.Link.TheVariants as link
use Rattle.question_text.specs.declared.part.Part.{Part}
use Rattle.question_text.specs.declared.part.Part.TheVariants as part
use Rattle.question_text.specs.declared.part.Place.{Place}
use Rattle.question_text.specs.declared.part.Place.TheVariants.{First, Second}
use Rattle.question_text.specs.declared.part.Verb.{Verb}
use Rattle.question_text.specs.declared.part.Verb.TheVariants as verb
use Rattle.question_text.specs.declared.tree.Said.{Said}
use Rattle.question_text.specs.declared.tree.Said.TheVariants as said
use Rattle.question_text.specs.Tree.{Phrase, Happened, Before, After, Rest, phrase_of}
use Rattle.question_text.specs.Tree.{words_of_said}

-- the same as `Part`, wherever a tree lies in memory
pub data Piece : Type 0 where
  Nothing : Piece
  Linked : (link : Link) (one : Said) → Piece
  Verbed : (place : Place) (verb : Verb) → Piece
  Knowing : (place : Place) → Piece
  KnowingRole : (place : Place) (role : List ℕ) → Piece
  Once : (h : Said) → Piece
  MayBe : Piece
  Resting : (excused : List (List ℕ)) → Piece
  ButFor : (excused : List (List ℕ)) → Piece
  Whole : (q : Phrase) → Piece

-- the part, without where its tree lies
abbrev pub piece_of : Part → Piece
piece_of part.Nothing = Nothing
piece_of (part.Linked link one) = Linked link one
piece_of (part.Verb place verb) = Verbed place verb
piece_of (part.Knows place) = Knowing place
piece_of (part.KnowsRole place role) = KnowingRole place role
piece_of (part.Once h) = Once h
piece_of part.Can = MayBe
piece_of (part.Rest excused) = Resting excused
piece_of (part.But excused) = ButFor excused
piece_of (part.Whole t) = Whole (phrase_of t)

-- the word that joins two happenings
abbrev pub link_word : Link → List ℕ
link_word link.Before = codes "before"
link_word link.After = codes "after"

-- the words before a happening
abbrev pub words_before : Place → List (List ℕ)
words_before First = []
words_before (Second link one) = words_of_said one ++ link_word link ∷ []

-- the word before a name
abbrev pub verb_word : Verb → List ℕ
verb_word verb.Sent = codes "sent"
verb_word verb.Received = codes "received"
verb_word verb.Bound = codes "bound"

-- the happening of that name
abbrev pub said_of : Verb → List ℕ → Said
said_of verb.Sent name = said.Sent name
said_of verb.Received name = said.Received name
said_of verb.Bound name = said.Bound name

-- the two happenings, joined
abbrev pub linked : Link → Said → Said → Phrase
linked link.Before one other = Before one other
linked link.After one other = After one other

-- what has been read after a happening at that place
abbrev pub placed : Place → Said → Piece
placed First h = Once h
placed (Second link one) h = Whole (linked link one h)

-- the factor, if all of one has been read
abbrev pub factor_of : Piece → Option Phrase
factor_of (Once h) = Some (Happened h)
factor_of (Resting excused) = Some (Rest excused)
factor_of (Whole q) = Some q
factor_of other = None

-- the word, if it joins a second happening
abbrev pub link_of : Option Keyword → Option Link
link_of (Some keyword.Before) = Some link.Before
link_of (Some keyword.After) = Some link.After
link_of other = None

-- whether the word is `but`
abbrev pub is_but : Option Keyword → Bool
is_but (Some keyword.But) = true
is_but other = false
