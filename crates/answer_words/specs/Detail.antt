-- What helps to see a fault, beside its place.
use Rattle.std.specs.Prelude.{◌≡◌, ℕ, List, [], take}
use Rattle.bspl_parser.specs.declared.document.Document.{Document}
use Rattle.bspl_parser.specs.Judgement.{IsText}
use Rattle.tool_input.specs.declared.rejection.Rejection.{Rejection}
use Rattle.tool_input.specs.Parts.{protocol_text}
use Rattle.answer_words.specs.declared.fault.Fault.{Fault}
use Rattle.answer_words.specs.declared.fault.Fault.TheVariants as fault
use Rattle.answer_words.specs.Arity.{arity_text}
use Rattle.answer_words.specs.Choices.{IsChoiceLine}
use Rattle.answer_words.specs.Namings.{namings_of}
use Rattle.answer_words.specs.Meant.{ListsNamings}
use Rattle.answer_words.specs.PartLines.{missing_part_text, refused_line_text}
use Rattle.answer_words.specs.RefusedPlace.{field_place, name_of, number_of, shown_line}
use Rattle.answer_words.specs.Uses.{asked_text, unknown_text}
use Rattle.answer_words.specs.Ways.{ways_text}

-- the line of the part that is refused
abbrev pub line_at_fault : List ℕ → Rejection → List ℕ
line_at_fault input r = shown_line (field_place input r.code r.first)

-- what is said of a document: the nearest names that are declared, the numbers of a reference,
-- where a message comes from, and the nearest names that its protocols have
abbrev pub IsSaid : List ℕ → Fault → Rejection → Document → List ℕ → Type 0
IsSaid input fault.NoProtocol r d said = said ≡ asked_text (name_of r.first) d
IsSaid input fault.UnknownName r d said =
    said ≡ unknown_text d.protocols (number_of r.first) d.protocols
IsSaid input fault.OtherArity r d said =
    said ≡ arity_text d.protocols (number_of r.first) d.protocols
IsSaid input fault.KeyMissing r d said =
    said ≡ ways_text input d.protocols (name_of r.first) d.protocols
IsSaid input fault.ToItself r d said =
    said ≡ ways_text input d.protocols (name_of r.first) d.protocols
IsSaid input fault.ParameterTwice r d said =
    said ≡ ways_text input d.protocols (name_of r.first) d.protocols
IsSaid input fault r d said =
    ListsNamings (protocol_text input)
    (namings_of fault (line_at_fault input r) (name_of r.first)) d.protocols said

-- that is said of the document that the text spells; nothing if it spells none
pub data IsOfDocument (text : List ℕ) (Said : Document → List ℕ → Type 0) : List ℕ → Type 0 where
  spelled : (d : Document) (said : List ℕ) → IsText text d → Said d said
      → IsOfDocument text Said said
  misspelled : ((d : Document) → ¬ IsText text d) → IsOfDocument text Said []

-- so it is where the fault is one of names in the protocol text
abbrev pub IsNameDetail : List ℕ → Fault → Rejection → List ℕ → Type 0
IsNameDetail input fault r text = IsOfDocument (protocol_text input) (IsSaid input fault r) text

-- at a line of a part: which lines leave no room for it
abbrev pub IsLineDetail : List ℕ → Rejection → List ℕ → Type 0
IsLineDetail input r text =
    text ≡ refused_line_text input (number_of r.first) (line_at_fault input r)

-- what helps: what may stand there, which part lines there are, and the rest as above
abbrev pub IsDetail : List ℕ → Fault → Rejection → List ℕ → Type 0
IsDetail input fault.BadToken r text = IsChoiceLine (take (number_of r.first) input) text
IsDetail input fault.NoPart r text = text ≡ missing_part_text input (name_of r.first)
IsDetail input fault.LogForm r text = IsLineDetail input r text
IsDetail input fault.RunForm r text = IsLineDetail input r text
IsDetail input fault.HistoryForm r text = IsLineDetail input r text
IsDetail input fault.ScriptForm r text = IsLineDetail input r text
IsDetail input fault.NoProtocol r text = IsNameDetail input fault.NoProtocol r text
IsDetail input fault.UnknownName r text = IsNameDetail input fault.UnknownName r text
IsDetail input fault.OtherArity r text = IsNameDetail input fault.OtherArity r text
IsDetail input fault.KeyMissing r text = IsNameDetail input fault.KeyMissing r text
IsDetail input fault.ToItself r text = IsNameDetail input fault.ToItself r text
IsDetail input fault.ParameterTwice r text = IsNameDetail input fault.ParameterTwice r text
IsDetail input fault.ScriptName r text = IsNameDetail input fault.ScriptName r text
IsDetail input fault.NoMessage r text = IsNameDetail input fault.NoMessage r text
IsDetail input fault.NoRoleNamed r text = IsNameDetail input fault.NoRoleNamed r text
IsDetail input fault.NoParameter r text = IsNameDetail input fault.NoParameter r text
IsDetail input fault r text = text ≡ []
