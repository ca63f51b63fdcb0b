-- What may be meant by a name that names nothing.
use Rattle.std.specs.Prelude.{ℕ, nat_eq, Bool, not, List, [], ◌∷◌, ◌++◌, codes}
use Rattle.std.specs.Prelude.{Option, None, Some}
use Rattle.std.specs.List.{ends_with, find, list_any}
use Rattle.std.specs.Str.{bytes_eq}
use Rattle.bspl_parser.specs.declared.document.Declaration.{Declaration}
use Rattle.bspl_types.specs.declared.expanded.Expanded.{Expanded}
use Rattle.tool_input.specs.Input.{Declares}
use Rattle.answer_words.specs.Namings.{Naming}
use Rattle.answer_words.specs.Nearest.{nearest}
use Rattle.answer_words.specs.declared.wording.TheConstants as wording
use Rattle.answer_words.specs.declared.wording.details.TheConstants as details

-- none of the names is the one that is given
abbrev pub names_nothing : Naming → Bool
names_nothing n = not (list_any (bytes_eq n.given) n.names)

-- the name with the prefix of a part, if one has it
abbrev pub prefixed_name : Naming → Option (List ℕ)
prefixed_name n = find (λ name. ends_with nat_eq name (codes "." ++ n.given)) n.names

-- the nearest name, if one is near
abbrev pub nearest_text : Naming → Option (List ℕ) → List ℕ
nearest_text n None =
    details.NO.now ++ n.kind ++ details.NEARLY_CALLED.now ++ n.given ++ details.MAY_STAND.now
nearest_text n (Some name) =
    details.THE.now ++ n.kind ++ details.NEAREST_TO.now ++ n.given ++
    details.THAT_MAY_STAND.now ++ name ++ wording.FULL_STOP.now

-- the name that may be meant
abbrev pub meant_text : Naming → Option (List ℕ) → List ℕ
meant_text n None = nearest_text n (nearest n.given n.names)
meant_text n (Some name) =
    details.MAY_BE.now ++ n.kind ++ codes " " ++ name ++ wording.FULL_STOP.now

-- the line for a protocol on the first that names nothing in it
abbrev pub naming_text : List ℕ → Option Naming → List ℕ
naming_text protocol None = []
naming_text protocol (Some n) =
    details.IN_PROTOCOL.now ++ protocol ++ meant_text n (prefixed_name n)

-- the lines for each protocol that the text declares
pub data ListsNamings (text : List ℕ) (namings : Expanded → List Naming)
    : List Declaration → List ℕ → Type 0 where
  none : ListsNamings text namings [] []
  declared : (p : Declaration) (more : List Declaration) (x : Expanded) (out : List ℕ)
      → Declares p.name.text text x → ListsNamings text namings more out
      → ListsNamings text namings (p ∷ more)
      (naming_text p.name.text (find names_nothing (namings x)) ++ out)
  undeclared : (p : Declaration) (more : List Declaration) (out : List ℕ)
      → ((x : Expanded) → ¬ Declares p.name.text text x) → ListsNamings text namings more out
      → ListsNamings text namings (p ∷ more) out
