-- What is appended for one protocol.
use Rattle.std.specs.Prelude.{◌≡◌, ℕ, List, ◌++◌}
use Rattle.std.specs.List.{find}
use Rattle.bspl_parser.specs.declared.document.Declaration.{Declaration}
use Rattle.bspl_types.specs.declared.expanded.Expanded.{Expanded}
use Rattle.tool_input.specs.Input.{Declares}
use Rattle.answer_words.specs.Namings.{Naming}
use Rattle.answer_words.specs.Meant.{names_nothing, naming_text}

-- the line on the first name that names nothing in it, if the text declares it, and else nothing
pub data AddsNaming (text : List ℕ) (namings : Expanded → List Naming) (p : Declaration)
    (old new : List ℕ) : Type 0 where
  declared : (x : Expanded) → Declares p.name.text text x
      → new ≡ old ++ naming_text p.name.text (find names_nothing (namings x))
      → AddsNaming text namings p old new
  undeclared : ((x : Expanded) → ¬ Declares p.name.text text x) → new ≡ old
      → AddsNaming text namings p old new
