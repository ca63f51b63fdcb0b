-- A line asks for one thing, and an array of texts is one of strings.
use Rattle.std.specs.Prelude.{◌≡◌, ◌↔◌, ℕ, List}
use Rattle.std.specs.List.{All}
use Rattle.serde_json.specs.Data.{array}
use Rattle.serde_json.specs.View.{items_view}
use Rattle.serde_json.specs.declared.value.Value.{Value}
use Rattle.bspl_types.specs.declared.expanded.Expanded.{Expanded}
use Rattle.bspl_types.specs.Admission.{IsAdmitted}
use Rattle.list_base.specs.Lines.{Line}
use Rattle.wire_form.specs.declared.act.Act.{Act}
use Rattle.wire_form.specs.Meaning.{AsksFor}
use Rattle.wire_form.specs.Request.{Asks, Request, texts_data}
use Rattle.wire_form.specs.Texts.{IsStringItem, texts_in}

-- two requests of a line are one
abbrev pub LineAsksOnce : Type 0
LineAsksOnce = (line : Line) (one other : Request) → Asks line one → Asks line other → one ≡ other

-- and so are two acts of a role of an admitted protocol
abbrev pub LineHasOneAct : Type 0
LineHasOneAct = (x : Expanded) (role : ℕ) (line : Line) (one other : Act) → IsAdmitted x
    → AsksFor x role line one → AsksFor x role line other → one ≡ other

-- an array of values is that of the texts exactly if these are strings with the texts
abbrev pub ArraysOfTexts : Type 0
ArraysOfTexts = (values : List Value) (texts : List (List ℕ)) →
    (array (items_view values) ≡ texts_data texts) ↔
    (All IsStringItem values × (texts ≡ texts_in values))
