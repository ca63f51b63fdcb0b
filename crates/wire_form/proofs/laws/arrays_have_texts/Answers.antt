-- An array of texts has strings, and an array of strings has texts.
use Rattle.std.proofs.Common.{map, sym, ap, ◌∙◌}
use Rattle.serde_json.specs.Data.{array, string}
use Rattle.serde_json.specs.View.{items_of, items_view}
use Rattle.wire_form.specs.Request.{texts_data}
use Rattle.wire_form.specs.Texts.{texts_in}
use Rattle.wire_form.proofs.RequestLemmas.{texts_once}
use Rattle.wire_form.proofs.TextLemmas.{array_items, items_are_texts, texts_are}
use Rattle.wire_form.proofs.laws.arrays_have_texts.Goals as goal

pub returns : goal.returns
returns c = λ values texts. (
  λ same. (
      let items = array_items (items_view values) (items_of (map string texts)) same in
      let each = items_are_texts values texts items in
      (each, texts_once texts (texts_in values) (sym items ∙ sym (texts_are values each)))
      ),
  λ both. ap array (sym (texts_are values both.0)) ∙ ap texts_data (sym both.1),
)
