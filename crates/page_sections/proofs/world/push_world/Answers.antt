-- The heading, the table of counts and the table of values, one after another.
use Rattle.std.proofs.Common.{◌≡◌, ◌∷◌, [], ◌++◌, length, refl}
use Rattle.std.proofs.lemmas.Result.{on_ok_weaker}
use Rattle.html.specs.Fragment.{Number, fitted, as_html}
use Rattle.page_sections.specs.WorldSection.{count_table, value_table}
use Rattle.page_sections.specs.declared.wording.TheConstants.{WORLD}
use Rattle.page_sections.specs.inner.Values.{AppendsValues}
use Rattle.page_sections.proofs.GroupLemmas.{then_written}
use Rattle.page_sections.proofs.world.push_world.Goals as goal

pub returns : goal.returns
returns c = on_ok_weaker c.push_values.result
    (λ appends run is.
    let x = c.args.x.now in
    let script = c.args.script.now in
    let old = c.args.text.now in
    let heading = fitted WORLD.now (Number (length script.keys) ∷ []) in
    let counts = count_table x run in
    let values : AppendsValues x script.keys run c.push_counts.new.text c.push_values.new.text = appends run is in
    let headed : c.fill.new.text ≡ old ++ as_html heading = rw c.count.ensures.count at c.in_ok-fill.ensures in
    let counted = then_written old c.fill.new.text c.push_counts.new.text heading counts headed (c.in_ok-push_counts.ensures run (c.message_counts-counts.ensures run is.histories)) in
    record {
      shown = heading ++ counts ++ value_table x values.rows;
      shows = record { rows = values.rows; are_rows = values.are_rows; section = refl };
      text = then_written old c.push_counts.new.text c.push_values.new.text (heading ++ counts) (value_table x values.rows) counted values.text;
    })
    c.push_values.ensures
