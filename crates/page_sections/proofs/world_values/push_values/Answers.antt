-- The heads, the rows and the end are the table.
use Rattle.std.proofs.lemmas.Result.{on_ok_weaker}
use Rattle.page_sections.proofs.ValueLemmas.{values_written}
use Rattle.page_sections.proofs.world_values.push_values.Goals as goal

pub returns : goal.returns
returns c = on_ok_weaker c.push_fragments.result
    (λ ends run is. values_written c.args.x.now c.args.script.now.keys run c.args.text.now c.push_heads.new.text c.push_rows.new.text c.push_fragments.new.text c.in_ok-push_heads.ensures (c.in_ok-push_rows.ensures run is) ends)
    c.push_fragments.ensures
