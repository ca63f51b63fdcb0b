-- The name has the index that the entry has.
use Rattle.std.proofs.Common.{◌∙◌, Some, ap, arith}
use Rattle.std.specs.BTreeMap.Entry.{map_with_value}
use Rattle.std.specs.Option.{unwrap_or}
use Rattle.std.proofs.lemmas.Grind.{common_steps}
use Rattle.protocol_names.proofs.MapEntryLemmas.{found_after}
use Rattle.protocol_names.proofs.name_table.keep_bytes.Goals as goal

pub returns-clause-ok : goal.returns-clause-ok
returns-clause-ok c =
    let first = c.or_insert.result.now in
    record {
      first_is = c.or_insert.ensures.value ∙ ap (λ o. unwrap_or o c.args.index) c.in_ok-map.ensures.value;
      others = λ other. let set = found_after c.args.name.now c.args.map.now (map_with_value c.in_ok-map.field-0 first) (Some first) (c.in_ok-map.ensures.update.0 first) other in grind (arith, common_steps, set);
    }
