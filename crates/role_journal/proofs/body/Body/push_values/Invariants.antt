-- Which fields there are so far, and of which values.
use Rattle.std.proofs.Common.{◌≡◌, ◌+◌, ◌*◌, ◌++◌, length, take}
use Rattle.std.specs.List.{All, flat_map}
use Rattle.bspl_types.specs.Value.{IsValue}
use Rattle.role_journal.specs.EntryBody.{value_body}
use Rattle.role_journal.proofs.body.Body.push_values.Given as goal

-- those of the values before
abbrev pub invariant-loop-value : goal.invariant-loop-value
invariant-loop-value l = record {
  fields : l.self ≡ l.fn.self ++ flat_map value_body (take l.value-index l.values);
  size : length l.self ≡ length l.fn.self + 34 * l.value-index;
  good : All IsValue (take l.value-index l.values);
}
