-- Which values there are so far, and which fields are left.
use Rattle.std.proofs.Common.{◌≡◌, ◌-◌, ◌*◌, ◌≤◌, ◌++◌, length}
use Rattle.std.specs.List.{All}
use Rattle.bspl_types.specs.Value.{IsValue}
use Rattle.role_journal.specs.inner.Reading.{values_in}
use Rattle.role_journal.proofs.entry.values_in.Given as goal

-- they and those of the other fields are all values
abbrev pub invariant-loop : goal.invariant-loop
invariant-loop l = record {
  whole : l.values ++ values_in (l.count - l.counter) l.remaining ≡ values_in l.count l.fields;
  good : All IsValue l.values;
  few : length l.values ≡ l.counter;
  long : 34 * (l.count - l.counter) ≤ length l.remaining;
}
