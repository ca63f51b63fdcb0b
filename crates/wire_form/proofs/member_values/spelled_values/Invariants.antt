-- What was read of the texts.
use Rattle.std.proofs.Common.{◌≡◌, take, length}
use Rattle.std.specs.List.{AllZip}
use Rattle.wire_form.proofs.MeaningLemmas.{SpellsItem}
use Rattle.wire_form.proofs.member_values.spelled_values.Given as goal

-- the texts so far spell the values
abbrev pub invariant-loop-text : goal.invariant-loop-text
invariant-loop-text l = record {
  read : AllZip SpellsItem (take l.text-index l.texts) l.values;
  count : length l.values ≡ l.text-index;
}
