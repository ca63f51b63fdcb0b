-- What was read is spelled by the fields before those that are left.
use Rattle.std.proofs.Common.{◌≡◌, ◌++◌, length, map, take}
use Rattle.std.specs.List.{All}
use Rattle.bspl_types.specs.Limits.{key_limit}
use Rattle.bspl_types.specs.Value.{IsValue}
use Rattle.bspl_types.specs.ValueSpelling.{value_spelling}
use Rattle.script_text.proofs.key_line.key_of.Given as goal
use Rattle.text_lines.specs.Fields.{fields_of}

abbrev pub invariant-loop-index : goal.invariant-loop-index
invariant-loop-index l = record {
  room : length l.cells ≡ key_limit;
  spelled : map value_spelling (take l.index l.cells) ++ fields_of l.left ≡ fields_of l.fn.rest;
  good : All IsValue (take l.index l.cells);
}
