-- What is still to be written of the rivals.
use Rattle.std.proofs.Common.{◌≡◌, ◌++◌, ◌+◌, drop, map}
use Rattle.std.specs.List.{enumerate_from}
use Rattle.clause_encoding.specs.Variables.{kind_count}
use Rattle.formula_text.specs.Legend.{selection}
use Rattle.formula_text.proofs.Written.{lines}
use Rattle.formula_text.proofs.legend.push_selections.Given as goal

-- with the lines of the rivals that are left, the text is as it shall be
abbrev pub invariant-loop-pair : goal.invariant-loop-pair
invariant-loop-pair l = record {
  number : l.selector ≡ kind_count l.x + 1 + l.pair-index;
  text : l.text ++ lines (map (selection l.x) (enumerate_from l.selector (drop l.pair-index l.rivals)))
      ≡ l.initial.text ++ lines (map (selection l.x) (enumerate_from (kind_count l.x + 1) l.rivals));
}
