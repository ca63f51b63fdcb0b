-- What is still to be written of what senders may lack.
use Rattle.std.proofs.Common.{◌≡◌, ◌++◌, ◌+◌, drop, map}
use Rattle.std.specs.List.{enumerate_from}
use Rattle.formula_text.specs.Legend.{lack}
use Rattle.formula_text.proofs.Written.{lines}
use Rattle.formula_text.proofs.rest.push_lacks.Given as goal

-- with the lines of those that are left, the text is as it shall be
abbrev pub invariant-loop-want : goal.invariant-loop-want
invariant-loop-want l = record {
  number : l.variable ≡ l.first + l.want-index;
  text : l.text ++ lines (map (lack l.x) (enumerate_from l.variable (drop l.want-index l.wants)))
      ≡ l.initial.text ++ lines (map (lack l.x) (enumerate_from l.first l.wants));
}
