-- What is still to be written of the parameters.
use Rattle.std.proofs.Common.{◌≡◌, ◌++◌, ◌+◌, drop, map}
use Rattle.std.specs.List.{enumerate_from}
use Rattle.formula_text.specs.Legend.{unbound}
use Rattle.formula_text.proofs.Written.{lines}
use Rattle.formula_text.proofs.rest.push_unbound.Given as goal

-- with the lines of the parameters that are left, the text is as it shall be
abbrev pub invariant-loop-param : goal.invariant-loop-param
invariant-loop-param l = record {
  number : l.variable ≡ l.first + l.param-index;
  text : l.text ++ lines (map (unbound l.x) (enumerate_from l.variable (drop l.param-index l.params)))
      ≡ l.initial.text ++ lines (map (unbound l.x) (enumerate_from l.first l.params));
}
