-- What is kept while values are written.
use Rattle.std.proofs.Common.{◌≡◌, ◌++◌, drop}
use Rattle.dimacs.specs.AnswerText.{value_lines}
use Rattle.dimacs.proofs.answer_text.push_values.Given as goal

-- the lines so far are followed by those of the values that are left
abbrev pub invariant-loop-index : goal.invariant-loop-index
invariant-loop-index l = l.text ++ value_lines l.index (drop l.index l.assignment) ≡ l.fn.text ++ value_lines 0 l.assignment
