-- Each turn puts one `not` before the factor.
use Rattle.std.proofs.Common.{◌≡◌}
use Rattle.question_text.specs.inner.Pending.{under_nots}
use Rattle.question_text.specs.Tree.{phrase_of}
use Rattle.question_text.proofs.pending.negate.Given as goal

abbrev pub invariant-loop-i : goal.invariant-loop-i
invariant-loop-i l = phrase_of l.negated ≡ under_nots l.i (phrase_of l.fn.factor)
