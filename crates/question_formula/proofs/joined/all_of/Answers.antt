-- The circuit that was taken is joined to what was made.
use Rattle.std.proofs.Common.{◌∙◌}
use Rattle.question_formula.proofs.CircuitLemmas.{all_next}
use Rattle.question_formula.proofs.joined.all_of.Goals as goal

pub earlier-preserved : goal.earlier-preserved
earlier-preserved c =
    all_next c.earlier.circuits c.pop-in-earlier.new.self c.in-Some-pop.circuit c.earlier.made c.in_ok-made.made c.in-Some-pop.ensures.last c.in_ok-made.ensures
    ∙ c.earlier.invariant
