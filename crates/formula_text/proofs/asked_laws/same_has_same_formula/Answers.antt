-- The formula of one is that of the other.
use Rattle.formula_text.proofs.SameLemmas.{same_formula}
use Rattle.formula_text.proofs.asked_laws.same_has_same_formula.Goals as goal

pub returns : goal.returns
returns c = λ spelling x q r text same is. record {
  formula = is.formula;
  is_formula = same_formula x q r is.formula same is.is_formula;
  fits = is.fits;
  printed = is.printed;
}
