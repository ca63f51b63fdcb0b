-- What is received was emitted before, and the first emission has the arrow.
use Rattle.bspl_types.specs.declared.event.Event.TheVariants.{Receive}
use Rattle.run_chart.proofs.ArrowLemmas.{reception_arrow}
use Rattle.run_chart.proofs.laws.receptions_have_arrows.Goals as goal

pub returns : goal.returns
returns c = λ x run received i legal at. reception_arrow x run received i ((c.legal_by_positions.ensures x run).0 legal received (Receive i) at) at
