-- The name is that of the parameter.
use Rattle.run_chart.proofs.chart.push_title.Goals as goal

pub returns-in-Clash : goal.returns-in-Clash
returns-in-Clash c = rw c.in-Clash.is (rw c.param_name.ensures at c.fill.ensures)

pub returns-in-Open : goal.returns-in-Open
returns-in-Open c = rw c.in-Open.is (rw c.param_name-in-Open.ensures at c.fill-in-Open.ensures)
