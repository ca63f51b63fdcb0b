-- A rival is known by its message.
use Rattle.run_index.proofs.PermissionLemmas.{unrivalled_exact}
use Rattle.run_index.proofs.demand.is_unrivalled.Goals as goal

pub returns : goal.returns
returns c = λ before is_run are. unrivalled_exact c.args.x.now before c.args.instance.now c.args.facts.now c.has_rival.result c.has_rival.ensures is_run are
