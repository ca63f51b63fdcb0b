-- What the checker accepts has no model.
use Rattle.std.proofs.Common.{refl}
use Rattle.verdict.proofs.search.checked.Goals as goal

pub returns-in-Ok : goal.returns-in-Ok
returns-in-Ok c = record { is_log = refl; no_model = c.in-Ok.ensures.sound }
