-- What a restart does.
use Rattle.std.proofs.Common.{sym, subst}
use Rattle.role_journal.specs.inner.Steps.{Restarts}
use Rattle.role_journal.proofs.RecordLemmas.{restarts}
use Rattle.role_journal.proofs.recording.Recording.restart.Goals as goal

pub returns-clause-facts : goal.returns-clause-facts
returns-clause-facts c = subst (Restarts c.args.self.now) (sym c.forget.ensures) (restarts c.args.self.now c.args.byte)
