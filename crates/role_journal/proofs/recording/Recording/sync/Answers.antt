-- What a sync does.
use Rattle.std.proofs.Common.{subst}
use Rattle.role_journal.specs.Recording.{Record}
use Rattle.role_journal.specs.inner.Steps.{IsSync}
use Rattle.role_journal.proofs.RecordLemmas.{syncs_to}
use Rattle.role_journal.proofs.recording.Recording.sync.Goals as goal

pub returns-clause-facts : goal.returns-clause-facts
returns-clause-facts c =
    let old : Record = record { base = c.self.inside.base.items; calls = c.self.inside.calls } in
    let new : Record = record { base = c.self.inside.base.items; calls = c.push.new.self } in
    subst (λ (r : Record). IsSync r new c.args.done) c.self.view_is (syncs_to old c.push.new.self c.args.done c.in_ok-push.ensures.ok)
