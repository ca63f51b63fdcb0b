-- What a write does, and what one does that fails.
use Rattle.std.proofs.Common.{◌+◌, ◌≤◌, length, subst, sym}
use Rattle.role_journal.specs.Recording.{Record, content_of}
use Rattle.role_journal.specs.inner.Steps.{IsWrite}
use Rattle.role_journal.proofs.RecordLemmas.{writes_to}
use Rattle.role_journal.proofs.recording.Recording.write.Goals as goal

pub returns-then-done-clause-facts : goal.returns-then-done-clause-facts
returns-then-done-clause-facts c =
    let old : Record = record { base = c.self.inside.base.items; calls = c.self.inside.calls } in
    let new : Record = record { base = c.self.inside.base.items; calls = c.push.new.self } in
    let within : c.args.at + length c.args.bytes.now ≤ length (content_of old).seen = subst (λ (r : Record). c.args.at + length c.args.bytes.now ≤ length (content_of r).seen) (sym c.self.view_is) c.requires in
    subst (λ (r : Record). IsWrite r new c.args.at c.args.bytes.now c.args.done) c.self.view_is
    (writes_to old c.push.new.self c.args.at c.in_ok-copy.copy c.args.bytes.now c.args.done c.in_ok-push.ensures.ok c.in_ok-copy.ensures within)

pub returns-else-done-clause-facts : goal.returns-else-done-clause-facts
returns-else-done-clause-facts c =
    let old : Record = record { base = c.self.inside.base.items; calls = c.self.inside.calls } in
    let new : Record = record { base = c.self.inside.base.items; calls = c.push.new.self } in
    let within : c.args.at + length c.args.bytes.now ≤ length (content_of old).seen = subst (λ (r : Record). c.args.at + length c.args.bytes.now ≤ length (content_of r).seen) (sym c.self.view_is) c.requires in
    subst (λ (r : Record). IsWrite r new c.args.at c.args.bytes.now c.args.done) c.self.view_is
    (writes_to old c.push.new.self c.args.at c.in_ok-copy.copy c.args.bytes.now c.args.done c.in_ok-push.ensures.ok c.in_ok-copy.ensures within)
