-- A write that does not fail puts its bytes.
use Rattle.std.proofs.Common.{◌≡◌, subst, sym, ap}
use Rattle.role_journal.specs.Image.{HasBytes}
use Rattle.role_journal.specs.Recording.{Record, content_of}
use Rattle.role_journal.specs.Stop.{StopState}
use Rattle.role_journal.proofs.StopLemmas.{succeeds}
use Rattle.role_journal.proofs.stop.StopDiskDisk.write.Goals as goal

pub returns-clause-bytes : goal.returns-clause-bytes
returns-clause-bytes c =
    let same : c.count.new.self.recording ≡ c.write.new.self = ap (λ (d : StopState). d.recording) c.count.ensures.counted in
    subst (λ (r : Record). HasBytes (content_of r).seen c.args.at c.args.bytes.now) (sym same) (c.in_ok-write.ensures.facts.bytes_are (succeeds c.is_stopped-fails.result c.in_ok-count.ensures.failed))
