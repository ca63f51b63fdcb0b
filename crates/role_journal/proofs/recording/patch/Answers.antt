-- The bytes stand in the part that was written.
use Rattle.std.proofs.Common.{◌+◌, ◌-◌, length, arith}
use Rattle.role_journal.proofs.PatchLemmas.{mid_is_patched}
use Rattle.role_journal.proofs.recording.patch.Goals as goal

pub returns : goal.returns
returns c = mid_is_patched c.args.content.now c.args.at (c.args.at + length c.args.bytes.now - c.args.at) c.args.bytes.now c.copy_from_slice.new.self c.requires (omega arith) c.copy_from_slice.ensures.after
