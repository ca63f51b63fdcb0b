-- What a crash leaves of lines.
use Rattle.kept_lines.proofs.CrashLemmas.{leaves_lines}
use Rattle.kept_lines.proofs.laws.crash_leaves_lines.Goals as goal

pub returns : goal.returns
returns c = leaves_lines
