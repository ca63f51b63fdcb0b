-- The three fields of an enactment that is not complete.
use Rattle.std.proofs.Common.{codes}
use Rattle.report.proofs.LineLemmas.{three_fields}
use Rattle.report.proofs.replay_lines.push_status.Goals as goal
use Rattle.bspl_types.specs.Expansion.{param_name}

pub returns-in_ok-push_field-in-Incomplete-2 : goal.returns-in_ok-push_field-in-Incomplete-2
returns-in_ok-push_field-in-Incomplete-2 c =
    let fields = three_fields c.args.text.now (codes "quiet") (codes "unbound") (param_name c.args.x.now c.in-Incomplete.param) in
    let written = rw (c.in_ok-push_field-in-Incomplete-2.ensures, c.in_ok-push_field-in-Incomplete.ensures, c.param_name.ensures, fields) at c.push_field-in-Incomplete-3.ensures in
    rw c.in-Incomplete.is written
