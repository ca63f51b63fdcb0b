-- The line is written field by field.
use Rattle.report.proofs.LineLemmas.{not_live_written}
use Rattle.report.proofs.verdict_lines.push_not_live.Goals as goal
use Rattle.bspl_types.specs.Expansion.{param_name}

pub returns : goal.returns
returns c =
    let line = not_live_written c.args.text.now (param_name c.args.x.now c.args.param) in
    rw (c.in_ok-push_field.ensures, c.in_ok-append.ensures.ok, c.param_name.ensures, line) at c.push.ensures.ok
