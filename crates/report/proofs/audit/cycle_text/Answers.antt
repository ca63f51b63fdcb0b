-- The line is written field by field.
use Rattle.std.proofs.Common.{◌∷◌, [], codes}
use Rattle.std.specs.List.{flat_map}
use Rattle.report.specs.AuditText.{point_fields}
use Rattle.report.proofs.LineLemmas.{line_spaced}
use Rattle.report.proofs.audit.cycle_text.Goals as goal

pub returns : goal.returns
returns c =
    let line = line_spaced [] (codes "inconsistent") (codes "cycle" ∷ flat_map (point_fields c.args.x.now) c.args.points.now) in
    rw (c.in_ok-push_points.ensures, c.in_ok-text.ensures, line) at c.in_ok-push.ensures.ok
