-- What has been written of the points.
use Rattle.std.proofs.Common.{◌≡◌, ◌++◌, take}
use Rattle.std.specs.List.{flat_map}
use Rattle.run_text.specs.inner.LineFields.{spaced_fields}
use Rattle.report.specs.AuditText.{point_fields}
use Rattle.report.proofs.audit.push_points.Given as goal

-- the fields of the points so far are written
abbrev pub invariant-loop-point : goal.invariant-loop-point
invariant-loop-point l = l.text ≡ l.fn.text ++ spaced_fields (flat_map (point_fields l.x) (take l.point-index l.points))
