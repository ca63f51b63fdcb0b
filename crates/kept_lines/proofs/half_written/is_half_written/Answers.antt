-- One byte more, which is as it was written or 0.
use Rattle.std.proofs.Common.{◌≡◌, inl, inr, arith}
use Rattle.std.specs.Prelude.{slice_index_or as get_or}
use Rattle.kept_lines.proofs.HalfLemmas.{IsLeftOf, half_take_more}
use Rattle.kept_lines.proofs.half_written.is_half_written.Goals as goal
use Rattle.kept_lines.proofs.half_written.is_half_written.Goals.{else-byte-written-via-then-byte-written+else-byte-ne0, else-byte-written-via-else-byte-written}

pub loop-index-preserved : goal.loop-index-preserved
loop-index-preserved c =
    let written = c.args.written.now in
    let left = c.args.left.now in
    let index = c.loop-index.index in
    let of_its_own : IsLeftOf (get_or written index 0) (get_or left index 0) =
    (elim c.else-byte-written.branch as (λ _. IsLeftOf (get_or written index 0) (get_or left index 0)) [
      | else-byte-written-via-then-byte-written+else-byte-ne0 w ↦ inr (omega (arith, w.if-byte-ne0.false))
      | else-byte-written-via-else-byte-written w ↦ inl (omega (arith, w.if-byte-written.false))
    ]) in
    half_take_more written left index (omega (arith, c.loop-index-test.true, c.if-left-written.false)) (omega (arith, c.loop-index-test.true)) c.loop-index.invariant of_its_own
