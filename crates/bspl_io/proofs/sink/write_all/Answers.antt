-- The step of `write_all`.
use Rattle.std.proofs.Common.{◌∙◌, arith}
use Rattle.std.proofs.Math.Seq.{take-add}
use Rattle.std.proofs.lemmas.List.{take_rest}
use Rattle.std.proofs.KnownBytes.{Appends-trans}
use Rattle.bspl_io.proofs.sink.write_all.Goals as goal

-- the prefix that is written grew by what this call took
pub loop-done-preserved : goal.loop-done-preserved
loop-done-preserved g c =
    let taken = rw take_rest at c.in_ok-n.ensures.bytes in
    record {
      within = grind arith;
      appended = rw take-add (Appends-trans _ _ _ _ _ c.loop-done.invariant.appended taken);
      still = c.in_ok-n.ensures.still (λ fault. c.if-n-eq0.false fault.0) ∙ c.loop-done.invariant.still;
    }
