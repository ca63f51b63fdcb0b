-- One byte more.
use Rattle.std.proofs.Common.{◌≡◌, ◌≤◌, ◌+◌, take, arith}
use Rattle.kept_lines.specs.Text.{whole_lines}
use Rattle.kept_lines.proofs.TextLemmas.{before_at_other, whole_at_lf, whole_at_other}
use Rattle.kept_lines.proofs.text.text_end.Goals as goal
use Rattle.kept_lines.proofs.text.text_end.Goals.{then-byte-eq10, else-byte-eq10}

-- the whole lines reach to this byte if it is an LF, and stay else
pub loop-index-preserved : goal.loop-index-preserved
loop-index-preserved c =
    let image = c.args.image.now in
    let index = c.loop-index.index in
    let before = c.loop-index.invariant in
    record {
      within = (elim c.if-byte-eq10.branch as (λ _. c.if-byte-eq10.len ≤ index + 1) [
        | then-byte-eq10 w ↦ omega (arith, w.len-is)
        | else-byte-eq10 w ↦ omega (arith, w.len-is, before.within)
      ]);
      lines = (elim c.if-byte-eq10.branch as (λ _. take c.if-byte-eq10.len image ≡ whole_lines (take (index + 1) image)) [
        | then-byte-eq10 w ↦
            rw w.len-is (whole_at_lf image index (omega (arith, c.loop-index-test.true)) (omega (arith, w.if-byte-eq10.true)))
        | else-byte-eq10 w ↦
            rw w.len-is (whole_at_other image index (omega (arith, c.loop-index-test.true)) c.loop-index.len (λ is_lf. w.if-byte-eq10.false is_lf) before.lines)
      ]);
      before = before_at_other image index (omega (arith, c.loop-index-test.true)) (λ is_zero. c.if-byte-eq0.false is_zero) before.before;
    }
