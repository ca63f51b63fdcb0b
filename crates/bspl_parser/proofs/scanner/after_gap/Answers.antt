-- Each turn skips a blank or a comment.
use Rattle.std.proofs.Common.{◌∙◌, arith}
use Rattle.bspl_parser.proofs.ScanSteps.{gap_from, room_left}
use Rattle.bspl_parser.proofs.scanner.after_gap.Goals as goal

pub gap-preserved : goal.gap-preserved
gap-preserved c =
    let text = c.args.text.now in
    let n = c.gap_len-skipped.result in
    let some = c.if-skipped-eq0.false in
    (room_left text c.gap.offset n c.gap.invariant.0 c.gap_len-skipped.ensures.within, gap_from text c.gap.offset n c.gap_len-skipped.ensures.exact (omega arith) ∙ c.gap.invariant.1)
