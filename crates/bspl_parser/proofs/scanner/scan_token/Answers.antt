-- The token after the gap is the next one, or the scan stops there.
use Rattle.std.proofs.Common.{ℕ, ◌∙◌}
use Rattle.bspl_parser.specs.declared.packed_token.PackedToken.{PackedToken}
use Rattle.bspl_parser.proofs.ScanSteps.{room_left, token_from, packed_there, stop_from}
use Rattle.bspl_parser.proofs.scanner.scan_token.Goals as goal

pub returns-in_default-clause-ahead : goal.returns-in_default-clause-ahead
returns-in_default-clause-ahead c =
    record {
      short = c.requires.short;
      within = c.after_gap-offset.ensures.within;
      packed = tt;
      ended = stop_from c.args.text.now c.after_gap-offset.result c.after_gap-offset.ensures.no_gap c.in_default.ensures.exact;
    }

pub returns-clause-same : goal.returns-clause-same
returns-clause-same c =
    let packed : PackedToken = record { start = c.after_gap-offset.result; len = c.in-Some.len; kind = c.in-Some.kind } in
    token_from c.args.text.now packed c.after_gap-offset.ensures.no_gap c.in-Some.ensures.exact ∙ c.after_gap-offset.ensures.same

pub returns-clause-ahead : goal.returns-clause-ahead
returns-clause-ahead c =
    let text = c.args.text.now in
    let offset : ℕ = c.after_gap-offset.result in
    let packed : PackedToken = record { start = offset; len = c.in-Some.len; kind = c.in-Some.kind } in
    record {
      short = c.requires.short;
      within = room_left text offset c.in-Some.len c.after_gap-offset.ensures.within c.in-Some.ensures.within.1;
      packed = packed_there text packed c.after_gap-offset.ensures.within c.in-Some.ensures.exact;
      ended = tt;
    }
