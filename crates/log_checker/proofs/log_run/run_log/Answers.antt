-- No entry led to the first table, and one entry more led to the next.
use Rattle.std.proofs.Common.{length, ap, arith}
use Rattle.refutation_log.specs.Entries.{entries}
use Rattle.log_checker.proofs.RunningLog.{counted_more, exist_first, has_run_more, has_run_none}
use Rattle.log_checker.proofs.log_run.run_log.Goals as goal

pub loop-entry-init : goal.loop-entry-init
loop-entry-init c =
    let table = c.in_ok-table.table in
    let is = c.in_ok-table.ensures in
    record {
      run = rw c.entries-entries.ensures.same (has_run_none c.args.formula (entries c.args.log.now) table is.formula is.derived is.ledger);
      counted = omega (arith, ap length is.derived, ap length c.entries-entries.ensures.steps);
      clear = record {
        exist = rw c.in_ok-marks.ensures.vars (exist_first c.args.vars c.args.formula table c.requires.exist is.formula is.derived);
        empty = c.in_ok-marks.ensures.empty;
      };
    }

pub loop-entry-preserved : goal.loop-entry-preserved
loop-entry-preserved c =
    let run = rw c.in-Some.ensures at c.loop-entry.invariant.run in
    let counted = rw c.in-Some.ensures at c.loop-entry.invariant.counted in
    let more = c.in_ok-run_entry.ensures in
    record {
      run = has_run_more c.entries_append.ensures.live c.args.formula (entries c.args.log.now) c.next.new.self _ c.loop-entry.table c.run_entry.new.table run more.ok;
      counted = counted_more _ c.next.new.self c.loop-entry.table c.run_entry.new.table _ counted more.ok;
      clear = more.clear;
    }
