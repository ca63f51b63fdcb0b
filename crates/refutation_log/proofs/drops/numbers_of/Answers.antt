-- One field more is read, and what is wrong with it is wrong with the numbers.
use Rattle.std.proofs.Common.{rules, ◌≢◌, Some}
use Rattle.refutation_log.specs.declared.line_error.LineError.TheVariants as errors
use Rattle.list_base.specs.Lines.{parts_in}
use Rattle.refutation_log.proofs.NumberFields.{no_field, number_read, bad_number_read}
use Rattle.refutation_log.proofs.drops.numbers_of.Goals as goal

pub returns-in-Err : goal.returns-in-Err
returns-in-Err c =
    let left = rw (c.in-Some.is, c.split_once.ensures.parts) at c.loop-left.invariant in
    let other : c.in-Err.error ≢ errors.Number = search rules in
    no_field (parts_in 32 (Some c.args.fields.now)) _ _ _ _ _ left other c.in-Err.ensures.reading

pub loop-left-preserved-in_ok-push-in-Ok : goal.loop-left-preserved-in_ok-push-in-Ok
loop-left-preserved-in_ok-push-in-Ok c =
    let left = rw (c.in-Some.is, c.split_once.ensures.parts) at c.loop-left.invariant in
    rw c.in_ok-push-in-Ok.ensures.ok (number_read (parts_in 32 (Some c.args.fields.now)) _ _ _ _ _ left c.in-Ok.ensures.reading)

pub loop-left-preserved : goal.loop-left-preserved
loop-left-preserved c =
    let left = rw (c.in-Some.is, c.split_once.ensures.parts) at c.loop-left.invariant in
    let bad = rw c.in-Err-Number.field-0-is at c.in-Err-Number.ensures.reading in
    bad_number_read (parts_in 32 (Some c.args.fields.now)) _ _ _ _ left bad
