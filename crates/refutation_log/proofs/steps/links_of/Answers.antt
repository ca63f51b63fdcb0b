-- Two fields more are read, and what is wrong with them is wrong with the links.
use Rattle.std.proofs.Common.{rules, ◌≢◌}
use Rattle.std.specs.Option.{option_copied}
use Rattle.refutation_log.specs.declared.line_error.LineError.TheVariants as errors
use Rattle.list_base.specs.Lines.{parts_in}
use Rattle.refutation_log.proofs.Links.{odd_field, no_link, link_read, bad_link_read}
use Rattle.refutation_log.proofs.steps.links_of.Goals as goal

pub returns-in_default-after : goal.returns-in_default-after
returns-in_default-after c =
    let left = rw (c.in-Some.is, c.split_once.ensures.parts, c.in_default-after.is) at c.loop-left.invariant in
    odd_field (parts_in 32 (option_copied c.args.fields)) _ _ _ left

pub returns-in-Err : goal.returns-in-Err
returns-in-Err c =
    let left = rw (c.in-Some.is, c.split_once.ensures.parts, c.in-Some-after.is, c.split_once-in-Some.ensures.parts) at c.loop-left.invariant in
    let other : c.in-Err.error ≢ errors.Number = search rules in
    no_link (parts_in 32 (option_copied c.args.fields)) _ _ _ _ _ _ left other c.in-Err.ensures

pub loop-left-preserved-in_ok-push-in-Ok : goal.loop-left-preserved-in_ok-push-in-Ok
loop-left-preserved-in_ok-push-in-Ok c =
    let left = rw (c.in-Some.is, c.split_once.ensures.parts, c.in-Some-after.is, c.split_once-in-Some.ensures.parts) at c.loop-left.invariant in
    rw c.in_ok-push-in-Ok.ensures.ok (link_read (parts_in 32 (option_copied c.args.fields)) _ _ _ _ _ _ left c.in-Ok.ensures)

pub loop-left-preserved : goal.loop-left-preserved
loop-left-preserved c =
    let left = rw (c.in-Some.is, c.split_once.ensures.parts, c.in-Some-after.is, c.split_once-in-Some.ensures.parts) at c.loop-left.invariant in
    let bad = rw c.in-Err-Number.field-0-is at c.in-Err-Number.ensures in
    bad_link_read (parts_in 32 (option_copied c.args.fields)) _ _ _ _ _ left bad
