-- A text that is not read, or is read as too low a number, is none in the range.
use Rattle.std.proofs.Common.{◌<◌, Err, subst}
use Rattle.text_lines.specs.Decimal.{IsReadUpTo}
use Rattle.command_line.proofs.Numbers.{not_read, too_low}
use Rattle.command_line.proofs.number.number_in.Goals as goal

pub returns-in-Err : goal.returns-in-Err
returns-in-Err c =
    not_read c.args.least c.args.most c.args.text.now c.in-Err.field-0 (subst (λ most. IsReadUpTo most c.args.text.now (Err c.in-Err.field-0)) c.from.ensures c.in-Err.ensures)

pub returns-then-value-from : goal.returns-then-value-from
returns-then-value-from c = too_low c.args.least c.args.most c.in-Ok.value c.args.text.now c.in-Ok.ensures.0 (subst (λ least. c.in-Ok.value < least) c.from-2.ensures c.if-value-from.true)
