-- A text that is not read is no budget, and 0 is none.
use Rattle.std.proofs.Common.{arith}
use Rattle.ask_commands.proofs.ArgumentLemmas.{not_read, zero_read}
use Rattle.ask_commands.proofs.conflicts.budget_of.Goals as goal

pub returns-in-Err : goal.returns-in-Err
returns-in-Err c = not_read c.args.text.now c.in-Err.field-0 c.in-Err.ensures

pub returns-then-value-lt1 : goal.returns-then-value-lt1
returns-then-value-lt1 c = zero_read c.args.text.now c.in-Ok.value c.in-Ok.ensures.0 (omega (arith, c.if-value-lt1.true))
