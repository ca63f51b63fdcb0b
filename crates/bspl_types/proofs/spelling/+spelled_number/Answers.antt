-- A number is the number without its last digit, and that digit.
use Rattle.std.proofs.Common.{rules, ◌/◌, length, ap, arith}
use Rattle.std.proofs.lemmas.Fmt.{decimal_digit, decimal_step, length-decimal-le}
use Rattle.bspl_types.proofs.spelling.+spelled_number.Goals as goal

pub returns-then-number-lt10 : goal.returns-then-number-lt10
returns-then-number-lt10 t c = search (rules, decimal_digit c.args.number c.if-number-lt10.true)

pub push-requires-2 : goal.push-requires-2
push-requires-2 t c = omega (arith, ap length c.spelled_number-digits.ensures, length-decimal-le 20 (c.args.number / 10) (omega arith) (omega (arith, c.ranges.number.fits)) (omega (arith, c.ranges.number.fits)))

pub returns : goal.returns
returns t c = search (rules, decimal_step c.args.number (omega (arith, c.if-number-lt10.false)) (omega (arith, c.ranges.number.fits)))
