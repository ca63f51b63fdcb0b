-- Another number of strings spells no key of the protocol.
use Rattle.std.proofs.Common.{length, ap, arith}
use Rattle.bspl_types.specs.declared.expanded.Expanded.{Expanded}
use Rattle.role_questions.proofs.MeaningLemmas.{as_many_values}
use Rattle.role_questions.proofs.line.key_of.Goals as goal

pub returns-then-items-len : goal.returns-then-items-len
returns-then-items-len c = λ values is.
    absurd (c.if-items-len.true (omega (arith, as_many_values c.args.items.now values is.spelled, is.whole, c.len.ensures, ap (λ (x : Expanded). length x.keys) c.expanded.ensures.same)))
