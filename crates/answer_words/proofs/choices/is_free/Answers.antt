-- A document has nothing that is refused, and another text has its one error.
use Rattle.std.proofs.Common.{inr, refl, arith}
use Rattle.std.proofs.lemmas.Bool.{false≢true}
use Rattle.answer_words.proofs.ChoiceLemmas.{later_byte, later_syntax, text_is_free}
use Rattle.answer_words.proofs.choices.is_free.Goals as goal

pub returns-in-Ok : goal.returns-in-Ok
returns-in-Ok c = (λ on. text_is_free c.answers_once.ensures.exclusive c.args.text.now c.in-Ok.field-0 c.in-Ok.ensures.ok, λ free. refl)

pub returns-then-offset-text : goal.returns-then-offset-text
returns-then-offset-text c =
    let bad = rw c.in-Err-Syntax.field-0-is at c.in-Err-Syntax.ensures.refused in
    (λ on. absurd (false≢true on), λ free. absurd (free (record { offset = c.in-Err-Syntax.offset; within = omega (arith, c.if-offset-text.true); refused = inr bad })))

pub returns-in-Err-Syntax : goal.returns-in-Err-Syntax
returns-in-Err-Syntax c =
    let bad = rw c.in-Err-Syntax.field-0-is at c.in-Err-Syntax.ensures.refused in
    (λ on. later_syntax c.answers_once.ensures.exclusive c.answers_once.ensures.tokens c.args.text.now c.in-Err-Syntax.offset bad (omega (arith, c.if-offset-text.false)), λ free. refl)

pub returns-in-Err-Byte : goal.returns-in-Err-Byte
returns-in-Err-Byte c =
    let bad = rw c.in-Err-Byte.field-0-is at c.in-Err-Byte.ensures.refused in
    (λ on. later_byte c.answers_once.ensures.exclusive c.answers_once.ensures.bytes c.args.text.now c.in-Err-Byte.offset bad (omega (arith, c.if-offset-text-2.false)), λ free. refl)
