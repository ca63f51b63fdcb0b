-- A receipt is of the message of its name, if its fields give exactly the message's values.
use Rattle.std.proofs.Common.{length, ap, arith}
use Rattle.wire_form.specs.declared.asked.Field.{Field as TextField}
use Rattle.wire_form.specs.inner.Asked.{fields_of}
use Rattle.wire_form.proofs.ActLemmas.{arrival_long, no_arrival_named, no_arrival_of}
use Rattle.wire_form.proofs.TextLemmas.{fields_long}
use Rattle.wire_form.proofs.meaning.arriving.Goals as goal

pub returns-in_default : goal.returns-in_default
returns-in_default c = no_arrival_named c.args.x.now c.args.role _ _ _ _ (rw c.in_default.is at c.message_named.ensures)

pub returns-then-len : goal.returns-then-len
returns-then-len c =
    let x = c.args.x.now in
    let fields = fields_of c.args.asked.now.fields.items in
    let k = c.in-Some.message in
    let found = rw c.in-Some.is at c.message_named.ensures in
    let given = rw (c.as_slice.ensures, c.as_slice-2.ensures.value, c.message_at-schema.ensures) at c.in_ok-values.ensures in
    no_arrival_of x c.args.role c.args.asked.now.message.now c.args.asked.now.number c.args.asked.now.stamp fields k found (λ values own all long.
    let same = arrival_long x fields k values c.in_ok-values.values all given in
    absurd (c.if-len.true (omega (arith, long, same, c.len.ensures, c.as_slice-2.ensures.len, ap (length {A = TextField}) c.as_slice-2.ensures.value, c.len-2.ensures, fields_long c.args.asked.now.fields.items))))
