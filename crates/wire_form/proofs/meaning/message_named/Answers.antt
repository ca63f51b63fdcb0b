-- The index of the first message of the name.
use Rattle.wire_form.proofs.MeaningLemmas.{message_found, no_message_named}
use Rattle.wire_form.proofs.meaning.message_named.Goals as goal

pub returns-in_default : goal.returns-in_default
returns-in_default c = λ m known.
    let none = rw (c.in_default.is, c.as_slice.ensures, c.as_bytes.ensures.value) at c.index_of.ensures in
    no_message_named c.args.x.now c.args.name.now m none known

pub returns : goal.returns
returns c =
    let found = rw (c.in-Some.is, c.as_slice.ensures, c.as_bytes.ensures.value) at c.index_of.ensures in
    message_found c.args.x.now c.args.name.now c.in-Some.index found
