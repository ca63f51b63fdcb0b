-- An emission means the message of its name, if there are as many values as it asks for.
use Rattle.wire_form.proofs.ActLemmas.{no_attempt_named}
use Rattle.wire_form.proofs.meaning.attempt_of.Goals as goal

pub returns-in_default : goal.returns-in_default
returns-in_default c = no_attempt_named c.args.x.now c.args.role _ _ _ (rw c.in_default.is at c.message_named.ensures)
