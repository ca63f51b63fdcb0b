-- The law, from its lemmas.
use Rattle.enactability.proofs.TextLemmas.{no_fault, one_fault, one_text}
use Rattle.enactability.proofs.laws.dead_texts_read_once.Goals as goal

pub returns-clause-logs : goal.returns-clause-logs
returns-clause-logs c = one_text c.names_are_fields.ensures c.messages_are_named_once.ensures c.reads_once.ensures.logs

pub returns-clause-refusals : goal.returns-clause-refusals
returns-clause-refusals c = one_fault c.names_are_fields.ensures c.reads_once.ensures.refusals

pub returns-clause-exclusive : goal.returns-clause-exclusive
returns-clause-exclusive c = no_fault c.names_are_fields.ensures c.reads_once.ensures.exclusive
