-- A text of histories has one reading or one first bad line.
use Rattle.history_audit.proofs.OneReading.{not_refused, one_reading, one_refusal}
use Rattle.history_audit.proofs.laws.reads_once.Goals as goal

pub returns-clause-histories : goal.returns-clause-histories
returns-clause-histories c = one_reading c.reads_once.ensures.events (record { names = c.names_are_fields.ensures; events = c.events_are_lines.ensures })

pub returns-clause-refusals : goal.returns-clause-refusals
returns-clause-refusals c = one_refusal c.reads_once.ensures.events

pub returns-clause-exclusive : goal.returns-clause-exclusive
returns-clause-exclusive c = not_refused c.reads_once.ensures.events (record { names = c.names_are_fields.ensures; events = c.events_are_lines.ensures })
