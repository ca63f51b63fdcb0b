-- The law, by its lemmas.
use Rattle.protocol_expand.proofs.OneRefusal.{never_refused, refused_once}
use Rattle.protocol_expand.proofs.laws.refuses_once.Goals as goal

pub returns-clause-refusals : goal.returns-clause-refusals
returns-clause-refusals c = refused_once

pub returns-clause-exclusive : goal.returns-clause-exclusive
returns-clause-exclusive c = never_refused
