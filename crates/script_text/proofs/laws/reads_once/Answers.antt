-- The law, by its lemmas.
use Rattle.script_text.proofs.OneAnswer.{gives_one, not_refused, refused_once}
use Rattle.script_text.proofs.laws.reads_once.Goals as goal

pub returns-clause-script : goal.returns-clause-script
returns-clause-script c = λ x text script other plan another _. gives_one c.spells_once.ensures x text script other plan another

pub returns-clause-refusal : goal.returns-clause-refusal
returns-clause-refusal c = λ x text refusal other _. refused_once c.spells_once.ensures x text refusal other

pub returns-clause-exclusive : goal.returns-clause-exclusive
returns-clause-exclusive c = λ x text script plan refusal _. not_refused c.spells_once.ensures x text script plan refusal
