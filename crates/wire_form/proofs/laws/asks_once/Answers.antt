-- What a line asks for is known by its JSON, and means one act.
use Rattle.wire_form.proofs.ActMeaning.{line_has_one_act}
use Rattle.wire_form.proofs.RequestLemmas.{line_asks_once}
use Rattle.wire_form.proofs.laws.asks_once.Goals as goal

pub returns-clause-requests : goal.returns-clause-requests
returns-clause-requests c = line_asks_once

pub returns-clause-acts : goal.returns-clause-acts
returns-clause-acts c = λ x role line one other admitted does also. line_has_one_act c.spells_once.ensures c.fitting_instances_are_one.ensures x role line one other admitted does also
