-- A text has one run or one refusal.
use Rattle.std.proofs.Common.{codes}
use Rattle.std.proofs.lemmas.List.{append_cancel_right}
use Rattle.run_text.specs.RunText.{event_body}
use Rattle.run_text.proofs.EventLemmas.{same_event}
use Rattle.run_text.proofs.OneAnswer.{not_refused, one_refusal, one_run}
use Rattle.run_text.proofs.laws.reads_once.Goals as goal

pub returns-clause-runs : goal.returns-clause-runs
returns-clause-runs c = λ x text run other admitted is also. one_run x text run other c.spells_once.ensures admitted is also

pub returns-clause-refusals : goal.returns-clause-refusals
returns-clause-refusals c = one_refusal

pub returns-clause-exclusive : goal.returns-clause-exclusive
returns-clause-exclusive c = not_refused

pub returns-clause-events : goal.returns-clause-events
returns-clause-events c = λ x event other admitted fitting also is. same_event x event other c.spells_once.ensures admitted fitting also (append_cancel_right (event_body x event) (event_body x other) (codes "\n") is)
