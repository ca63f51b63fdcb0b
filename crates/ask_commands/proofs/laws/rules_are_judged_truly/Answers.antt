-- The status of judged rules is true of each of them.
use Rattle.ask_commands.proofs.RuleLemmas.{done_kept, refuted_broken}
use Rattle.ask_commands.proofs.laws.rules_are_judged_truly.Goals as goal

pub returns-clause-kept : goal.returns-clause-kept
returns-clause-kept c = done_kept (record { question = c.means_once.ensures.question; answer = c.same_has_same_answer.ensures }) c.rules_once.ensures.rules

pub returns-clause-broken : goal.returns-clause-broken
returns-clause-broken c = refuted_broken
