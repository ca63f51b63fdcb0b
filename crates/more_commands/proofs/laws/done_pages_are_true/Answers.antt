-- Both verdicts are right, and so is what is said of the rules.
use Rattle.more_commands.proofs.VerdictLemmas.{done_true}
use Rattle.more_commands.proofs.laws.done_pages_are_true.Goals as goal

pub returns-clause-verdicts : goal.returns-clause-verdicts
returns-clause-verdicts c = λ x rules given out is. done_true x 10000 is.verdicts is.right is.ends

pub returns-clause-rules : goal.returns-clause-rules
returns-clause-rules c = λ x rules given out status page. c.rules_are_shown_truly.ensures x 10000 rules page.ruled page.judges
