-- By the answer.
use Rattle.message_fates.proofs.FateLemmas.{spent_search}
use Rattle.message_fates.proofs.fates.fate_of.Goals as goal

pub returns-clause-right : goal.returns-clause-right
returns-clause-right c = spent_search c.args.search.now c.args.budget c.args.message c.in_ok-enactable.field-0 c.in-Undecided.field-0 c.in_ok-enactable.ensures.right c.in-Undecided.is
