-- A text has one answer.
use Rattle.std.proofs.lemmas.Result.{MatchResult-from_both}
use Rattle.refutation_log.proofs.OneAnswer.{reads, refuses}
use Rattle.refutation_log.proofs.reader.read_log.Goals as goal

pub returns-clause-reads : goal.returns-clause-reads
returns-clause-reads c = reads c.args.text.now c.log_of.result (MatchResult-from_both c.log_of.result _ _ c.log_of.ensures.ok c.log_of.ensures.refused)

pub returns-clause-refuses : goal.returns-clause-refuses
returns-clause-refuses c = refuses c.args.text.now c.log_of.result (MatchResult-from_both c.log_of.result _ _ c.log_of.ensures.ok c.log_of.ensures.refused)
