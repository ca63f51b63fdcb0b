-- A text has one answer.
use Rattle.std.proofs.lemmas.Result.{MatchResult-from_both}
use Rattle.run_text.proofs.OneAnswer.{reads, refuses}
use Rattle.run_text.proofs.reader.read_run.Goals as goal

pub returns-clause-reads : goal.returns-clause-reads
returns-clause-reads c =
    let holds = rw c.expanded.ensures.same at (MatchResult-from_both c.run_of.result _ _ c.run_of.ensures.ok c.run_of.ensures.refused) in
    reads c.args.a.now c.args.text.now c.run_of.result c.spells_once.ensures c.expanded.ensures.admitted holds

pub returns-clause-refuses : goal.returns-clause-refuses
returns-clause-refuses c =
    let holds = rw c.expanded.ensures.same at (MatchResult-from_both c.run_of.result _ _ c.run_of.ensures.ok c.run_of.ensures.refused) in
    refuses c.args.a.now c.args.text.now c.run_of.result holds
