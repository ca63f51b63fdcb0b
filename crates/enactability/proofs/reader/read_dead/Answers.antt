-- A text has one answer.
use Rattle.std.proofs.Common.{subst}
use Rattle.std.proofs.lemmas.Result.{MatchResult-from_both}
use Rattle.bspl_types.specs.declared.expanded.Expanded.{Expanded}
use Rattle.enactability.proofs.OneAnswer.{AnswerHolds, reads_one, refuses_one}
use Rattle.enactability.proofs.reader.read_dead.Goals as goal

pub returns-clause-reads : goal.returns-clause-reads
returns-clause-reads c =
    let law = c.dead_texts_read_once.ensures in
    let r = c.dead_of.result in
    let text = c.args.text.now in
    reads_one c.args.a.now text law.logs law.exclusive r
    (subst (λ (x : Expanded). AnswerHolds x text r) c.expanded.ensures.same (MatchResult-from_both r _ _ c.dead_of.ensures.ok c.dead_of.ensures.refused))

pub returns-clause-refuses : goal.returns-clause-refuses
returns-clause-refuses c =
    let law = c.dead_texts_read_once.ensures in
    let r = c.dead_of.result in
    let text = c.args.text.now in
    refuses_one c.args.a.now text law.refusals law.exclusive r
    (subst (λ (x : Expanded). AnswerHolds x text r) c.expanded.ensures.same (MatchResult-from_both r _ _ c.dead_of.ensures.ok c.dead_of.ensures.refused))
