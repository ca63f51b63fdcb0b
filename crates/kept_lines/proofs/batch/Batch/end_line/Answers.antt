-- The begun line is answered, whether it lies in the piece as a whole or not.
use Rattle.std.proofs.Common.{◌≡◌, ◌∙◌, refl}
use Rattle.std.proofs.lemmas.Result.{on_ok_weaker}
use Rattle.kept_lines.specs.inner.Coming.{begun_more}
use Rattle.kept_lines.proofs.PieceLemmas.{ends_held, ends_whole}
use Rattle.kept_lines.proofs.batch.Batch.end_line.Goals as goal

pub returns-then-is_empty-clause-adds : goal.returns-then-is_empty-clause-adds
returns-then-is_empty-clause-adds g c =
    on_ok_weaker c.answer.result (ends_whole g.A.Responder.answers c.args.responder.now c.answer.new.responder c.args.begun.now c.args.last.now c.args.self.now c.answer.new.self (c.if-is_empty.ensures.0 refl)) c.answer.ensures

pub returns-clause-adds : goal.returns-clause-adds
returns-clause-adds g c =
    let line : c.as_slice.result.now ≡ begun_more c.args.begun.now c.args.last.now = c.as_slice.ensures ∙ c.replace-line.ensures.value ∙ c.in_ok-hold.ensures in
    on_ok_weaker c.answer-2.result (ends_held g.A.Responder.answers c.args.responder.now c.answer-2.new.responder c.args.begun.now c.args.last.now c.as_slice.result.now c.args.self.now c.answer-2.new.self line) c.answer-2.ensures
