-- Both verdicts are right, and the words on them come one after the other.
use Rattle.std.proofs.Common.{◌<◌, length, subst, sym}
use Rattle.bspl_types.specs.declared.expanded.Expanded.{Expanded}
use Rattle.verdict.specs.Right.{IsRight}
use Rattle.verdict.specs.RightLiveness.{IsRightLiveness}
use Rattle.answer_words.specs.VerdictText.{IsVerdictWords}
use Rattle.answer_words.proofs.WordLemmas.{both_words}
use Rattle.answer_words.proofs.verdict_text.verdict_words.Goals as goal

pub push_safety-requires : goal.push_safety-requires
push_safety-requires c =
    (c.requires.0, subst (λ (y : Expanded). IsRight y c.requires.0 c.args.v.now.safety) (sym c.expanded-x.ensures.same) c.requires.1.safety)

pub push_liveness-requires-clause-some_key : goal.push_liveness-requires-clause-some_key
push_liveness-requires-clause-some_key c =
    subst (λ (y : Expanded). 0 < length y.keys) (sym c.expanded-x.ensures.same) c.is_admitted.ensures.some_key

pub push_liveness-requires-clause-right : goal.push_liveness-requires-clause-right
push_liveness-requires-clause-right c =
    (c.requires.0, subst (λ (y : Expanded). IsRightLiveness y c.requires.0 c.args.v.now.liveness) (sym c.expanded-x.ensures.same) c.requires.1.liveness)

pub returns : goal.returns
returns c =
    subst (λ (y : Expanded). IsVerdictWords y c.args.v.now c.push_liveness.new.text) c.expanded-x.ensures.same
    (both_words c.expanded-x.result.now c.args.v.now c.push_safety.new.text c.push_liveness.new.text (rw c.new-text.ensures at c.in_ok-push_safety.ensures) c.in_ok-push_liveness.ensures)
