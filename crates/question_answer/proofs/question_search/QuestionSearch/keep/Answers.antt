-- There is room for one model more.
use Rattle.std.proofs.Common.{subst, sym}
use Rattle.bspl_types.specs.declared.expanded.Expanded.{Expanded}
use Rattle.question_answer.specs.inner.Models.{IsSharedModel}
use Rattle.question_answer.proofs.KeptLemmas.{kept}
use Rattle.question_answer.proofs.question_search.QuestionSearch.keep.Goals as goal

pub invariant_of-self : goal.invariant_of-self
invariant_of-self c =
    let shared = subst (λ (y : Expanded). IsSharedModel y c.args.model) (sym c.self.view_is) c.requires in
    rw c.in_ok-push.ensures.ok (kept c.self.inside.protocol.now c.self.inside.formulas.protocol c.self.inside.models c.args.model c.self.invariant shared (rw c.len.ensures at c.if-len-lt-MOST_MODELS.true))
