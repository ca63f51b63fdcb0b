-- No role knows the parameter if none so far does and the next one does not.
use Rattle.std.proofs.Common.{below_more, sym, ◌∙◌, arith}
use Rattle.std.proofs.lemmas.Bool.{false≢true}
use Rattle.enactment_model.proofs.RoleLemmas.{not_bound}
use Rattle.enactment_model.proofs.boundness.is_bound.Goals as goal

pub loop-role-preserved : goal.loop-role-preserved
loop-role-preserved c =
    below_more _ _ c.loop-role.invariant (λ known. false≢true (sym c.if-is_some.false ∙ c.is_some.ensures ∙ c.knows.ensures.exact.1 known))

pub returns : goal.returns
returns c = (
  λ wrong. absurd (false≢true wrong),
  λ bound. absurd (not_bound c.args.x.now c.args.run.now c.args.key.now c.args.param c.loop-role.role c.requires (omega arith) c.loop-role.invariant bound),
)
