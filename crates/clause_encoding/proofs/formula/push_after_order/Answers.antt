-- The shared families, and then the clauses of the property.
use Rattle.std.proofs.Common.{ap, subst, List}
use Rattle.std.proofs.lemmas.Result.{IfOk-weaker}
use Rattle.clause_encoding.specs.Formula.{own_clauses, variables_of}
use Rattle.clause_core.specs.Written.{AppendsClauses, Written}
use Rattle.clause_encoding.specs.inner.Order.{families_after_order}
use Rattle.clause_encoding.proofs.AppendsLemmas.{appends_both}
use Rattle.clause_encoding.proofs.formula.push_after_order.Goals as goal

pub push_families-requires : goal.push_families-requires
push_families-requires c =
    record { every_kind = ap (λ vars. vars.kinds) c.requires.exact; small = c.requires.small }

pub returns : goal.returns
returns c =
    let x = c.args.x.now in
    let property = c.args.property in
    let families = subst (λ (written : List Written). AppendsClauses c.args.clauses.now c.push_families.new.clauses written) (ap (families_after_order x) c.requires.exact) c.in_ok-push_families.ensures in
    IfOk-weaker c.push_own.result _ _ (λ _ last. appends_both _ _ _ (families_after_order x (variables_of property x)) (own_clauses property x) families last) c.push_own.ensures
