-- The order clauses, and then the others.
use Rattle.std.proofs.Common.{List, [], ap, sym, subst}
use Rattle.clause_core.specs.declared.literal.Lit.{Lit}
use Rattle.clause_encoding.specs.Families.{order_clauses}
use Rattle.clause_encoding.specs.Formula.{variables_of}
use Rattle.clause_core.specs.Written.{AppendsClauses, Written}
use Rattle.clause_encoding.specs.inner.Order.{clauses_after_order}
use Rattle.clause_encoding.proofs.AppendsLemmas.{appends_both}
use Rattle.clause_encoding.proofs.OrderLemmas.{all_clauses}
use Rattle.clause_encoding.proofs.formula.clauses_with.Goals as goal

pub returns : goal.returns
returns c =
    let x = c.args.x.now in
    let property = c.args.property in
    let order = subst (λ (old : List (List Lit)). AppendsClauses old c.push_order.new.clauses (order_clauses c.args.vars)) c.new-clauses.ensures c.in_ok-push_order.ensures in
    let first = subst (λ (written : List Written). AppendsClauses [] c.push_order.new.clauses written) (ap order_clauses c.requires.exact) order in
    subst (AppendsClauses [] c.push_after_order.new.clauses) (sym (all_clauses property x))
    (appends_both [] c.push_order.new.clauses c.push_after_order.new.clauses (order_clauses (variables_of property x)) (clauses_after_order property x) first c.in_ok-push_after_order.ensures)
