-- The clause is appended, and its variable exists.
use Rattle.std.proofs.Common.{List, refl, subst}
use Rattle.clause_core.specs.declared.literal.Lit.{Lit}
use Rattle.clause_core.specs.Written.{AppendsClauses}
use Rattle.order_axioms.specs.Order.{order_list}
use Rattle.enactability.specs.EnactFormula.{sent_clause}
use Rattle.enactability.proofs.ClauseLemmas.{appended_after, still_exist, whole_exist}
use Rattle.enactability.proofs.formula.with_sent.Goals as goal

pub invariant_of-stored : goal.invariant_of-stored
invariant_of-stored c =
    let f = c.args.shared.now.stored in
    let m = c.args.message in
    let appends = subst (λ (start : List (List Lit)). AppendsClauses start c.push_sent.new.clauses (sent_clause m)) c.in_ok-clauses.ensures c.in_ok-push_sent.ensures in
    record { variables_exist = still_exist f.vars m f.clauses c.push_sent.new.clauses f.variables_exist c.requires.exists appends }

pub invariant_of-result : goal.invariant_of-result
invariant_of-result c =
    let f = c.args.shared.now in
    let m = c.args.message in
    let appends = subst (λ (start : List (List Lit)). AppendsClauses start c.push_sent.new.clauses (sent_clause m)) c.in_ok-clauses.ensures c.in_ok-push_sent.ensures in
    record { variables_exist = whole_exist f m c.push_sent.new.clauses c.requires.exists appends }

pub returns : goal.returns
returns c =
    let f = c.args.shared.now in
    let m = c.args.message in
    let appends = subst (λ (start : List (List Lit)). AppendsClauses start c.push_sent.new.clauses (sent_clause m)) c.in_ok-clauses.ensures c.in_ok-push_sent.ensures in
    record { vars = refl; clauses = appended_after (order_list f.order) f.stored.clauses c.push_sent.new.clauses (sent_clause m) appends }
