-- The first clauses stay, whatever of the others stands behind them.
use Rattle.std.proofs.Common.{refl, take}
use Rattle.std.proofs.lemmas.Result.{on_ok_weaker}
use Rattle.circuit_clauses.specs.Condition.{condition_of}
use Rattle.order_axioms.specs.Order.{order_list}
use Rattle.question_formula.proofs.OwnLemmas.{first_exist, same_first, still_there, whole_exist}
use Rattle.question_formula.proofs.own_clauses.put_condition.Goals as goal

pub put_behind-requires-clause-exist : goal.put_behind-requires-clause-exist
put_behind-requires-clause-exist c =
    let f = c.args.f.now in
    first_exist c.args.vars (condition_of c.args.c.now) c.in_ok-own.own c.in_ok-own.ensures (order_list f.order) (take c.args.first f.stored.clauses) c.requires.exist

pub invariant_of-f : goal.invariant_of-f
invariant_of-f c =
    let f = c.args.f.now in
    record { variables_exist = whole_exist c.args.vars (condition_of c.args.c.now) c.in_ok-own.own c.in_ok-own.ensures (order_list f.order) (take c.args.first f.stored.clauses) c.requires.exist c.put_behind.new.f c.put_behind.ensures.vars }

pub returns-clause-kept : goal.returns-clause-kept
returns-clause-kept c =
    let f = c.args.f.now in
    let own = c.in_ok-own.own in
    record {
      order = refl;
      there = still_there c.args.first f.stored.clauses own.clauses c.put_behind.new.f.clauses c.requires.there c.put_behind.ensures.some;
      same = same_first c.args.first f.stored.clauses own.clauses c.put_behind.new.f.clauses c.requires.there c.put_behind.ensures.some;
    }

pub returns-clause-ok : goal.returns-clause-ok
returns-clause-ok c =
    on_ok_weaker c.put_behind.result (λ follows. record { own = c.in_ok-own.own; is = c.in_ok-own.ensures; variables = c.put_behind.ensures.vars; follows = follows }) c.put_behind.ensures.ok
