-- The clause of the number is the order's, and is added under its number.
use Rattle.std.proofs.lemmas.List.Elements.{All-contains}
use Rattle.clause_core.specs.Clause.{VariablesExist}
use Rattle.order_axioms.specs.Order.{order_list}
use Rattle.order_propagator.proofs.GrowthLemmas.{Makes-made, Makes-none, among-made}
use Rattle.order_propagator.proofs.NumberLemmas.{number-among}
use Rattle.order_propagator.proofs.named_trail.NamedTrail.make.Goals as goal

pub returns-in_err-_number-clause-makes : goal.returns-in_err-_number-clause-makes
returns-in_err-_number-clause-makes c = Makes-none _ _ c.requires.can

pub returns-in_err-clause-clause-makes : goal.returns-in_err-clause-clause-makes
returns-in_err-clause-clause-makes c = Makes-none _ _ c.requires.can

pub add-requires-clause-exist : goal.add-requires-clause-exist
add-requires-clause-exist c =
    All-contains (VariablesExist c.args.self.now.trail.vars) (order_list c.args.order) c.in_ok-clause.clause c.requires.can.exist
    (number-among (order_list c.args.order) c.args.number c.in_ok-clause.clause c.in_ok-clause.ensures)

pub returns-clause-makes : goal.returns-clause-makes
returns-clause-makes c =
    Makes-made _ c.args.self.now c.add.new.self c.in_ok-clause.clause c.args.number c.add.result c.add.ensures.ok c.add.ensures.err c.in_ok-clause.ensures c.add.ensures.sound c.requires.can

pub returns-clause-made : goal.returns-clause-made
returns-clause-made c = among-made c.args.self.now c.add.new.self c.in_ok-clause.clause c.args.number c.add.result c.add.ensures.ok
