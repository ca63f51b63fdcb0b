-- The first of the three sorts of faults.
use Rattle.protocol_names.specs.Fault.{IsParamFault, IsUnknown, IsTargetFault}
use Rattle.protocol_names.specs.FaultOrder.{EitherFault, OfSome}
use Rattle.protocol_names.specs.Names.{params_used, roles_used}
use Rattle.protocol_names.proofs.FaultOrderLemmas.{finds_two}
use Rattle.protocol_names.proofs.items.item_fault.Goals as goal

pub returns : goal.returns
returns c =
    let names = c.args.names.now in
    let item = c.args.item.now in
    let protocols = c.args.table.now.protocols.now in
    finds_two (OfSome (IsUnknown names.roles) (roles_used item)) (EitherFault (OfSome (IsParamFault names) (params_used item)) (IsTargetFault protocols item)) _ _ _ c.roles_used_fault-roles.ensures
    (finds_two (OfSome (IsParamFault names) (params_used item)) (IsTargetFault protocols item) _ _ _ (rw c.params_used.ensures at c.params_fault-params.ensures) c.target_fault-reference.ensures c.earlier.ensures) c.earlier-2.ensures
