-- The parameters that are lent are the message's.
use Rattle.std.proofs.Common.{List, MatchOption, subst}
use Rattle.std.specs.List.{All}
use Rattle.bspl_types.specs.declared.protocol.Carried.{Carried}
use Rattle.bspl_types.specs.Adornment.{Binds}
use Rattle.protocol_expand.specs.NotAdmitted.{IsFirstMissing}
use Rattle.protocol_expand.proofs.message_fault.missing_key.Goals as goal

pub returns : goal.returns
returns c =
    subst (λ (carried : List Carried). MatchOption c.first_missing.result (All (Binds carried) c.args.keys.now) (IsFirstMissing carried c.args.keys.now)) c.as_slice.ensures c.first_missing.ensures
