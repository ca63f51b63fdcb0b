-- One parameter more.
use Rattle.std.proofs.Common.{take, get_or, ◌+◌, sym, subst}
use Rattle.std.specs.List.{AllZip}
use Rattle.std.proofs.lemmas.List.{get_or_default}
use Rattle.bspl_types.specs.declared.protocol.Adornment.TheVariants.{In}
use Rattle.bspl_types.specs.declared.protocol.Carried.{Carried}
use Rattle.protocol_expand.specs.Canonical.{IsFormalOf}
use Rattle.list_base.proofs.Zipped.{paired_push}
use Rattle.protocol_expand.proofs.schemas.formals_of.Goals as goal

pub loop-c-preserved : goal.loop-c-preserved
loop-c-preserved c =
    let first : Carried = record { param = 0; adornment = In } in
    let here : Carried = get_or c.args.carried.now c.loop-c.c-index first in
    subst (AllZip (IsFormalOf c.args.params.now) (take (c.loop-c.c-index + 1) c.args.carried.now)) (sym c.in_ok-push.ensures.ok)
    (paired_push (IsFormalOf c.args.params.now) c.args.carried.now c.loop-c.formals c.loop-c.c-index here c.formal_of.result c.loop-c-test.true
    (get_or_default c.args.carried.now c.loop-c.c-index first here c.loop-c-test.true) c.loop-c.invariant c.formal_of.ensures)
