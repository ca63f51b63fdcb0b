-- One item more.
use Rattle.std.proofs.Common.{take, ◌+◌, sym, subst}
use Rattle.std.specs.List.{AllZip}
use Rattle.bspl_parser.specs.declared.document.Item.TheVariants as item
use Rattle.protocol_expand.specs.Canonical.{IsItemOf}
use Rattle.list_base.proofs.Zipped.{paired_push}
use Rattle.protocol_expand.proofs.schemas.items_of.Goals as goal

pub loop-m-preserved : goal.loop-m-preserved
loop-m-preserved c =
    subst (AllZip (IsItemOf c.args.roles.now c.args.params.now) (take (c.loop-m.m-index + 1) c.args.messages.now)) (sym c.in_ok-push.ensures.ok)
    (paired_push (IsItemOf c.args.roles.now c.args.params.now) c.args.messages.now c.loop-m.items c.loop-m.m-index c.m-item.result (item.Message c.in_ok-schema.schema) c.loop-m-test.true c.m-item.is c.loop-m.invariant c.in_ok-schema.ensures)
