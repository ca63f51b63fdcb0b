-- The name of a public parameter that stands before it.
use Rattle.bspl_parser.specs.declared.document.Formal.{Formal}
use Rattle.protocol_expand.proofs.Noted.{item_repeated}
use Rattle.protocol_expand.proofs.repeats.repeated_public.Goals as goal

pub returns-then-branch : goal.returns-then-branch
returns-then-branch c =
    item_repeated (λ (f : Formal). f.name) c.args.public.now c.loop-formal.formal-index c.formal-item.result c.loop-formal.names c.loop-formal-test.true c.formal-item.is c.loop-formal.invariant
    (rw c.if-branch.true at (c.in_ok-note_name.ensures _ c.loop-formal.invariant))
