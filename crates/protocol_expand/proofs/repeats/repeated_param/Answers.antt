-- The name of a parameter that stands before it.
use Rattle.std.proofs.Common.{map}
use Rattle.bspl_parser.specs.declared.document.Formal.{Formal}
use Rattle.protocol_expand.proofs.Noted.{still_repeated}
use Rattle.protocol_expand.proofs.repeats.repeated_param.Goals as goal

pub returns-in-Some : goal.returns-in-Some
returns-in-Some c = still_repeated (map (λ (f : Formal). f.name) c.args.public.now) c.args.private.now _ (rw c.in-Some.is at c.in_ok-offset.ensures)

pub returns : goal.returns
returns c = c.repeated_private.ensures (map (λ (f : Formal). f.name) c.args.public.now) (rw c.in_default.is at c.in_ok-offset.ensures)
