-- The text that was made is the layout, which is read back.
use Rattle.std.proofs.Common.{◌++◌, ◌∙◌, ap, sym, subst}
use Rattle.bspl_parser.specs.Alike.{ReadsBack}
use Rattle.bspl_parser.specs.Layout.{printed}
use Rattle.bspl_parser.proofs.Printed.{printed_is_read}
use Rattle.bspl_parser.proofs.printer.print.Goals as goal

pub returns-clause-read_back : goal.returns-clause-read_back
returns-clause-read_back c =
    let d = c.args.document.now in
    let added = rw c.as_slice.ensures at c.in_ok-add_joined.ensures in
    subst (λ text. ReadsBack text d) (sym (added ∙ ap (λ start. start ++ printed d) c.new-text.ensures)) (printed_is_read d c.requires.formed)
