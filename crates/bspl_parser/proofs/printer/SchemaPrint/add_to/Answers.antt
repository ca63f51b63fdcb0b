-- The message that is whole once its bracket is closed.
use Rattle.std.proofs.Common.{◌≡◌, ◌++◌, refl, subst, OnOk, codes}
use Rattle.bspl_parser.specs.Layout.{printed_formal, comma_separated}
use Rattle.bspl_parser.proofs.Appended.{then_more}
use Rattle.bspl_parser.proofs.printer.SchemaPrint.add_to.Goals as goal

pub returns : goal.returns
returns c =
    let old = c.args.text.now in
    let m = c.args.self.now in
    let sent = m.sender.text ++ codes " -> " in
    let received = sent ++ m.receiver.text ++ codes ": " in
    let named = received ++ m.name.text ++ codes "[" in
    let params = comma_separated printed_formal m.params in
    let two = then_more old m.sender.text (codes " -> ") c.in_ok-add_to.ensures c.in_ok-append.ensures.ok in
    let three = then_more old sent m.receiver.text two c.in_ok-add_to-2.ensures in
    let four = then_more old (sent ++ m.receiver.text) (codes ": ") three c.in_ok-append-2.ensures.ok in
    let five = then_more old received m.name.text four c.in_ok-add_to-3.ensures in
    let six = then_more old (received ++ m.name.text) (codes "[") five c.in_ok-push.ensures.ok in
    let seven = then_more old named params six (rw c.as_slice.ensures at c.in_ok-add_joined.ensures) in
    subst (λ text. OnOk c.push-2.result (c.push-2.new.self ≡ text)) (then_more old (named ++ params) (codes "]") seven refl) c.push-2.ensures.ok
