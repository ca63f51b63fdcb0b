-- The protocol that is whole once its brace is closed.
use Rattle.std.proofs.Common.{◌≡◌, ◌++◌, refl, subst, OnOk, codes}
use Rattle.std.specs.List.{flat_map}
use Rattle.bspl_parser.specs.Layout.{printed_word, printed_formal, comma_separated, indented_line, item_line, private_line, printed_declaration}
use Rattle.bspl_parser.proofs.Appended.{then_more}
use Rattle.bspl_parser.proofs.printer.DeclarationPrint.add_to.Goals as goal

pub returns : goal.returns
unfolding printed_declaration
returns c =
    let old = c.args.text.now in
    let d = c.args.self.now in
    let opened = d.name.text ++ codes " {\n" in
    let roles = indented_line (codes "roles " ++ comma_separated printed_word d.roles) in
    let public = indented_line (codes "parameters " ++ comma_separated printed_formal d.public) in
    let private = private_line d.private in
    let body = flat_map item_line d.body in
    let two = then_more old d.name.text (codes " {\n") c.in_ok-add_to.ensures c.in_ok-append.ensures.ok in
    let three = then_more old opened roles two (rw c.as_slice.ensures at c.in_ok-add_list_line.ensures) in
    let four = then_more old (opened ++ roles) public three (rw c.as_slice-2.ensures at c.in_ok-add_list_line-2.ensures) in
    let five = then_more old (opened ++ roles ++ public) private four (rw c.as_slice-3.ensures at c.in_ok-add_private.ensures) in
    let six = then_more old (opened ++ roles ++ public ++ private) body five (rw c.as_slice-4.ensures at c.in_ok-add_each.ensures) in
    subst (λ text. OnOk c.append-2.result (c.append-2.new.self ≡ text)) (then_more old (opened ++ roles ++ public ++ private ++ body) (codes "}\n") six refl) c.append-2.ensures.ok
