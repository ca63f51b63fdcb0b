-- The parts of the text of a message.
use Rattle.std.proofs.Common.{rules, ◌≡◌, [], ◌∷◌, ◌++◌, false, codes, sym, ap, ◌∙◌}
use Rattle.std.specs.Prelude.{decimal}
use Rattle.std.specs.List.{zip}
use Rattle.std.proofs.lemmas.Result.{on_ok_weaker}
use Rattle.json.specs.Print.{quoted}
use Rattle.serde_json.specs.Data.{no_members}
use Rattle.serde_json.specs.Written.{compact_text, members_text}
use Rattle.bspl_types.specs.Adornment.{valued}
use Rattle.bspl_types.specs.Expansion.{message_name}
use Rattle.bspl_types.specs.Instance.{pairs}
use Rattle.list_base.specs.Numeral.{numeral}
use Rattle.wire_form.specs.Reply.{message_data, put_values}
use Rattle.wire_form.proofs.WritingLemmas.{message_text, parts_are}
use Rattle.wire_form.proofs.message_text.push_message.Goals as goal

pub returns : goal.returns
returns c =
    let text = c.args.text.now in
    let x = c.args.x.now in
    let m = c.args.message.now in
    let name = c.message_name.result.now in
    let members = put_values x (pairs x m.instance) no_members in
    let values = members_text false (put_values x (zip (valued c.carried_of-carried.result.now) c.as_slice.result.now) no_members) in
    let number : numeral c.from.result ≡ decimal m.number = ap numeral c.from.ensures ∙ c.numerals_are_decimals.ensures m.number (search rules) in
    let stamp : numeral m.stamp ≡ decimal m.stamp = c.numerals_are_decimals.ensures m.stamp (search rules) in
    let whole : codes "{\"message\":" ++ (quoted name ++ (codes ",\"number\":" ++ (numeral c.from.result ++ (codes ",\"stamp\":" ++ (numeral m.stamp ++ (codes ",\"values\":{" ++ (values ++ 125 ∷ [])))))))
    ≡ compact_text (message_data x m) = rw (c.message_name.ensures, number, stamp, c.carried_of-carried.ensures, c.as_slice.ensures.values) (sym (message_text (message_name x m.instance.message) m.number m.stamp members)) in
    on_ok_weaker c.push.result (λ e.
    e ∙ ap (λ t. t ++ 125 ∷ []) (c.in_ok-push_values.ensures ∙ ap (λ t. t ++ values) (c.in_ok-append-4.ensures.ok ∙ ap (λ t. t ++ codes ",\"values\":{") (c.in_ok-push_decimal-2.ensures ∙ ap (λ t. t ++ numeral m.stamp) (c.in_ok-append-3.ensures.ok ∙ ap (λ t. t ++ codes ",\"stamp\":")
    (c.in_ok-push_decimal.ensures ∙ ap (λ t. t ++ numeral c.from.result) (c.in_ok-append-2.ensures.ok ∙ ap (λ t. t ++ codes ",\"number\":") (c.in_ok-push_quoted.ensures ∙ ap (λ t. t ++ quoted name) c.in_ok-append.ensures.ok)))))))
    ∙ parts_are text (codes "{\"message\":") (quoted name) (codes ",\"number\":") (numeral c.from.result) (codes ",\"stamp\":") (numeral m.stamp) (codes ",\"values\":{") values (125 ∷ []) ∙ ap (λ t. text ++ t) whole) c.push.ensures.ok
