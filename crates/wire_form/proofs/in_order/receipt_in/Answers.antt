-- A receipt has these four members.
use Rattle.std.proofs.Common.{sym, ap, ◌∙◌, arith}
use Rattle.std.proofs.lemmas.Bool.{eqb-true}
use Rattle.std.proofs.lemmas.List.{nil_from_length}
use Rattle.json.specs.Value.{members_view, value_view}
use Rattle.wire_form.proofs.InOrderLemmas.{sent_read}
use Rattle.wire_form.proofs.in_order.receipt_in.Goals as goal

pub returns : goal.returns
returns c =
    let none = nil_from_length c.in_ok-values.rest.now (eqb-true _ _ (sym c.is_empty.ensures ∙ c.if-not-is_empty.false)) in (
      omega (arith, c.in_ok-number_in.ensures.0),
      sent_read (value_view c.args.value.now) _ _ _ _ _ _ _ _ _ _ _ _ _ c.in_ok-members_of.ensures c.in_ok-message.ensures c.in_ok-number.ensures c.in_ok-stamp.ensures c.in_ok-values.ensures (ap members_view none)
          c.in_ok-text_in.ensures c.in_ok-number_in.ensures.1 c.in_ok-number_in-2.ensures.1 c.in_ok-fields_in.ensures,
    )
