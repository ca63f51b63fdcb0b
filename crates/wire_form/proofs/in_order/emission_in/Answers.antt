-- An emission has these three members.
use Rattle.std.proofs.Common.{sym, ap, ◌∙◌}
use Rattle.std.proofs.lemmas.Bool.{eqb-true}
use Rattle.std.proofs.lemmas.List.{nil_from_length}
use Rattle.json.specs.Value.{members_view, value_view}
use Rattle.wire_form.proofs.InOrderLemmas.{attempt_read}
use Rattle.wire_form.proofs.in_order.emission_in.Goals as goal

pub returns : goal.returns
returns c =
    let none = nil_from_length c.in_ok-outs.rest.now (eqb-true _ _ (sym c.is_empty.ensures ∙ c.if-not-is_empty.false)) in
    attempt_read (value_view c.args.value.now) _ _ _ _ _ _ _ _ _ _ c.in_ok-members_of.ensures c.in_ok-key.ensures c.in_ok-message.ensures c.in_ok-outs.ensures (ap members_view none)
    c.in_ok-texts_in.ensures c.in_ok-text_in.ensures c.in_ok-texts_in-2.ensures
