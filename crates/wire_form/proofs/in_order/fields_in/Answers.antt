-- All members were put in order.
use Rattle.std.proofs.Common.{sym, ap, ◌∙◌}
use Rattle.std.proofs.lemmas.List.{drop_all}
use Rattle.json.specs.Value.{members_view, value_view}
use Rattle.serde_json.specs.Data.{string}
use Rattle.serde_json.specs.Read.{of_members}
use Rattle.wire_form.specs.inner.Sorted.{members_in}
use Rattle.wire_form.proofs.InOrderLemmas.{fields_read}
use Rattle.wire_form.proofs.in_order.fields_in.Goals as goal

pub returns : goal.returns
returns c =
    let l = c.loop-member in
    let members = c.in_ok-members.members.now in
    let none = drop_all l.member-index members c.loop-member-test.false in
    fields_read (value_view c.args.value.now) (members_view members) l.fields.items c.in_ok-members.ensures
    (sym l.invariant ∙ ap (λ ms. of_members (members_view ms) (members_in (λ f. f.name.now) (λ f. string f.text.now) l.fields.items)) none)
