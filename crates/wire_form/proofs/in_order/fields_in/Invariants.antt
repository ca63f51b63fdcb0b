-- Which members were put in order.
use Rattle.std.proofs.Common.{◌≡◌, drop}
use Rattle.json.specs.Value.{members_view}
use Rattle.serde_json.specs.Data.{no_members, string}
use Rattle.serde_json.specs.Read.{of_members}
use Rattle.wire_form.specs.inner.Sorted.{members_in}
use Rattle.wire_form.proofs.in_order.fields_in.Given as goal

-- those that are left, put among these, are all of them
abbrev pub invariant-loop-member : goal.invariant-loop-member
invariant-loop-member l = of_members (members_view (drop l.member-index l.members)) (members_in (λ f. f.name.now) (λ f. string f.text.now) l.fields.items) ≡ of_members (members_view l.members) no_members
