-- What was put in order.
use Rattle.std.proofs.Common.{◌≡◌, drop}
use Rattle.std.specs.List.{zip}
use Rattle.serde_json.specs.Data.{no_members}
use Rattle.bspl_types.specs.Adornment.{valued}
use Rattle.wire_form.specs.Reply.{put_values}
use Rattle.wire_form.specs.inner.NamedValues.{named_members}
use Rattle.wire_form.proofs.named_values.by_name.Given as goal

-- the values that are left, put among these, are all of them
abbrev pub invariant-loop-c : goal.invariant-loop-c
invariant-loop-c l = put_values l.x (zip (valued (drop l.c-index l.carried)) l.left) (named_members l.sorted.items) ≡ put_values l.x (zip (valued l.carried) l.values) no_members
