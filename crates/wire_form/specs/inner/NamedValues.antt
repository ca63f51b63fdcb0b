-- Values with the names of their parameters, as members.
use Rattle.std.specs.Prelude.{List}
use Rattle.serde_json.specs.Data.{Members}
use Rattle.wire_form.specs.declared.named_values.NamedValue.{NamedValue}
use Rattle.wire_form.specs.Reply.{value_data}
use Rattle.wire_form.specs.inner.Sorted.{members_in}

-- each under its name
abbrev pub named_members : List NamedValue → Members
named_members values = members_in (λ n. n.name.now) (λ n. value_data n.value.now) values
