-- Which members were passed.
use Rattle.std.proofs.Common.{◌≡◌, ◌++◌}
use Rattle.wire_form.specs.inner.Asked.{fields_of}
use Rattle.wire_form.specs.inner.Found.{fields_in}
use Rattle.wire_form.proofs.texts.fields_of.Given as goal

-- with those that are left it is all of them
abbrev pub invariant-loop-name : goal.invariant-loop-name
invariant-loop-name l = fields_of l.fields.items ++ fields_in l.name-iterator ≡ fields_in l.members.entries
