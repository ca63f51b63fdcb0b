-- Which values were passed.
use Rattle.std.proofs.Common.{◌≡◌, ◌++◌, drop}
use Rattle.wire_form.specs.Texts.{texts_in, texts_of}
use Rattle.wire_form.proofs.texts.texts_of.Given as goal

-- with the texts of those that are left it is all of them
abbrev pub invariant-loop-value : goal.invariant-loop-value
invariant-loop-value l = texts_of l.texts.items ++ texts_in (drop l.value-index l.values) ≡ texts_in l.values
