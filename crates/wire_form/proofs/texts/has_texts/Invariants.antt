-- Which members were passed.
use Rattle.std.proofs.Common.{◌≡◌, ◌++◌, List, All}
use Rattle.wire_form.specs.Texts.{IsStringItem}
use Rattle.wire_form.proofs.TextLemmas.{Entry}
use Rattle.wire_form.proofs.texts.has_texts.Given as goal

-- the members so far are strings
abbrev pub invariant-loop-name : goal.invariant-loop-name
invariant-loop-name l = (done : List Entry) × (l.members.entries ≡ done ++ l.name-iterator) × All (λ e. IsStringItem e.1) done
