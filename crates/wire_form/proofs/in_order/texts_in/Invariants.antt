-- Which items were passed.
use Rattle.std.proofs.Common.{take}
use Rattle.std.specs.List.{AllZip}
use Rattle.wire_form.proofs.InOrderLemmas.{ReadsText}
use Rattle.wire_form.proofs.in_order.texts_in.Given as goal

-- they are read as the texts so far
abbrev pub invariant-loop-item : goal.invariant-loop-item
invariant-loop-item l = AllZip ReadsText (take l.item-index l.items) l.texts.items
