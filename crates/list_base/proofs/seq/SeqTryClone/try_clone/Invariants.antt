-- What the loop over the items has copied.
use Rattle.std.proofs.Common.{◌≡◌, take}
use Rattle.list_base.proofs.seq.SeqTryClone.try_clone.Given as goal

-- the items before the index were copied
abbrev pub invariant-loop-item : goal.invariant-loop-item
invariant-loop-item g l = l.copies ≡ take l.item-index l.item-items
