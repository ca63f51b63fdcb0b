-- The messages before the index are passed over.
use Rattle.std.proofs.Common.{take}
use Rattle.std.specs.List.{All}
use Rattle.local_store.specs.State.{key_at}
use Rattle.adapter.specs.Next.{IsPassedOver}
use Rattle.adapter.proofs.next.first_to_emit.Given as goal

abbrev pub invariant-loop-m : goal.invariant-loop-m
invariant-loop-m l = All (IsPassedOver l.script l.store l.n (key_at l.store l.row)) (take l.m-index l.order)
