-- The kind of the first greater start.
use Rattle.std.proofs.Common.{leb, arith, refl, rules}
use Rattle.std.proofs.lemmas.List.Sorted.{IsPartitionPoint-from_clause, IsPartitionedBy-leb}
use Rattle.order_axioms.specs.inner.Starts.{cycle_start}
use Rattle.order_axioms.proofs.StartLemmas.{cycle_starts_rise, cycles_many, reached_at, starts_rise}
use Rattle.order_axioms.proofs.order_numbers.OrderNumbers.first_kind.Goals as goal

pub returns : goal.returns
returns c =
    let kinds = c.args.self.now.order.kinds in
    let starts = c.args.self.now.cycle_starts.items in
    let are = c.args.self.now.are_cycle_starts.all in
    let parted = IsPartitionedBy-leb (λ start. start) starts c.args.index (starts_rise kinds (cycle_start kinds) starts (cycle_starts_rise kinds) are) in
    let clause = rw c.deref.ensures.value at c.partition_point.ensures.partitioned in
    let point = IsPartitionPoint-from_clause (λ start. leb start c.args.index) starts c.partition_point.result clause parted (λ a r q k. search rules) in
    reached_at kinds (cycle_start kinds) starts c.args.index c.partition_point.result are refl c.requires (rw c.deref.ensures.value at c.partition_point.ensures.bound) point

pub overflow_cast-result : goal.overflow_cast-result
overflow_cast-result c = omega (arith, cycles_many _ _ c.args.self.now.are_cycle_starts, rw c.deref.ensures.value at c.partition_point.ensures.bound)
