-- The first roles have their passes, which are unused.
use Rattle.std.proofs.Common.{◌≡◌, ℕ, length, slice_get, Some}
use Rattle.reorder_net.specs.declared.passes.RolePasses.{RolePasses}
use Rattle.reorder_net.specs.Passes.{AreFresh}
use Rattle.reorder_net.specs.inner.Stock.{AreStocks}
use Rattle.reorder_net.proofs.post.Post.new.Given as goal

abbrev pub invariant-loop-role : goal.invariant-loop-role
invariant-loop-role g l = record {
  count : length l.list ≡ l.role;
  stocks : AreStocks l.boxes l.role (λ _. l.role) l.wholes;
  fresh : (k : ℕ) (p : RolePasses) → slice_get l.list k ≡ Some p → AreFresh l.boxes k p;
}
