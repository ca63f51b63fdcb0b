-- The passes of a role, when one of them is as it was.
use Rattle.std.proofs.Common.{◌≡◌, ℕ, set, Some, slice_get, ap, ◌∙◌}
use Rattle.reorder_net.specs.declared.passes.RolePasses.{RolePasses}
use Rattle.reorder_net.specs.Pass.{PassState}
use Rattle.reorder_net.proofs.ItemLemmas.{set_same}

-- a pass is set to what it was
pub kept_passes : (p : RolePasses) (i : ℕ) (old new : PassState) → slice_get p.puts i ≡ Some old → new ≡ old → ◌≡◌ {A = RolePasses} (record { puts = set p.puts i new; own = p.own }) p
kept_passes p i old new at same = ap (λ l. record { puts = l; own = p.own }) (ap (λ x. set p.puts i x) same ∙ set_same p.puts i old at)
