-- The names of roles are distinct by the shape of an expansion.
use Rattle.std.proofs.Common.{ℕ, List, []}
use Rattle.bspl_types.proofs.LookupLemmas.{one_named}
use Rattle.bspl_types.proofs.laws.roles_are_named_once.Goals as goal

pub returns : goal.returns
returns c = λ x name m n one other. one_named (λ (role : List ℕ). role) x.roles name m n [] x.shape.role_names.distinct one.known one.named other.known other.named
