-- The index that is found is that of the role of the name.
use Rattle.std.proofs.Common.{ℕ, List, []}
use Rattle.bspl_types.proofs.LookupLemmas.{found, none_found}
use Rattle.bspl_types.proofs.expanded.Expanded.role_named.Goals as goal

pub returns-in-Some : goal.returns-in-Some
returns-in-Some c =
    let at = found (λ (role : List ℕ). role) c.args.self.now.roles c.args.name.now c.in-Some.index ([]) (rw c.as_slice.ensures at c.in-Some.ensures) in
    record { known = at.0; named = at.1 }

pub returns-in-None : goal.returns-in-None
returns-in-None c = λ index is. none_found (λ (role : List ℕ). role) c.args.self.now.roles c.args.name.now index ([]) (rw c.as_slice.ensures at c.in-None.ensures) is.known is.named
