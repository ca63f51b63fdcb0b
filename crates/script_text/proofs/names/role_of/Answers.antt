-- The name is that of the item at the index that is found.
use Rattle.std.proofs.Common.{List, ℕ, [], sym, ◌∙◌}
use Rattle.script_text.proofs.NameLemmas.{found_named, none_named}
use Rattle.script_text.proofs.names.role_of.Goals as goal

pub returns-in_err-index : goal.returns-in_err-index
returns-in_err-index c =
    let none = rw c.as_slice.ensures at (sym c.in_err-index.was ∙ c.index_of.ensures) in
    rw c.from_residual.ensures (none_named (λ (r : List ℕ). r) c.args.x.now.roles c.args.name.now [] none)

pub returns : goal.returns
returns c =
    let found = rw c.as_slice.ensures at (sym c.in_ok-index.was ∙ c.index_of.ensures) in
    found_named (λ (r : List ℕ). r) c.args.x.now.roles c.args.name.now c.in_ok-index.index [] found
