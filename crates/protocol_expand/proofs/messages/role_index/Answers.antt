-- The first index is within, and is where the search ends.
use Rattle.std.proofs.Common.{◌≡◌, ◌+◌, ◌≤◌, ◌∙◌, ℕ, List, Some, sym, arith, rules}
use Rattle.std.specs.Str.{bytes_eq}
use Rattle.protocol_expand.specs.FlatExpansion.{role_index}
use Rattle.protocol_expand.proofs.KnownNamesLemmas.{role_within}
use Rattle.protocol_expand.proofs.ScanLemmas.{at_first, before_first}
use Rattle.protocol_expand.proofs.messages.role_index.Goals as goal

pub loop-index-preserved : goal.loop-index-preserved
loop-index-preserved c =
    let found = role_within c.args.roles.now c.args.name.now c.requires.known in
    let more : (first : ℕ) → role_index c.args.roles.now c.args.name.now ≡ Some first → c.loop-index.index + 1 ≤ first =
    λ first is. before_first (λ (role : List ℕ). bytes_eq role c.args.name.now) c.args.roles.now first c.loop-index.index c.index-roles-index.result is (c.loop-index.invariant.1 first is) c.index-roles-index.is (sym c.is_named.ensures ∙ search rules) in
    (omega (arith, found.1, more found.0 found.2), more)

pub returns : goal.returns
returns c =
    let found = role_within c.args.roles.now c.args.name.now c.requires.known in
    at_first (λ (role : List ℕ). bytes_eq role c.args.name.now) c.args.roles.now found.0 c.loop-index.index c.index-roles-index.result found.2 (c.loop-index.invariant.1 found.0 found.2) c.index-roles-index.is (sym c.is_named.ensures ∙ search rules)
