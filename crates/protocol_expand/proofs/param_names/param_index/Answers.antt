-- The first index is within, and is where the search ends.
use Rattle.std.proofs.Common.{◌≡◌, ◌+◌, ◌≤◌, ◌∙◌, ℕ, Some, sym, arith, rules}
use Rattle.std.specs.Str.{bytes_eq}
use Rattle.bspl_types.specs.declared.protocol.ParamInfo.{ParamInfo}
use Rattle.protocol_expand.specs.FlatExpansion.{param_index}
use Rattle.protocol_expand.proofs.KnownNamesLemmas.{param_within}
use Rattle.protocol_expand.proofs.ScanLemmas.{at_first, before_first}
use Rattle.protocol_expand.proofs.param_names.param_index.Goals as goal

pub loop-index-preserved : goal.loop-index-preserved
loop-index-preserved c =
    let found = param_within c.args.params.now c.args.name.now c.requires in
    let more : (first : ℕ) → param_index c.args.params.now c.args.name.now ≡ Some first → c.loop-index.index + 1 ≤ first =
    λ first is. before_first (λ (p : ParamInfo). bytes_eq p.name c.args.name.now) c.args.params.now first c.loop-index.index c.index-params-index.result is (c.loop-index.invariant.1 first is) c.index-params-index.is (sym c.has_name.ensures ∙ search rules) in
    (omega (arith, found.1, more found.0 found.2), more)

pub returns-clause-found : goal.returns-clause-found
returns-clause-found c =
    let found = param_within c.args.params.now c.args.name.now c.requires in
    at_first (λ (p : ParamInfo). bytes_eq p.name c.args.name.now) c.args.params.now found.0 c.loop-index.index c.index-params-index.result found.2 (c.loop-index.invariant.1 found.0 found.2) c.index-params-index.is (sym c.has_name.ensures ∙ search rules)
