-- What is answered of a flat protocol is answered of the one that it stands for.
use Rattle.std.proofs.Common.{List, Result, Ok, Err}
use Rattle.std.specs.Prelude.{IfOk, IfErr}
use Rattle.bspl_types.specs.declared.expanded.Expanded.{Expanded}
use Rattle.bspl_types.specs.declared.refusals.Refusal.{Refusal}
use Rattle.bspl_types.specs.declared.refusals.Refusal.TheVariants.{Duplicate, NoMemory}
use Rattle.bspl_parser.specs.declared.document.Declaration.{Declaration}
use Rattle.protocol_paths.specs.Flat.{IsFlat}
use Rattle.protocol_expand.specs.FlatExpansion.{IsExpansionOf}
use Rattle.protocol_expand.specs.inner.Flat.{ExpandsFlat, RefusesFlat, RefusesTop}

-- its expansion
pub expands_top : (protocols : List Declaration) (top flat : Declaration) (result : Result Expanded Refusal) → IsFlat protocols top flat → IfOk result (IsExpansionOf flat) → IfOk result (ExpandsFlat protocols top)
expands_top protocols top flat (Ok x) is_flat expands = record { flat = flat; is_flat = is_flat; expands = expands }
expands_top protocols top flat (Err r) is_flat expands = tt

-- and why it has none
pub refuses_top : (protocols : List Declaration) (top flat : Declaration) (result : Result Expanded Refusal) → IsFlat protocols top flat → IfErr result (RefusesFlat flat) → IfErr result (RefusesTop protocols top)
refuses_top protocols top flat (Ok x) is_flat refused = tt
refuses_top protocols top flat (Err (Duplicate offset)) is_flat refused = (flat, is_flat, refused)
refuses_top protocols top flat (Err NoMemory) is_flat refused = tt
refuses_top protocols top flat (Err r) is_flat refused = absurd refused
