-- Whether a protocol, which is given by its number, may be expanded.
use Rattle.std.specs.Prelude.{◌≡◌, ℕ, Bool, List, Some, slice_get}
use Rattle.bspl_types.specs.declared.refusals.What.{What}
use Rattle.bspl_parser.specs.declared.document.Declaration.{Declaration}
use Rattle.reference_graph.specs.Cycle.{IsAcyclic, IsFirstCycle}
use Rattle.protocol_paths.specs.ReferencePath.{IsWithinDepth}
use Rattle.protocol_limits.specs.declared.outcome.LimitError.{LimitError}
use Rattle.protocol_limits.specs.declared.outcome.LimitError.TheVariants.{NoMemory, TooMany}
use Rattle.protocol_limits.specs.declared.outcome.Survey.{Survey}
use Rattle.protocol_limits.specs.declared.outcome.Survey.TheVariants.{Cycle, Over, Within}
use Rattle.protocol_limits.specs.Graph.{graph_of}
use Rattle.protocol_limits.specs.Limits.{AreWithinLimits, IsFirstOver}
use Rattle.protocol_limits.specs.Reported.{AreReported}

-- no path of references from the protocol is a cycle
abbrev pub IsUnrolled : List Declaration → ℕ → Type 0
IsUnrolled protocols top = IsAcyclic (graph_of protocols) top

-- no path is a cycle, and a count is over its limit
pub record IsTooLarge (protocols : List Declaration) (top : ℕ) (what : What)
    (count : ℕ) : Type 0 where
  pub unrolled : IsUnrolled protocols top
  pub over : IsFirstOver protocols top what count

-- no path is a cycle, all counts are within their limits, no path has more references than the
-- depth, and the flags are right
pub record IsExpandable (protocols : List Declaration) (top depth : ℕ)
    (messages privates : List Bool) : Type 0 where
  pub unrolled : IsUnrolled protocols top
  pub within : AreWithinLimits protocols top
  pub deep : (p : Declaration) → slice_get protocols top ≡ Some p → IsWithinDepth protocols p depth
  pub followed : AreReported protocols top messages privates

-- the protocol where the first cycle ends, a count over its limit, or neither
abbrev pub IsSurvey : List Declaration → ℕ → Survey → Type 0
IsSurvey protocols top (Cycle node) = IsFirstCycle (graph_of protocols) top node
IsSurvey protocols top (Over what count) = IsTooLarge protocols top what count
IsSurvey protocols top (Within depth messages privates) =
    IsExpandable protocols top depth messages privates

-- a count is over its limit, or memory ran out
abbrev pub IsLimitError : List Declaration → ℕ → LimitError → Type 0
IsLimitError protocols top (TooMany what count) = IsFirstOver protocols top what count
IsLimitError protocols top NoMemory = Unit {0}
