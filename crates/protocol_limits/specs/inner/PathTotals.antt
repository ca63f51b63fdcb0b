-- What is counted along the paths of a document, and what its limits come to.
use Rattle.std.specs.Prelude.{◌≡◌, List, Some}
use Rattle.std.specs.List.{find}
use Rattle.protocol_limits.specs.declared.limit.Limit.{Limit}
use Rattle.protocol_limits.specs.declared.outcome.LimitError.{LimitError}
use Rattle.protocol_limits.specs.declared.outcome.LimitError.TheVariants.{NoMemory, TooMany}
use Rattle.protocol_limits.specs.declared.path_totals.PathTotals.{PathTotals}
use Rattle.protocol_limits.specs.Counts.{depth, message_count, private_count}
use Rattle.protocol_limits.specs.Limits.{AreWithinLimits, is_over}
use Rattle.protocol_limits.specs.inner.SortedDocument.{AreCounts, SortedProtocols}

-- the depth at the top, and the messages and private parameters of each protocol of the order
pub record ArePathTotals (document : SortedProtocols) (totals : PathTotals) : Type 0 where
  pub depth : totals.depth ≡ depth document.protocols document.top
  pub messages : AreCounts (message_count
      document.protocols) document.order totals.messages
  pub privates : AreCounts (private_count
      document.protocols) document.order totals.privates

-- the totals, of which all are within their limits
pub record AreChecked (document : SortedProtocols) (totals : PathTotals) : Type 0 where
  pub within : AreWithinLimits document.protocols document.top
  pub counted : ArePathTotals document totals

-- the first of these limits that is exceeded is reported
abbrev pub NamesFirstOver : List Limit → LimitError → Type 0
NamesFirstOver ls (TooMany what count) = (over : Limit) × (find is_over ls ≡ Some over)
    × (over.what ≡ what) × (over.count ≡ count)
NamesFirstOver ls NoMemory = ⊥
