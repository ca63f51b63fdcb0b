-- How the passes to all mailboxes take in other passes to them.
use Rattle.std.specs.Prelude.{◌≡◌, ℕ, ◌<◌, ◌≤◌, List, length, slice_get, Some}
use Rattle.reorder_net.specs.Mail.{IsHolding}
use Rattle.reorder_net.specs.Pass.{BoxId, PassState}
use Rattle.reorder_net.specs.inner.Moves.{joined, Follows}

-- the pass with the lists of the other too
abbrev pub with_lists : PassState → PassState → PassState
with_lists p other = record p { hold = joined p.hold other.hold }

-- both are passes to the mailbox, and the one may take in the other's lists
pub record CanTakeIn (box : BoxId) (p other : PassState) : Type 0 where
  pub own : p.box ≡ box
  pub other_own : other.box ≡ box
  pub holding : IsHolding p.hold
  pub next : Follows p.hold other.hold

-- each pass to these mailboxes may take in the lists of the other to it
pub record CanAllTakeIn (boxes : List BoxId) (passes others : List PassState) : Type 0 where
  pub count : length passes ≡ length boxes
  pub other_count : length others ≡ length boxes
  pub each : (q : ℕ) (box : BoxId) (p other : PassState) → slice_get boxes q ≡ Some box →
      slice_get passes q ≡ Some p → slice_get others q ≡ Some other → CanTakeIn box p other

-- the passes from an index on took in the others' lists, and those before it are as they were
pub record HaveTakenIn (from : ℕ) (old others new : List PassState) : Type 0 where
  pub count : length new ≡ length old
  pub before : (q : ℕ) → q < from → slice_get new q ≡ slice_get old q
  pub after : (q : ℕ) (p other : PassState) → from ≤ q →
      slice_get old q ≡ Some p → slice_get others q ≡ Some other →
      slice_get new q ≡ Some (with_lists p other)
