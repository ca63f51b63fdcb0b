-- How many envelopes are held in blocks and in groups of slots, so that one is found by its index.
use Rattle.std.specs.Prelude.{◌≡◌, ℕ, ◌+◌, ◌-◌, ◌*◌, ◌<◌, ◌≤◌, ◌==◌, if◌then◌else◌}
use Rattle.std.specs.Prelude.{Bool, true, false, List, [], ◌∷◌, ◌++◌, length, take, slice_index_or, slice_set}
use Rattle.std.specs.List.{count_by, sum}
use Rattle.bspl_types.specs.declared.envelope.Envelope.{Envelope}
use Rattle.reorder_net.specs.inner.Slots.{is_held, marks_of}

-- the counts are those of the envelopes held in each run of as many slots, and of what is left
pub record AreCounts (width : ℕ) (marks : List Bool) (counts : List ℕ) : Type 0 where
  pub all : length marks ≤ width * length counts
  pub few : width * length counts < length marks + width
  pub sums : (b : ℕ) → sum (take b counts) ≡ count_by is_held (take (width * b) marks)

-- one more at the index, which may be that after the last
abbrev pub raised : List ℕ → ℕ → List ℕ
raised counts i =
    if i == length counts then counts ++ 1 ∷ []
    else slice_set counts i (slice_index_or counts i 0 + 1)

-- one less at the index
abbrev pub lowered : List ℕ → ℕ → List ℕ
lowered counts i = slice_set counts i (slice_index_or counts i 0 - 1)

-- the counts before the index and what is left are as many, and the count there is more than that
pub record IsAbove (counts : List ℕ) (many index left : ℕ) : Type 0 where
  pub within : index < length counts
  pub before : many ≡ sum (take index counts) + left
  pub above : left < slice_index_or counts index 0

-- the slot's envelope is held, and as many are held in the slots before it
pub record IsHeldSlot (marks : List Bool) (many slot : ℕ) : Type 0 where
  pub within : slot < length marks
  pub held : slice_index_or marks slot false ≡ true
  pub before : many ≡ count_by is_held (take slot marks)

-- the marks of the slots; the counts of an inbox: of all slots, of blocks of 32, and of groups of
-- 32 blocks
pub record AreTallied (slots : List Envelope) (marks : List Bool) (blocks groups : List ℕ)
    (all : ℕ) : Type 0 where
  pub marks_are : marks ≡ marks_of slots
  pub all_is : all ≡ count_by is_held marks
  pub blocks_are : AreCounts 32 marks blocks
  pub groups_are : AreCounts 1024 marks groups

-- there is room for as many more slots
pub record HaveRoom (used spare slots marks blocks groups : ℕ) : Type 0 where
  pub slot_room : used + spare ≤ slots
  pub mark_room : used + spare ≤ marks
  pub block_room : used + spare ≤ 32 * blocks
  pub group_room : used + spare ≤ 1024 * groups
