-- Which images a crash may leave of a disk, now and since an earlier moment.
use Rattle.std.specs.Prelude.{◌≡◌, ℕ, ◌+◌, ◌≤◌, ◌⊎◌, List}
use Rattle.role_journal.specs.Image.{IsTorn}

-- after a write each image that a crash may leave is one that it might have left before, torn
abbrev pub LeavesTorn : ℕ → ℕ → (List ℕ → Type 0) → (List ℕ → Type 0) → Type 0
LeavesTorn at count old new = (c : List ℕ) → new c → (d : List ℕ) × old d × IsTorn at count d c

-- each image that a crash may leave is one that it might have left before
abbrev pub LeavesNoMore : (List ℕ → Type 0) → (List ℕ → Type 0) → Type 0
LeavesNoMore old new = (c : List ℕ) → new c → old c

-- a crash leaves this image and no other
abbrev pub Leaves : List ℕ → (List ℕ → Type 0) → Type 0
Leaves image may_leave = (c : List ℕ) → may_leave c → c ≡ image

-- One call takes at most one tick. What might have been left since an earlier moment stays so,
-- and what a crash may leave now is all that is new.
pub record TimePasses (before now : ℕ) (past since : ℕ → List ℕ → Type 0)
    (may_leave : List ℕ → Type 0) : Type 0 where
  pub later : before ≤ now
  pub soon : now ≤ before + 1
  pub kept : (t : ℕ) (c : List ℕ) → t ≤ before → past t c → since t c
  pub nothing_else : (t : ℕ) (c : List ℕ) → t ≤ before → since t c → past t c ⊎ may_leave c

-- the disk holds what it held, and a crash leaves nothing that it might not have left before
pub record Stays {D : Type 0} (seen : D → List ℕ) (may_leave : D → List ℕ → Type 0)
    (clock : D → ℕ) (left_since : D → ℕ → List ℕ → Type 0) (old new : D) : Type 0 where
  pub same : seen new ≡ seen old
  pub crash : LeavesNoMore (may_leave old) (may_leave new)
  pub time : TimePasses (clock old) (clock new) (left_since old) (left_since new) (may_leave new)

-- a crash at any moment since the disk was `old` leaves an image that has P
pub record CrashLeavesOnly {D : Type 0} (clock : D → ℕ) (left_since : D → ℕ → List ℕ → Type 0)
    (old new : D) (P : List ℕ → Type 0) : Type 0 where
  pub later : clock old ≤ clock new
  pub each : (c : List ℕ) → left_since new (clock old) c → P c
