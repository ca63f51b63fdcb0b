-- What `start` gives back after a crash, whenever the crash comes.
use Rattle.std.specs.Prelude.{◌≡◌, ◌≢◌, ◌⊎◌, ℕ, List, [], ◌∷◌, ◌++◌, Option, None, Some}
use Rattle.std.specs.Prelude.{Result, Ok, Err}
use Rattle.bspl_types.specs.declared.expanded.Expanded.{Expanded}
use Rattle.bspl_types.specs.declared.value.Value.{Value}
use Rattle.bspl_types.specs.Admission.{IsAdmitted}
use Rattle.stamped_history.specs.declared.entry.Entry.{Entry}
use Rattle.role_journal.specs.Counts.{Counts}
use Rattle.durable_store.specs.declared.refusals.StartRefusal.{StartRefusal}
use Rattle.durable_store.specs.declared.refusals.StartRefusal.TheVariants.{Alien}
use Rattle.durable_store.specs.Calls.{Outcome, Unchanged, Acknowledged, Unacknowledged, Ends}
use Rattle.durable_store.specs.Start.{IsStartAnswer, IsStarted}
use Rattle.durable_store.specs.State.{DurableState}

-- the events that calls acknowledged, in order
abbrev pub acknowledged : List Outcome → List Entry
acknowledged [] = []
acknowledged (Unchanged ∷ calls) = acknowledged calls
acknowledged (Acknowledged e ∷ calls) = e ∷ acknowledged calls
acknowledged (Unacknowledged e ∷ calls) = acknowledged calls

-- the event of the call that did not acknowledge it, if there is one: later calls change nothing
abbrev pub unacknowledged : List Outcome → Option Entry
unacknowledged [] = None
unacknowledged (Unchanged ∷ calls) = unacknowledged calls
unacknowledged (Acknowledged e ∷ calls) = unacknowledged calls
unacknowledged (Unacknowledged e ∷ calls) = Some e

-- the event of a call, whether it acknowledges it in the end or not; else that pending before
abbrev pub pending_in : Outcome → Option Entry → Option Entry
pending_in Unchanged before = before
pending_in (Acknowledged e) before = Some e
pending_in (Unacknowledged e) before = Some e

module _ {D : Type 0} (seen : D → List ℕ) (may_leave : D → List ℕ → Type 0) (clock : D → ℕ)
    (left_since : D → ℕ → List ℕ → Type 0) (counts : D → Counts) where
  -- a row of calls, each of which ends so
  abbrev pub AreCalls : List Outcome → DurableState D → DurableState D → Type 0
  AreCalls [] old new = new ≡ old
  AreCalls (call ∷ calls) old new = (next : DurableState D) ×
      Ends seen may_leave clock left_since call old next × AreCalls calls next new

  -- after the calls, and before the next one, a crash may leave the image
  pub record IsLeftBetween (calls : List Outcome) (first : DurableState D) (image : List ℕ)
      : Type 0 where
    pub last : DurableState D
    pub row : AreCalls calls first last
    pub left : may_leave last.disk image

  -- at some moment of one call more, a crash may leave the image
  pub record IsLeftWithin (calls : List Outcome) (call : Outcome) (first : DurableState D)
      (image : List ℕ) : Type 0 where
    pub old : DurableState D
    pub new : DurableState D
    pub row : AreCalls calls first old
    pub ends : Ends seen may_leave clock left_since call old new
    pub left : left_since new.disk (clock old.disk) image

  -- the store has these entries, perhaps followed by the pending one; no place was alien
  abbrev pub Restores : List Entry → Option Entry → Result (DurableState D) (StartRefusal × D) →
      Type 0
  Restores entries pending (Ok s) = (s.store.entries ≡ entries) ⊎
      ((e : Entry) × (pending ≡ Some e) × (s.store.entries ≡ entries ++ e ∷ []))
  Restores entries pending (Err e) = (place : ℕ) → e.0 ≢ Alien place

  -- A store was started, and calls were made. A crash comes between two calls, or at any moment
  -- within one. Then `start` with the same protocol, role and keys gives the store of the
  -- acknowledged events in order, perhaps followed by the event of the call under way or of the
  -- last one that was not acknowledged. Only a fault of the disk, or out of memory, refuses it.
  pub record CrashIsRestored (x : Expanded) (role : ℕ) (keys : List (List Value))
      (first : DurableState D) (calls : List Outcome) (image : List ℕ)
      (answer : Result (DurableState D) (StartRefusal × D)) : Type 0 where
    pub between : IsLeftBetween calls first image →
        Restores (first.store.entries ++ acknowledged calls) (unacknowledged calls) answer
    pub within : (call : Outcome) → IsLeftWithin calls call first image →
        Restores (first.store.entries ++ acknowledged calls)
        (pending_in call (unacknowledged calls)) answer

  -- so it is for each store that was started, each row of calls and each image
  abbrev pub CrashesAreRestored : Type 0
  CrashesAreRestored = (x : Expanded) (role : ℕ) (keys : List (List Value))
      (first : DurableState D) (calls : List Outcome) (image : List ℕ)
      (answer : Result (DurableState D) (StartRefusal × D)) → IsAdmitted x →
      IsStarted seen may_leave counts x role keys first →
      IsStartAnswer seen may_leave counts x role keys image answer →
      CrashIsRestored x role keys first calls image answer
