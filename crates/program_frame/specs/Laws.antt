-- What follows for a call from its two halves.
use Rattle.std.specs.Prelude.{ℕ, List}
use Rattle.bspl_io.specs.Traffic.{Traffic}
use Rattle.bspl_io.specs.Faults.{FaultCounts}
use Rattle.program_frame.specs.Call.{AreCounted, IsCall}
use Rattle.program_frame.specs.declared.ending.Ending.{Ending}
use Rattle.program_frame.specs.declared.prepared.Prepared.{Prepared}
use Rattle.program_frame.specs.Prepared.{AreReadsCounted, AreWritesCounted, GoesOn, IsPrepared}

-- what was prepared and then went on is a call
abbrev pub HalvesAreCalls : {X S : Type 0} → Type 0 → ℕ → (X → Type 0)
    → (List ℕ → List ℕ → S → Type 0) → Type 0
HalvesAreCalls {X} {S} asks limit requests answers =
    (t : Traffic) (prepared : Prepared X S) (ending : Ending S)
    → IsPrepared asks limit requests answers t.remaining t.remaining_after prepared
    → GoesOn answers prepared t.contents t.contents_after ending
    → IsCall asks limit answers t ending

-- and so are their counts of faults
abbrev pub HalvesAreCounted : {X S : Type 0} → Type 0 → ℕ → (X → Type 0)
    → (List ℕ → List ℕ → S → Type 0) → Type 0
HalvesAreCounted {X} {S} asks limit requests answers =
    (t : Traffic) (counts : FaultCounts) (prepared : Prepared X S) (ending : Ending S)
    → IsPrepared asks limit requests answers t.remaining t.remaining_after prepared
    → GoesOn answers prepared t.contents t.contents_after ending
    → AreReadsCounted counts.reads counts.reads_after prepared
    → AreWritesCounted counts.writes counts.writes_after ending
    → AreCounted counts ending
