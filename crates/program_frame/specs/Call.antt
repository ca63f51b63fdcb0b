-- What one call of a program reads and writes.
use Rattle.std.specs.Prelude.{◌≡◌, ℕ, ◌<◌, ◌≤◌, List, length, Option, IfSome, ◌⊎◌}
use Rattle.std.specs.Io.KnownBytes.{Appends, Consumes, IsAtEnd}
use Rattle.bspl_io.specs.Faults.{HasCounted, FaultCounts}
use Rattle.bspl_io.specs.Sink.{AppendsPrefix}
use Rattle.bspl_io.specs.Source.{Takes}
use Rattle.bspl_io.specs.Traffic.{Traffic}
use Rattle.program_frame.specs.declared.ending.Ending.{Ending}
use Rattle.program_frame.specs.declared.ending.Ending.TheVariants.{Answered, ReadFault, WriteFault, NoMemory}

-- these bytes remain, where the remaining bytes are known
abbrev pub AreRemaining : Option (List ℕ) → List ℕ → Type 0
AreRemaining remaining bytes = IfSome remaining (λ known. bytes ≡ known)

-- the bytes were taken, and none is left
pub record TakesAll (bytes : List ℕ) (old new : Option (List ℕ)) : Type 0 where
  pub consumed : Consumes old new bytes
  pub at_end : IsAtEnd new

-- how much of the input is taken if the arguments ask for it: all of it, or more bytes than the
-- limit if it is longer
pub record TakesInput (limit : ℕ) (bytes : List ℕ) (old new : Option (List ℕ)) : Type 0 where
  pub all : length bytes ≤ limit → TakesAll bytes old new
  pub more : limit < length bytes → Takes old new (λ taken. limit < length taken)

-- for some bytes, those that remained where they are known, it is a right output with its status,
-- and as much of them was taken as the arguments ask for
pub record IsAnswer {S : Type 0} (asks : Type 0) (limit : ℕ)
    (answers : List ℕ → List ℕ → S → Type 0) (old new : Option (List ℕ)) (out : List ℕ)
    (status : S) : Type 0 where
  pub bytes : List ℕ
  pub input : AreRemaining old bytes
  pub taken : asks → TakesInput limit bytes old new
  pub right : answers bytes out status

-- an answer was written whole
pub record WritesOutput {S : Type 0} (asks : Type 0) (limit : ℕ)
    (answers : List ℕ → List ℕ → S → Type 0) (t : Traffic) (status : S) : Type 0 where
  pub out : List ℕ
  pub answer : IsAnswer asks limit answers t.remaining t.remaining_after out status
  pub appended : Appends t.contents t.contents_after out

-- a prefix of one was written
pub record WritesPrefix {S : Type 0} (asks : Type 0) (limit : ℕ)
    (answers : List ℕ → List ℕ → S → Type 0) (t : Traffic) : Type 0 where
  pub out : List ℕ
  pub status : S
  pub answer : IsAnswer asks limit answers t.remaining t.remaining_after out status
  pub appended : AppendsPrefix t.contents t.contents_after out

-- how far an output came: whole, nothing, a prefix, or nothing or a prefix; reading fails only if
-- the arguments ask for the input
abbrev pub Writes : {S : Type 0} → Type 0 → ℕ → (List ℕ → List ℕ → S → Type 0) → Traffic
    → Ending S → Type 0
Writes asks limit answers t (Answered status) = WritesOutput asks limit answers t status
Writes asks limit answers t ReadFault = asks × (t.contents_after ≡ t.contents)
Writes asks limit answers t WriteFault = WritesPrefix asks limit answers t
Writes asks limit answers t NoMemory =
    (t.contents_after ≡ t.contents) ⊎ WritesPrefix asks limit answers t

-- nothing of the input is taken unless the arguments ask for it, however the call ends, and an
-- output is written as far as the ending says
pub record IsCall {S : Type 0} (asks : Type 0) (limit : ℕ)
    (answers : List ℕ → List ℕ → S → Type 0) (t : Traffic) (ending : Ending S) : Type 0 where
  pub unread : ¬ asks → t.remaining_after ≡ t.remaining
  pub written : Writes asks limit answers t ending

-- reading or writing is said to have failed only if that was counted; after any other ending
-- neither count is another
pub record AreCounted {S : Type 0} (counts : FaultCounts) (ending : Ending S) : Type 0 where
  pub read_fault : ending ≡ ReadFault → HasCounted counts.reads counts.reads_after
  pub write_fault : ending ≡ WriteFault → HasCounted counts.writes counts.writes_after
  pub no_read_fault : ¬ (ending ≡ ReadFault) → counts.reads_after ≡ counts.reads
  pub no_write_fault : ¬ (ending ≡ WriteFault) → counts.writes_after ≡ counts.writes
