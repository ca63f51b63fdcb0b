-- What a call knows once its arguments are read, and its input if they ask for it.
use Rattle.std.specs.Prelude.{◌≡◌, ◌⊎◌, ℕ, ◌≤◌, List, length, Option, Result, IfOk}
use Rattle.bspl_io.specs.Faults.{HasCounted}
use Rattle.list_base.specs.declared.memory.NoMemory.{NoMemory as OutOfMemory}
use Rattle.program_frame.specs.declared.ending.Ending.{Ending}
use Rattle.program_frame.specs.declared.ending.Ending.TheVariants.{Answered, ReadFault, WriteFault, NoMemory}
use Rattle.program_frame.specs.declared.prepared.Prepared.{Prepared}
use Rattle.program_frame.specs.declared.prepared.Prepared.TheVariants.{Ended, Read, Replied}
use Rattle.program_frame.specs.declared.reply.Reply.{Reply}
use Rattle.program_frame.specs.Call.{IsAnswer, TakesAll}
use Rattle.program_frame.specs.Program.{NeedsNoInput}
use Rattle.program_frame.specs.Reply.{IsWritten}

-- these are all bytes of an input that the arguments ask for, or it was not asked for and not
-- touched
abbrev pub HasTaken : Type 0 → List ℕ → Option (List ℕ) → Option (List ℕ) → Type 0
HasTaken asks bytes old new = (asks × TakesAll bytes old new) ⊎ ((¬ asks) × (new ≡ old))

-- what the arguments request, and the bytes to which the reply is made; if they ask for no input,
-- it is right for each
pub record IsRead {X S : Type 0} (asks : Type 0) (limit : ℕ) (requests : X → Type 0)
    (answers : List ℕ → List ℕ → S → Type 0) (old new : Option (List ℕ)) (request : X)
    (bytes : List ℕ) : Type 0 where
  pub requested : requests request
  pub short : length bytes ≤ limit
  pub taken : HasTaken asks bytes old new
  pub unasked : NeedsNoInput asks answers

-- the arguments ask for the input, and the reply is right for it
pub record IsReplied {S : Type 0} (asks : Type 0) (limit : ℕ)
    (answers : List ℕ → List ℕ → S → Type 0) (old new : Option (List ℕ))
    (reply : Reply S) : Type 0 where
  pub asked : asks
  pub answer : IsAnswer asks limit answers old new reply.text reply.status

-- reading failed although the arguments ask for the input, or memory ran out
abbrev pub IsEnded : {S : Type 0} → Type 0 → Option (List ℕ) → Option (List ℕ) → Ending S → Type 0
IsEnded asks old new (Answered status) = ⊥
IsEnded asks old new ReadFault = asks
IsEnded asks old new WriteFault = ⊥
IsEnded asks old new NoMemory = ¬ asks → new ≡ old

-- what is known of a call of a program with these relations, for what it took of the input
abbrev pub IsPrepared : {X S : Type 0} → Type 0 → ℕ → (X → Type 0)
    → (List ℕ → List ℕ → S → Type 0) → Option (List ℕ) → Option (List ℕ) → Prepared X S → Type 0
IsPrepared asks limit requests answers old new (Replied reply) =
    IsReplied asks limit answers old new reply
IsPrepared asks limit requests answers old new (Read request input) =
    IsRead asks limit requests answers old new request input
IsPrepared asks limit requests answers old new (Ended ending) = IsEnded asks old new ending

-- a reply to the input was made and written, or none could be made
pub record IsAnswered {S : Type 0} (answers : List ℕ → List ℕ → S → Type 0) (bytes : List ℕ)
    (old new : Option (List ℕ)) (ending : Ending S) : Type 0 where
  pub made : Result (Reply S) OutOfMemory
  pub right : IfOk made (λ reply. answers bytes reply.text reply.status)
  pub written : IsWritten made old new ending

-- how a call goes on from there: a reply is written, what was read is answered, and what has ended
-- writes nothing
abbrev pub GoesOn : {X S : Type 0} → (List ℕ → List ℕ → S → Type 0) → Prepared X S
    → Option (List ℕ) → Option (List ℕ) → Ending S → Type 0
GoesOn answers (Replied reply) old new ending = IsWritten (Result.Ok reply) old new ending
GoesOn answers (Read request input) old new ending = IsAnswered answers input old new ending
GoesOn answers (Ended end) old new ending = (ending ≡ end) × (new ≡ old)

-- reading is said to have failed only if that was counted, and else the count is the same
pub record AreReadsCounted {X S : Type 0} (old new : ℕ) (prepared : Prepared X S) : Type 0 where
  pub fault : prepared ≡ Ended ReadFault → HasCounted old new
  pub no_fault : ¬ (prepared ≡ Ended ReadFault) → new ≡ old

-- so it is with writing
pub record AreWritesCounted {S : Type 0} (old new : ℕ) (ending : Ending S) : Type 0 where
  pub fault : ending ≡ WriteFault → HasCounted old new
  pub no_fault : ¬ (ending ≡ WriteFault) → new ≡ old
