-- What a call knows before it writes anything.
use Rattle.std.specs.Prelude.{◌≡◌, ℕ, List, Option, Result, Ok, Err, ⊤}
use Rattle.list_base.specs.declared.memory.NoMemory.{NoMemory as OutOfMemory}
use Rattle.program_frame.specs.declared.ending.Ending.{Ending}
use Rattle.program_frame.specs.declared.ending.Ending.TheVariants.{Answered, ReadFault, WriteFault, NoMemory}
use Rattle.program_frame.specs.declared.prepared.Prepared.{Prepared}
use Rattle.program_frame.specs.declared.prepared.Prepared.TheVariants.{Ended, Read, Replied}
use Rattle.program_frame.specs.declared.reply.Reply.{Reply}
use Rattle.tool_input.specs.declared.status.Status.{Status}
use Rattle.live_role.specs.Call.{IsDeclined}
use Rattle.live_role.specs.Journal.{JournalsAt, faults_by}
use Rattle.live_role.specs.Opening.{TakesUnopened}
use Rattle.live_role.specs.Request.{RoleRequest}
use Rattle.live_role.specs.Serving.{BeginsRole}
use Rattle.live_role.specs.declared.begun.Begun.{Begun}

-- reading failed before the line came, or memory ran out
abbrev pub EndsUnserved : Option (List ℕ) → Option (List ℕ) → Ending Status → Type 0
EndsUnserved old new (Answered status) = ⊥
EndsUnserved old new ReadFault = TakesUnopened old new
EndsUnserved old new WriteFault = ⊥
EndsUnserved old new NoMemory = ⊤

-- there is a reply in place of serving, or the role is to be served, or neither
abbrev pub IsPrepared : {J : Type 0} → JournalsAt J → RoleRequest → Option (List ℕ) →
    Option (List ℕ) → Prepared (Begun J) Status → Type 0
IsPrepared at r old new (Replied reply) = IsDeclined at r old new reply.text reply.status
IsPrepared at r old new (Read begun ahead) =
    BeginsRole at r old new begun.role begun.journal ahead
IsPrepared at r old new (Ended ending) = EndsUnserved old new ending

-- a role that is to be served has a journal of which no fault was counted
abbrev pub HasNoFault : {J : Type 0} → (J → ℕ) → Prepared (Begun J) Status → Type 0
HasNoFault faults (Replied reply) = ⊤
HasNoFault faults (Read begun ahead) = faults_by faults begun.journal ≡ 0
HasNoFault faults (Ended ending) = ⊤

-- the reply that was made; without one memory ran out
abbrev pub prepared_of : {J : Type 0} → Result (Reply Status) OutOfMemory →
    Prepared (Begun J) Status
prepared_of (Ok reply) = Replied reply
prepared_of (Err e) = Ended NoMemory
