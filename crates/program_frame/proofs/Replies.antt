-- A reply is right for the bytes that remained, whether they were read, too many or not asked for; written, it makes a
-- call.
use Rattle.std.proofs.Common.{◌≡◌, inl, inr, ℕ, ◌<◌, ◌≤◌, List, [], ◌++◌, length, Option, Some, None, Result, Ok, Err, refl, sym, ◌∙◌, ap, subst, arith, length-append, append-nil}
use Rattle.std.specs.Prelude.{IfOk}
use Rattle.list_base.specs.declared.memory.NoMemory.{NoMemory as OutOfMemory}
use Rattle.bspl_io.specs.Source.{ReadsAll, Takes}
use Rattle.bspl_io.specs.Traffic.{Traffic}
use Rattle.program_frame.specs.Call.{AreRemaining, IsAnswer, IsCall, TakesAll, Writes}
use Rattle.program_frame.specs.declared.ending.Ending.{Ending}
use Rattle.program_frame.specs.declared.ending.Ending.TheVariants.{Answered, NoMemory, ReadFault, WriteFault}
use Rattle.program_frame.specs.declared.prepared.Prepared.{Prepared}
use Rattle.program_frame.specs.declared.prepared.Prepared.TheVariants.{Ended, Read, Replied}
use Rattle.program_frame.specs.declared.reply.Reply.{Reply}
use Rattle.program_frame.specs.Prepared.{GoesOn, HasTaken, IsEnded, IsPrepared, IsReplied}
use Rattle.program_frame.specs.Program.{NeedsNoInput}
use Rattle.program_frame.specs.Reply.{IsWritten}

-- a reply that is right for every input that is too long, where more than the limit was taken
pub too_long : {S : Type 0} (asks : Type 0) (limit : ℕ) (answers : List ℕ → List ℕ → S → Type 0) (old new : Option (List ℕ)) (reply : Reply S) → asks → Takes old new (λ taken. limit < length taken) → ((bytes : List ℕ) → limit < length bytes → answers bytes reply.text reply.status) → IsReplied asks limit answers old new reply
too_long asks limit answers None new reply asked taken right = record {
  asked = asked;
  answer = record {
    bytes = taken.0;
    input = tt;
    taken = λ _. record { all = λ short. absurd (let long = taken.2 in omega arith); more = λ _. taken };
    right = right taken.0 taken.2;
  };
}
too_long asks limit answers (Some known) None reply asked taken right = absurd taken.1
too_long asks limit answers (Some known) (Some left) reply asked taken right =
    let sizes = ap length taken.1 in
    let long : limit < length known = (let more = taken.2 in omega (arith, sizes, length-append taken.0 left)) in record {
      asked = asked;
      answer = record {
        bytes = known;
        input = refl;
        taken = λ _. record { all = λ short. absurd (omega arith); more = λ _. taken };
        right = right known long;
      };
    }

-- some bytes remain
some_bytes : (remaining : Option (List ℕ)) → (bytes : List ℕ) × AreRemaining remaining bytes
some_bytes None = ([], tt)
some_bytes (Some known) = (known, refl)

-- all bytes that were taken are those that remained
all_remaining : (bytes : List ℕ) (old new : Option (List ℕ)) → TakesAll bytes old new → AreRemaining old bytes
all_remaining bytes None new taken = tt
all_remaining bytes (Some known) None taken = absurd taken.consumed
all_remaining bytes (Some known) (Some left) taken = sym (taken.consumed ∙ ap (λ (rest : List ℕ). bytes ++ rest) taken.at_end ∙ append-nil bytes)

-- what was read to its end was taken whole
pub read_whole : (limit : ℕ) (P : List ℕ → Type 0) (bytes : List ℕ) (old new : Option (List ℕ)) → ReadsAll old new limit bytes → Takes old new P → TakesAll bytes old new
read_whole limit P bytes None new read taken = record { consumed = tt; at_end = read.at_end }
read_whole limit P bytes (Some known) None read taken = absurd taken.1
read_whole limit P bytes (Some known) (Some left) read taken = record {
  consumed = sym (ap (λ (rest : List ℕ). bytes ++ rest) read.at_end ∙ append-nil bytes ∙ read.whole);
  at_end = read.at_end;
}

-- a reply to bytes that were taken is an answer
taken_answer : {S : Type 0} (asks : Type 0) (limit : ℕ) (answers : List ℕ → List ℕ → S → Type 0) (old new : Option (List ℕ)) (bytes out : List ℕ) (status : S) → NeedsNoInput asks answers → length bytes ≤ limit → HasTaken asks bytes old new → answers bytes out status → IsAnswer asks limit answers old new out status
taken_answer asks limit answers old new bytes out status needs short (inl all) right = record {
  bytes = bytes;
  input = all_remaining bytes old new all.1;
  taken = λ _. record { all = λ _. all.1; more = λ long. absurd (omega (arith, short, long)) };
  right = right;
}
taken_answer asks limit answers old new bytes out status needs short (inr none) right =
    let other = some_bytes old in record {
      bytes = other.0;
      input = other.1;
      taken = λ asked. absurd (none.0 asked);
      right = needs none.0 bytes other.0 out status right;
    }

-- nothing was taken that was not asked for
unasked_untaken : (asks : Type 0) (bytes : List ℕ) (old new : Option (List ℕ)) → HasTaken asks bytes old new → ¬ asks → new ≡ old
unasked_untaken asks bytes old new (inl all) none = absurd (none all.0)
unasked_untaken asks bytes old new (inr untaken) none = untaken.1

-- a reply that is an answer was written as far as the ending says
reply_written : {S : Type 0} (asks : Type 0) (limit : ℕ) (answers : List ℕ → List ℕ → S → Type 0) (t : Traffic) (made : Result (Reply S) OutOfMemory) (ending : Ending S) → IfOk made (λ (reply : Reply S). IsAnswer asks limit answers t.remaining t.remaining_after reply.text reply.status) → IsWritten made t.contents t.contents_after ending → Writes asks limit answers t ending
reply_written asks limit answers t (Ok reply) (Answered status) right written = record {
  out = reply.text;
  answer = subst (λ (s : _). IsAnswer asks limit answers t.remaining t.remaining_after reply.text s) (sym written.0) right;
  appended = written.1;
}
reply_written asks limit answers t (Ok reply) ReadFault right written = absurd written
reply_written asks limit answers t (Ok reply) WriteFault right written = record { out = reply.text; status = reply.status; answer = right; appended = written }
reply_written asks limit answers t (Ok reply) NoMemory right written = inr (record { out = reply.text; status = reply.status; answer = right; appended = written })
reply_written asks limit answers t (Err e) ending right written = subst (λ (end : Ending _). Writes asks limit answers t end) (sym written.0) (inl written.1)

-- each reply to bytes that were taken is an answer
each_answer : {S : Type 0} (asks : Type 0) (limit : ℕ) (answers : List ℕ → List ℕ → S → Type 0) (old new : Option (List ℕ)) (bytes : List ℕ) (made : Result (Reply S) OutOfMemory) → NeedsNoInput asks answers → length bytes ≤ limit → HasTaken asks bytes old new → IfOk made (λ (reply : Reply S). answers bytes reply.text reply.status) → IfOk made (λ (reply : Reply S). IsAnswer asks limit answers old new reply.text reply.status)
each_answer asks limit answers old new bytes (Ok reply) needs short taken right = taken_answer asks limit answers old new bytes reply.text reply.status needs short taken right
each_answer asks limit answers old new bytes (Err e) needs short taken right = tt

-- what ended at once is a call
ended_call : {S : Type 0} (asks : Type 0) (limit : ℕ) (answers : List ℕ → List ℕ → S → Type 0) (t : Traffic) (end : Ending S) → IsEnded asks t.remaining t.remaining_after end → t.contents_after ≡ t.contents → IsCall asks limit answers t end
ended_call asks limit answers t (Answered status) ended unwritten = absurd ended
ended_call asks limit answers t ReadFault ended unwritten = record { unread = λ none. absurd (none ended); written = (ended, unwritten) }
ended_call asks limit answers t WriteFault ended unwritten = absurd ended
ended_call asks limit answers t NoMemory ended unwritten = record { unread = ended; written = inl unwritten }

-- what was prepared and then went on is a call
pub call_of_halves : {X S : Type 0} (asks : Type 0) (limit : ℕ) (requests : X → Type 0) (answers : List ℕ → List ℕ → S → Type 0) (t : Traffic) (prepared : Prepared X S) (ending : Ending S) → IsPrepared asks limit requests answers t.remaining t.remaining_after prepared → GoesOn answers prepared t.contents t.contents_after ending → IsCall asks limit answers t ending
call_of_halves asks limit requests answers t (Replied reply) ending known goes = record {
  unread = λ none. absurd (none known.asked);
  written = reply_written asks limit answers t (Ok reply) ending known.answer goes;
}
call_of_halves asks limit requests answers t (Read request input) ending known goes = record {
  unread = unasked_untaken asks input t.remaining t.remaining_after known.taken;
  written = reply_written asks limit answers t goes.made ending (each_answer asks limit answers t.remaining t.remaining_after input goes.made known.unasked known.short known.taken goes.right) goes.written;
}
call_of_halves asks limit requests answers t (Ended end) ending known goes =
    subst (λ (e : Ending _). IsCall asks limit answers t e) (sym goes.0) (ended_call asks limit answers t end known goes.1)
