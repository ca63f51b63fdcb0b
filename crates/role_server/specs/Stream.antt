-- How far a role comes with a source and a sink, when nothing is kept.
use Rattle.std.specs.Prelude.{ℕ, List, Option, None, Result, IsErrOf}
use Rattle.bspl_io.specs.Faults.{FaultCounts}
use Rattle.bspl_io.specs.Traffic.{Traffic}
use Rattle.bspl_types.specs.Limits.{input_limit}
use Rattle.kept_lines.specs.Flow.{Flow, IsCountedIf}
use Rattle.kept_lines.specs.Stream.{AnswersAll, StopsAnswering}
use Rattle.kept_lines.specs.declared.stream_refusal.StreamRefusal.{StreamRefusal}
use Rattle.kept_lines.specs.declared.stream_refusal.StreamRefusal.TheVariants as stream
use Rattle.local_store.specs.State.{StoreState}
use Rattle.role_server.specs.declared.refusal.ServeRefusal.{ServeRefusal}
use Rattle.role_server.specs.declared.refusal.ServeRefusal.TheVariants as refusal
use Rattle.role_server.specs.Served.{ServesLine}

-- what passes when a source and a sink, whose bytes these are, change so
abbrev pub passed : {R W : Type 0} → (R → Option (List ℕ)) → (W → Option (List ℕ)) → R → R → W → W
    → Traffic
passed remaining contents source source_after sink sink_after = record {
  remaining = remaining source;
  remaining_after = remaining source_after;
  contents = contents sink;
  contents_after = contents sink_after;
}

-- the same, beside a journal of which nothing is known
abbrev pub unkept : Traffic → Flow
unkept t = record {
  remaining = t.remaining;
  remaining_after = t.remaining_after;
  contents = t.contents;
  contents_after = t.contents_after;
  kept = None;
  kept_after = None;
}

-- the input was read to its end, and each line got its reply; some bytes were taken ahead
abbrev pub ServesAll : StoreState → List ℕ → Traffic → StoreState → Type 0
ServesAll s ahead t end = AnswersAll ServesLine s ahead input_limit (unkept t) end

-- the end of a stream without a journal is one of any stream
abbrev pub stream_end : ServeRefusal → StreamRefusal
stream_end refusal.ReadFault = stream.ReadFault
stream_end refusal.WriteFault = stream.WriteFault
stream_end refusal.TooLong = stream.TooLong
stream_end refusal.NoMemory = stream.NoMemory

-- how far it came; each line that has come whole is answered before more is read, so after a fault
-- of the source no reply is owed
abbrev pub Stops : StoreState → List ℕ → Traffic → ServeRefusal → Type 0
Stops s ahead t ended = StopsAnswering ServesLine s ahead input_limit (unkept t) (stream_end ended)

-- these counts, when a source and a sink change so
abbrev pub counts : {R W : Type 0} → (R → ℕ) → (W → ℕ) → R → R → W → W → FaultCounts
counts reads writes source source_after sink sink_after = record {
  reads = reads source;
  reads_after = reads source_after;
  writes = writes sink;
  writes_after = writes sink_after;
}

-- the answer names the one fault that was counted
pub record AreFaultsCounted {X : Type 0} (c : FaultCounts) (result : Result X ServeRefusal)
    : Type 0 where
  pub read : IsCountedIf (IsErrOf result refusal.ReadFault) c.reads c.reads_after
  pub write : IsCountedIf (IsErrOf result refusal.WriteFault) c.writes c.writes_after
