-- What one call of a program reads and writes.
use Rattle.std.specs.Prelude.{ℕ, List, Option}
use Rattle.bspl_io.specs.Traffic.{Traffic}
use Rattle.bspl_io.specs.Faults.{FaultCounts}
use Rattle.bspl_types.specs.Limits.{input_limit}
use Rattle.program_frame.specs.Call.{IsCall}
use Rattle.program_frame.specs.declared.ending.Ending.{Ending}
use Rattle.tool_input.specs.declared.status.Status.{Status}
use Rattle.tool_input.specs.Interface.{Interface, RequestsInput}
use Rattle.tool_input.specs.Output.{Output}

-- the call of a program with these arguments, whose outputs are those of the interface
abbrev pub IsToolCall : {Task : Type 0} → Interface Task → List (List ℕ) → Traffic → Ending Status
    → Type 0
IsToolCall i args t ending = IsCall (RequestsInput i args) input_limit (Output i args) t ending

-- what remained of a source and what remains, and what a sink contained and what it contains
abbrev pub traffic_of : Option (List ℕ) → Option (List ℕ) → Option (List ℕ) → Option (List ℕ)
    → Traffic
traffic_of remaining remaining_after contents contents_after = record {
  remaining = remaining;
  remaining_after = remaining_after;
  contents = contents;
  contents_after = contents_after;
}

-- the counts of faults of a source, and those of a sink
abbrev pub fault_counts : ℕ → ℕ → ℕ → ℕ → FaultCounts
fault_counts reads reads_after writes writes_after = record {
  reads = reads;
  reads_after = reads_after;
  writes = writes;
  writes_after = writes_after;
}
