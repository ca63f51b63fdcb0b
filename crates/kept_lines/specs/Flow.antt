-- What passes through a source, a sink and a journal, and how often each of them failed.
use Rattle.std.specs.Prelude.{◌≡◌, ℕ, List, Option}
use Rattle.bspl_io.specs.Faults.{HasCounted}

-- the bytes that remain to be read, those that were written and the lines that are kept, before a
-- call and after it
pub record Flow : Type 0 where
  pub remaining : Option (List ℕ)
  pub remaining_after : Option (List ℕ)
  pub contents : Option (List ℕ)
  pub contents_after : Option (List ℕ)
  pub kept : Option (List ℕ)
  pub kept_after : Option (List ℕ)

-- what passes when a source, a sink and a journal, whose bytes these are, change so
abbrev pub flow_of : {R W J : Type 0} → (R → Option (List ℕ)) → (W → Option (List ℕ)) →
    (J → Option (List ℕ)) → R → R → W → W → J → J → Flow
flow_of remaining contents kept source source_after sink sink_after journal journal_after = record {
  remaining = remaining source;
  remaining_after = remaining source_after;
  contents = contents sink;
  contents_after = contents sink_after;
  kept = kept journal;
  kept_after = kept journal_after;
}

-- a fault was counted exactly if it is the answer
pub record IsCountedIf (fault : Type 0) (count count_after : ℕ) : Type 0 where
  pub counted : fault → HasCounted count count_after
  pub still : ¬ fault → count_after ≡ count

-- the counts of faults of a source, a sink and a journal, before a call and after it
pub record StreamFaults : Type 0 where
  pub reads : ℕ
  pub reads_after : ℕ
  pub writes : ℕ
  pub writes_after : ℕ
  pub keeps : ℕ
  pub keeps_after : ℕ

-- these counts, when a source, a sink and a journal change so
abbrev pub faults_of : {R W J : Type 0} → (R → ℕ) → (W → ℕ) → (J → ℕ) → R → R → W → W → J → J →
    StreamFaults
faults_of reads writes keeps source source_after sink sink_after journal journal_after = record {
  reads = reads source;
  reads_after = reads source_after;
  writes = writes sink;
  writes_after = writes sink_after;
  keeps = keeps journal;
  keeps_after = keeps journal_after;
}
