-- A blank disk is a journal without entries; what a store has that was started.
use Rattle.std.proofs.Common.{◌≡◌, ◌≢◌, ℕ, inl, inr, Bool, true, false, List, [], ◌∷◌, length, sym, ap, ◌∙◌, subst, arith, All}
use Rattle.std.specs.Prelude.{slice_index}
use Rattle.std.specs.List.{AllPairs}
use Rattle.std.proofs.lemmas.Bool.{cases_lt}
use Rattle.std.proofs.lemmas.List.{get_or_past, length-append}
use Rattle.std.proofs.lemmas.List.Elements.{All-nil}
use Rattle.list_base.proofs.Members.{nowhere}
use Rattle.agent_scripts.specs.Job.{Job}
use Rattle.agent_scripts.specs.Fitting.{IsFittingScript}
use Rattle.agent_scripts.specs.Laws.{FitsProtocol}
use Rattle.agent_scripts.specs.Script.{Script}
use Rattle.bspl_types.specs.declared.expanded.Expanded.{Expanded}
use Rattle.bspl_types.specs.declared.value.Value.{Value}
use Rattle.durable_store.specs.History.{IsHistory}
use Rattle.durable_store.specs.Start.{IsStarted}
use Rattle.durable_store.specs.State.{DurableState}
use Rattle.role_journal.specs.Counts.{Counts, after_fault, after_restart, no_faults}
use Rattle.role_journal.specs.Crash.{Leaves, LeavesNoMore}
use Rattle.role_journal.specs.Journal.{IsJournal, gate_of}
use Rattle.stamped_history.specs.declared.entry.Entry.{Entry}
use Rattle.stamped_history.specs.Local.{IsLocal}
use Rattle.restart_run.specs.Disks.{HoldsHistories, IsBlank, IsHistoryOf, IsLateDisk}
use Rattle.restart_run.specs.inner.Keeping.{HasKept, IsKeeper, IsSecondStart, counts_when}

-- a byte of zeros, and one behind the end
zero_byte : (image : List ℕ) (i : ℕ) → All (λ byte. byte ≡ 0) image → slice_index image i ≡ 0
zero_byte image i zeros = elim (cases_lt i (length image)) [
  | inl within ↦ zeros i 0 within
  | inr past ↦ get_or_past image i 0 past
]

-- zeros are a journal without entries
pub blank_journal : (image : List ℕ) → All (λ byte. byte ≡ 0) image → IsJournal [] image
blank_journal image zeros = record {
  few = omega arith;
  whole = All-nil _;
  opened = λ place early. absurd (omega (arith, early));
  bodies_are = λ place body at. absurd (cc);
  closed = λ place late among is. absurd (omega (arith, sym (zero_byte image (gate_of place) zeros) ∙ is));
}

-- no entries are a local history
nothing_local : (x : Expanded) (role : ℕ) → IsLocal x role []
nothing_local x role = record {
  fits = All-nil _;
  own = All-nil _;
  follows = λ before after e is. absurd (omega (arith, ap length is, length-append before (e ∷ after)));
  one_value = λ key p v w knows also. absurd (nowhere knows.event knows.among);
}

pub nothing_history : (x : Expanded) (role : ℕ) (keys : List (List Value)) → IsHistory x role keys []
nothing_history x role keys = record { sized = All-nil _; local = nothing_local x role; under = All-nil _ }

-- a disk that never failed counts nothing
pub counts_nothing : (c : Counts) → c.faults ≡ 0 → c.late ≡ 0 → c.restarted ≡ false → c ≡ no_faults
counts_nothing c faults late restarted = λ j. record { faults = faults j; late = late j; restarted = restarted j }

-- what a crash leaves of a blank disk, and of one that leaves nothing else
pub blank_holds : {D : Type 0} (seen : D → List ℕ) (may_leave : D → List ℕ → Type 0) (counts : D → Counts) (job : Job) (role size : ℕ) (disk left : D) → IsBlank seen may_leave counts size disk → ((image : List ℕ) → may_leave left image → may_leave disk image) → HoldsHistories may_leave job role left
blank_holds seen may_leave counts job role size disk left blank less = λ image leaves. (
  [],
  (nothing_history job.protocol role job.script.keys, subst (IsJournal []) (sym (blank.settled image (less image leaves))) (blank_journal (seen disk) blank.zeros)),
)

-- a store that was started on a disk with these counts
pub started_keeper : {D : Type 0} (seen : D → List ℕ) (may_leave : D → List ℕ → Type 0) (counts : D → Counts) (job : Job) (role : ℕ) (restarted : Bool) (s : DurableState D) → AllPairs ◌≢◌ job.script.keys → IsStarted seen may_leave counts job.protocol role job.script.keys s → counts s.disk ≡ counts_when restarted → IsKeeper counts job role restarted s
started_keeper seen may_leave counts job role restarted s distinct started count = record {
  protocol_is = started.protocol_is;
  role_is = started.role_is;
  keys_are = started.keys_are.in_order distinct;
  unspent = started.unspent;
  counts_are = count;
}

-- the workload keys have a value for each key parameter
pub keys_whole : (job : Job) (keys : List (List Value)) (a : Expanded) → keys ≡ job.script.keys → a ≡ job.protocol → FitsProtocol job.protocol job.script → All (λ (key : List Value). length key ≡ length a.keys) keys
keys_whole job keys a keys_are a_is fits = λ k d within.
    subst (λ (ks : List (List Value)). All (λ (key : List Value). length key ≡ length job.protocol.keys) ks) (sym keys_are) fits.keys k d within
    ∙ ap (λ (x : Expanded). length x.keys) (sym a_is)

-- a store that was started on a blank disk which did not fail
pub first_kept : {D : Type 0} (seen : D → List ℕ) (may_leave : D → List ℕ → Type 0) (counts : D → Counts) (job : Job) (role size : ℕ) (disk : D) (s : DurableState D) → AllPairs ◌≢◌ job.script.keys → ((counts disk).faults ≡ 0 → (counts disk).restarted ≡ false) → IsBlank seen may_leave counts size disk → IsStarted seen may_leave counts job.protocol role job.script.keys s → counts s.disk ≡ counts disk → seen s.disk ≡ seen disk → s.store.entries ≡ [] → HasKept seen counts job role [] (length (seen disk)) false s
first_kept seen may_leave counts job role size disk s distinct calm blank started still same none = record {
  keeper = started_keeper seen may_leave counts job role false s distinct started (still ∙ counts_nothing (counts disk) blank.no_fault blank.none_late (calm blank.no_fault));
  entries_are = none;
  size_is = ap length same;
}

-- one that was started again, since a blank disk failed in the first start
pub again_kept : {D : Type 0} (seen : D → List ℕ) (may_leave : D → List ℕ → Type 0) (counts : D → Counts) (job : Job) (role size : ℕ) (disk left : D) (s : DurableState D) → IsBlank seen may_leave counts size disk → ((image : List ℕ) → may_leave left image → may_leave disk image) → seen left ≡ seen disk → IsSecondStart seen may_leave counts job role left s → HasKept seen counts job role [] (length (seen disk)) true s
again_kept seen may_leave counts job role size disk left s blank less same again =
    let image : seen s.disk ≡ seen disk = blank.settled (seen s.disk) (less (seen s.disk) again.left) in
    record {
      keeper = again.keeper;
      entries_are = again.entries_are [] (nothing_history job.protocol role job.script.keys) (subst (IsJournal []) (sym image) (blank_journal (seen disk) blank.zeros));
      size_is = ap length image;
    }

-- what was started under these keys was started under the workload keys
pub started_for : {D : Type 0} (seen : D → List ℕ) (may_leave : D → List ℕ → Type 0) (counts : D → Counts) (job : Job) (role : ℕ) (a : Expanded) (keys : List (List Value)) (s : DurableState D) → a ≡ job.protocol → keys ≡ job.script.keys → IsStarted seen may_leave counts a role keys s → IsStarted seen may_leave counts job.protocol role job.script.keys s
started_for seen may_leave counts job role a keys s a_is keys_are started =
    subst (λ (x : Expanded). IsStarted seen may_leave counts x role job.script.keys s) a_is (subst (λ (ks : List (List Value)). IsStarted seen may_leave counts a role ks s) keys_are started)

-- the workload keys are distinct
pub keys_distinct : (job : Job) (script : Script) → script ≡ job.script → IsFittingScript script.keys script.rules → AllPairs ◌≢◌ job.script.keys
keys_distinct job script same fits = subst (λ (s : Script). AllPairs ◌≢◌ s.keys) same fits.distinct

-- a disk that failed after its restart
pub late_disk : {D : Type 0} (seen : D → List ℕ) (may_leave : D → List ℕ → Type 0) (counts : D → Counts) (job : Job) (role : ℕ) (disk mid late : D) → HoldsHistories may_leave job role disk → may_leave disk (seen mid) → Leaves (seen mid) (may_leave mid) → LeavesNoMore (may_leave mid) (may_leave late) → counts disk ≡ after_fault no_faults → counts mid ≡ after_restart (counts disk) → counts late ≡ after_fault (counts mid) → IsLateDisk may_leave counts job role late
late_disk seen may_leave counts job role disk mid late holds image settled less fault restart again =
    let is : counts late ≡ record { faults = 2; late = 1; restarted = true } = again ∙ ap after_fault (restart ∙ ap after_restart fault) in
    record {
      histories = λ i left. subst (λ (j : List ℕ). (entries : List Entry) × (IsHistoryOf job role entries × IsJournal entries j)) (sym (settled i (less i left))) (holds (seen mid) image);
      late = omega (arith, ap (λ (c : Counts). c.late) is);
    }
