-- A role's store before an entry is appended, after it, and after a fault meanwhile.
use Rattle.std.proofs.Common.{◌≡◌, ℕ, ◌<◌, ◌≤◌, inl, inr, Bool, true, false, ◌⊎◌, List, [], ◌∷◌, ◌++◌, length, refl, sym, ap, ◌∙◌, subst, arith, All, Contains}
use Rattle.std.specs.Prelude.{Err}
use Rattle.std.proofs.lemmas.List.{length-append}
use Rattle.agent_scripts.specs.Job.{Job}
use Rattle.bspl_types.specs.declared.expanded.Expanded.{Expanded}
use Rattle.bspl_types.specs.declared.value.Value.{Value}
use Rattle.bspl_types.specs.History.{instance_of}
use Rattle.durable_store.specs.Calls.{Acknowledged, Ends, HasRoom, Unacknowledged}
use Rattle.durable_store.specs.History.{IsHistory}
use Rattle.durable_store.specs.Restart.{IsRestartCount, IsStartedAgain, StaysSpent}
use Rattle.durable_store.specs.State.{DurableState, IsHistoryFor, IsSoundStore}
use Rattle.local_store.specs.State.{StoreState}
use Rattle.bspl_io.specs.declared.sink.Trouble.{Trouble}
use Rattle.bspl_io.specs.declared.sink.Trouble.TheVariants.{Failed}
use Rattle.bspl_io.specs.declared.sink.Trouble.TheVariants as troubles
use Rattle.bspl_io.specs.Faults.{last_count}
use Rattle.role_journal.specs.Counts.{Counts, after_fault, after_restart}
use Rattle.role_journal.specs.EntryBody.{IsEntry}
use Rattle.role_journal.specs.Journal.{IsBeforeOrAfter, IsJournal, places}
use Rattle.stamped_history.specs.declared.entry.Entry.{Entry}
use Rattle.stamped_history.specs.Local.{IsLocal}
use Rattle.restart_run.specs.Disks.{IsHistoryOf, IsLateDisk, IsWrittenDisk}
use Rattle.restart_run.specs.inner.Keeping.{HasKept, HoldsNext, IsCutOff, IsKeeper, IsRefusedAt, MayAppend, counts_when, refusal_of}

module _ {D : Type 0} (seen : D → List ℕ) (may_leave : D → List ℕ → Type 0) (clock : D → ℕ) (left_since : D → ℕ → List ℕ → Type 0) (counts : D → Counts) (job : Job) (role : ℕ) (restarted : Bool) (s : DurableState D) (keeper : IsKeeper counts job role restarted s) where
  -- there is a place for the next entry
  pub room_for : (e : Entry) → IsSoundStore seen may_leave counts s → MayAppend seen job role s e → HasRoom s
  room_for e sound may = record {
    unspent = keeper.unspent;
    spare = omega (arith, may.room, (sound.ready keeper.unspent).room);
  }

  -- the history stays local with it
  pub local_for : (e : Entry) → MayAppend seen job role s e → IsLocal s.store.protocol s.store.role (s.store.entries ++ e ∷ [])
  local_for e may =
      subst (λ (x : Expanded). IsLocal x s.store.role (s.store.entries ++ e ∷ [])) (sym keeper.protocol_is)
      (subst (λ (r : ℕ). IsLocal job.protocol r (s.store.entries ++ e ∷ [])) (sym keeper.role_is) may.local)

  -- and its key is held
  pub held_for : (e : Entry) → MayAppend seen job role s e → Contains s.store.keys (instance_of e.event).key
  held_for e may = subst (λ (keys : List (List Value)). Contains keys (instance_of e.event).key) (sym keeper.keys_are) may.under

  -- a history for the store is one of the role under the workload keys
  history_of_role : (entries : List Entry) → IsHistoryFor s.store entries → IsHistoryOf job role entries
  history_of_role entries history =
      subst (λ (x : Expanded). IsHistory x role job.script.keys entries) keeper.protocol_is
      (subst (λ (r : ℕ). IsHistory s.store.protocol r job.script.keys entries) keeper.role_is
      (subst (λ (keys : List (List Value)). IsHistory s.store.protocol s.store.role keys entries) keeper.keys_are history))

  -- after an acknowledged entry
  pub appended : (e : Entry) (t : DurableState D) → Ends seen may_leave clock left_since (Acknowledged e) s t → counts t.disk ≡ counts s.disk → HasKept seen counts job role (s.store.entries ++ e ∷ []) (length (seen s.disk)) restarted t
  appended e t (writes, written) same = record {
    keeper = record {
      protocol_is = ap (λ (u : StoreState). u.protocol) written.store ∙ keeper.protocol_is;
      role_is = ap (λ (u : StoreState). u.role) written.store ∙ keeper.role_is;
      keys_are = ap (λ (u : StoreState). u.keys) written.store ∙ keeper.keys_are;
      unspent = written.unspent;
      counts_are = same ∙ keeper.counts_are;
    };
    entries_are = ap (λ (u : StoreState). u.entries) written.store;
    size_is = writes.tail.size;
  }

  -- after one that is not acknowledged, because a call of the disk failed
  pub cut_off : ((d : D) (t : ℕ) (c : List ℕ) → t ≤ clock d → may_leave d c → left_since d t c) → (e : Entry) (t : DurableState D) → IsSoundStore seen may_leave counts s → MayAppend seen job role s e → Ends seen may_leave clock left_since (Unacknowledged e) s t → counts t.disk ≡ after_fault (counts s.disk) → IsCutOff seen may_leave counts job role restarted t e
  cut_off counts_now e t sound may (writes, spent) fault =
      let same : s.store ≡ t.store = sym spent.store in
      record {
        protocol_is = ap (λ (u : StoreState). u.protocol) spent.store ∙ keeper.protocol_is;
        role_is = ap (λ (u : StoreState). u.role) spent.store ∙ keeper.role_is;
        keys_are = ap (λ (u : StoreState). u.keys) spent.store ∙ keeper.keys_are;
        spent = spent.spent;
        counts_are = fault ∙ ap after_fault keeper.counts_are;
        leaves = λ image left. subst (λ (u : StoreState). IsBeforeOrAfter u.entries e image) same (writes.crash.each image (counts_now t.disk (clock s.disk) image writes.crash.later left));
        before = subst (λ (u : StoreState). IsHistoryOf job role u.entries) same (history_of_role s.store.entries sound.history);
        after = subst (λ (u : StoreState). IsHistoryOf job role (u.entries ++ e ∷ [])) same (history_of_role (s.store.entries ++ e ∷ []) writes.may_come);
        next = record {
          local = subst (λ (u : StoreState). IsLocal job.protocol role (u.entries ++ e ∷ [])) same may.local;
          under = may.under;
          room = subst (λ (u : StoreState). length u.entries < places (length (seen t.disk))) same (subst (λ (n : ℕ). length s.store.entries < places n) (sym writes.tail.size) may.room);
        };
      }

  -- after any that is not acknowledged
  pub held_next : ((d : D) (t : ℕ) (c : List ℕ) → t ≤ clock d → may_leave d c → left_since d t c) → (e : Entry) (t : DurableState D) → IsSoundStore seen may_leave counts s → Ends seen may_leave clock left_since (Unacknowledged e) s t → HoldsNext seen may_leave job role s.store.entries e (length (seen s.disk)) t.disk
  held_next counts_now e t sound (writes, spent) = record {
    leaves = λ image left. writes.crash.each image (counts_now t.disk (clock s.disk) image writes.crash.later left);
    before = history_of_role s.store.entries sound.history;
    after = history_of_role (s.store.entries ++ e ∷ []) writes.may_come;
    size_is = writes.tail.size;
  }

  -- a fault after a restart is a late one
  pub late_refused : restarted ≡ true → (e : Entry) (size : ℕ) (t : DurableState D) (trouble : Trouble) → HoldsNext seen may_leave job role s.store.entries e size t.disk → (trouble ≡ Failed → counts t.disk ≡ after_fault (counts s.disk)) → IsRefusedAt may_leave counts job role t.disk (refusal_of trouble role)
  late_refused again e size t Failed next counted = (
    refl,
    let is : counts t.disk ≡ record { faults = 2; late = 1; restarted = true } = counted refl ∙ ap after_fault (keeper.counts_are ∙ ap counts_when again) in
        record {
          histories = λ image left. elim (next.leaves image left) [
            | inl early ↦ (s.store.entries, (next.before, early))
            | inr late ↦ (s.store.entries ++ e ∷ [], (next.after, late))
          ];
          late = omega (arith, ap (λ (c : Counts). c.late) is);
        },
  )
  late_refused again e size t troubles.NoMemory next counted = tt

  -- what the store's disk keeps in the end
  pub kept_written : IsSoundStore seen may_leave counts s → IsWrittenDisk may_leave counts s.store.entries s.disk
  kept_written sound =
      let ready = sound.ready keeper.unspent in
      record {
        journal = λ image left. subst (IsJournal s.store.entries) (sym (ready.keeps.settled image left)) ready.keeps.journal;
        once = (elim restarted as (λ (b : Bool). counts s.disk ≡ counts_when b → (counts s.disk ≡ counts_when false) ⊎ (counts s.disk ≡ counts_when true)) [ true ↦ λ is. inr is | false ↦ λ is. inl is ]) keeper.counts_are;
      }

module _ {D : Type 0} (seen : D → List ℕ) (may_leave : D → List ℕ → Type 0) (counts : D → Counts) (job : Job) (role : ℕ) (restarted : Bool) (cut : DurableState D) (e : Entry) (off : IsCutOff seen may_leave counts job role restarted cut e) where
  -- whatever a crash leaves is a journal of some history
  pub cut_histories : (image : List ℕ) → may_leave cut.disk image → (entries : List Entry) × (IsHistoryOf job role entries × IsJournal entries image)
  cut_histories image left = elim (off.leaves image left) [
    | inl early ↦ (cut.store.entries, (off.before, early))
    | inr late ↦ (cut.store.entries ++ e ∷ [], (off.after, late))
  ]

  -- it failed late, if the role was restarted before
  pub cut_late : restarted ≡ true → IsLateDisk may_leave counts job role cut.disk
  cut_late before =
      let is : counts cut.disk ≡ record { faults = 2; late = 1; restarted = true } = off.counts_are ∙ ap (λ (b : Bool). after_fault (counts_when b)) before in
      record { histories = cut_histories; late = omega (arith, ap (λ (c : Counts). c.late) is) }

  -- it holds the next entry or not
  pub cut_next : HoldsNext seen may_leave job role cut.store.entries e (length (seen cut.disk)) cut.disk
  cut_next = record { leaves = off.leaves; before = off.before; after = off.after; size_is = refl }

  -- there is room in the count for another failure
  pub cut_countable : restarted ≡ false → (counts cut.disk).faults < last_count
  cut_countable first =
      let is : counts cut.disk ≡ record { faults = 1; late = 0; restarted = false } = off.counts_are ∙ ap (λ (b : Bool). after_fault (counts_when b)) first in
      omega (arith, ap (λ (c : Counts). c.faults) is)

  -- a store that could not be started again
  module _ (t : DurableState D) (stays : StaysSpent seen may_leave cut t) where
    pub spent_next : HoldsNext seen may_leave job role cut.store.entries e (length (seen cut.disk)) t.disk
    spent_next = record { leaves = λ image left. off.leaves image (stays.less image left); before = off.before; after = off.after; size_is = stays.size }

    pub spent_refused : (trouble : Trouble) → restarted ≡ false → IsRestartCount {T = Unit {0}} (Err trouble) (counts cut.disk) (counts t.disk) → IsRefusedAt may_leave counts job role t.disk (refusal_of trouble role)
    spent_refused Failed first counted = (
      refl,
      let is : counts t.disk ≡ record { faults = 2; late = 1; restarted = true } = counted ∙ ap (λ (c : Counts). after_fault (after_restart c)) (off.counts_are ∙ ap (λ (b : Bool). after_fault (counts_when b)) first) in
          record { histories = λ image left. cut_histories image (stays.less image left); late = omega (arith, ap (λ (c : Counts). c.late) is) },
    )
    spent_refused troubles.NoMemory first counted = tt

  module _ (t : DurableState D) (again : IsStartedAgain seen may_leave counts cut t) (first : restarted ≡ false) (counted : counts t.disk ≡ after_restart (counts cut.disk)) where
    -- the disk kept the entry, or the store ends before it
    kept_or_not : (t.store.entries ≡ cut.store.entries) ⊎ (t.store.entries ≡ cut.store.entries ++ e ∷ [])
    kept_or_not = elim (off.leaves (seen t.disk) again.left) [
      | inl early ↦ inl (again.entries_are cut.store.entries (subst (λ (x : Expanded). All (IsEntry x) cut.store.entries) (sym off.protocol_is) off.before.sized) early)
      | inr late ↦ inr (again.entries_are (cut.store.entries ++ e ∷ []) (subst (λ (x : Expanded). All (IsEntry x) (cut.store.entries ++ e ∷ [])) (sym off.protocol_is) off.after.sized) late)
    ]

    -- it serves the role again
    pub keeper_again : IsKeeper counts job role true t
    keeper_again = record {
      protocol_is = again.started.protocol_is ∙ off.protocol_is;
      role_is = again.started.role_is ∙ off.role_is;
      keys_are = again.keys_are ∙ off.keys_are;
      unspent = again.started.unspent;
      counts_are = counted ∙ ap after_restart (off.counts_are ∙ ap (λ (b : Bool). after_fault (counts_when b)) first);
    }

    -- it kept the entry if the store is longer than what was acknowledged
    pub kept_longer : length cut.store.entries < length t.store.entries → HasKept seen counts job role (cut.store.entries ++ e ∷ []) (length (seen cut.disk)) true t
    kept_longer longer = elim kept_or_not [
      | inl early ↦ absurd (omega (arith, longer, ap length early))
      | inr late ↦ record { keeper = keeper_again; entries_are = late; size_is = again.size }
    ]

    -- else the store ends before it, and the entry may be appended again
    pub lost_same : length t.store.entries ≤ length cut.store.entries → t.store.entries ≡ cut.store.entries
    lost_same short = elim kept_or_not [
      | inl early ↦ early
      | inr late ↦ absurd (omega (arith, short, ap length late, length-append cut.store.entries (e ∷ [])))
    ]

    pub may_append_again : length t.store.entries ≤ length cut.store.entries → MayAppend seen job role t e
    may_append_again short =
        let same : cut.store.entries ≡ t.store.entries = sym (lost_same short) in
        record {
          local = subst (λ (es : List Entry). IsLocal job.protocol role (es ++ e ∷ [])) same off.next.local;
          under = off.next.under;
          room = subst (λ (n : ℕ). length t.store.entries < places n) (sym again.size) (subst (λ (es : List Entry). length es < places (length (seen cut.disk))) same off.next.room);
        }

    -- what holds once it was appended again, or was cut off once more
    pub kept_late : (u : DurableState D) → length t.store.entries ≤ length cut.store.entries → HasKept seen counts job role (t.store.entries ++ e ∷ []) (length (seen t.disk)) true u → HasKept seen counts job role (cut.store.entries ++ e ∷ []) (length (seen cut.disk)) true u
    kept_late u short kept = record { keeper = kept.keeper; entries_are = kept.entries_are ∙ ap (λ (es : List Entry). es ++ e ∷ []) (lost_same short); size_is = kept.size_is ∙ again.size }

    pub next_late : (u : D) → length t.store.entries ≤ length cut.store.entries → HoldsNext seen may_leave job role t.store.entries e (length (seen t.disk)) u → HoldsNext seen may_leave job role cut.store.entries e (length (seen cut.disk)) u
    next_late u short next =
        subst (λ (es : List Entry). HoldsNext seen may_leave job role es e (length (seen cut.disk)) u) (lost_same short)
        (subst (λ (n : ℕ). HoldsNext seen may_leave job role t.store.entries e n u) again.size next)
