-- What a store is after an entry was appended, or after that was cut short.
use Rattle.std.proofs.Common.{◌≡◌, ℕ, ◌-◌, ◌<◌, ◌≤◌, List, [], ◌∷◌, ◌++◌, length, refl, sym, ap, ◌∙◌, subst, arith, All, Contains}
use Rattle.std.specs.Prelude.{Result, Ok, Err, IsErr}
use Rattle.std.proofs.lemmas.List.{length-append}
use Rattle.std.proofs.lemmas.List.Elements.{All-contains, All-push, Contains-push}
use Rattle.list_base.proofs.Mapped.{all_of_mapped}
use Rattle.bspl_io.specs.declared.sink.Trouble.{Trouble}
use Rattle.bspl_io.specs.Faults.{last_count}
use Rattle.bspl_types.specs.declared.event.Event.{Event}
use Rattle.bspl_types.specs.declared.expanded.Expanded.{Expanded}
use Rattle.bspl_types.specs.History.{instance_of}
use Rattle.bspl_types.specs.Instance.{Fits}
use Rattle.local_store.specs.State.{StoreState}
use Rattle.role_journal.specs.Counts.{Counts}
use Rattle.role_journal.specs.Crash.{CrashLeavesOnly}
use Rattle.role_journal.specs.EntryBody.{IsEntry}
use Rattle.role_journal.specs.Journal.{HasSameTail, IsBeforeOrAfter, KeepsJournal, places}
use Rattle.stamped_history.specs.declared.entry.Entry.{Entry}
use Rattle.stamped_history.specs.Local.{IsLocal}
use Rattle.durable_store.specs.Calls.{BecomesSpent, Ends, HasRoom, HasWritten, WritesEntry, Acknowledged, appended_as}
use Rattle.durable_store.specs.State.{DurableState, IsHistoryFor, IsSoundStore}

-- the last entry of a local history fits
last_fits : (x : Expanded) (role : ℕ) (entries : List Entry) (e : Entry) → IsLocal x role (entries ++ e ∷ []) → Fits x (instance_of e.event)
last_fits x role entries e local =
    let all : All (λ (f : Entry). Fits x (instance_of f.event)) (entries ++ e ∷ []) = all_of_mapped (λ (v : Event). Fits x (instance_of v)) (λ (f : Entry). f.event) (entries ++ e ∷ []) local.fits in
    All-contains (λ (f : Entry). Fits x (instance_of f.event)) (entries ++ e ∷ []) e all (Contains-push entries e)

-- an entry that may come next: it leaves the history local, is under a held key, and has sizes
pub record IsNextEntry (s : StoreState) (e : Entry) : Type 0 where
  pub local : IsLocal s.protocol s.role (s.entries ++ e ∷ [])
  pub held : Contains s.keys (instance_of e.event).key
  pub sized : (x : Expanded) → Fits x (instance_of e.event) → IsEntry x e

-- with it there is a history
history_with : (s : StoreState) (e : Entry) → IsHistoryFor s s.entries → IsNextEntry s e → IsHistoryFor s (s.entries ++ e ∷ [])
history_with s e history next = record {
  sized = All-push (IsEntry s.protocol) s.entries e history.sized (next.sized s.protocol (last_fits s.protocol s.role s.entries e next.local));
  local = next.local;
  under = All-push (λ (f : Entry). Contains s.keys (instance_of f.event).key) s.entries e history.under next.held;
}

module _ {D : Type 0} (seen : D → List ℕ) (may_leave : D → List ℕ → Type 0) (clock : D → ℕ) (left_since : D → ℕ → List ℕ → Type 0) (counts : D → Counts) where
  -- a store, and the disk while an entry is appended, which it reads as the next one
  pub record IsAppending (s : DurableState D) (e : Entry) (new : D) : Type 0 where
    pub sound : IsSoundStore seen may_leave counts s
    pub room : HasRoom s
    pub next : IsNextEntry s.store e
    pub crash : (entries : List Entry) → length s.store.entries ≡ length entries → KeepsJournal seen may_leave s.disk entries → CrashLeavesOnly clock left_since s.disk new (IsBeforeOrAfter entries e)
    pub tail : HasSameTail (seen s.disk) (seen new)

  -- what a call that appends writes, however it ends
  writes : (s t : DurableState D) (e : Entry) → IsAppending s e t.disk → WritesEntry seen clock left_since e s t
  writes s t e appending = record {
    room = appending.room;
    may_come = history_with s.store e appending.sound.history appending.next;
    crash = appending.crash s.store.entries refl (appending.sound.ready appending.room.unspent).keeps;
    tail = appending.tail;
  }

  -- a store that was cut short is sound
  pub cut_is_sound : (s t : DurableState D) (e : Entry) → ((now : ℕ) (c : List ℕ) → now ≤ clock t.disk → may_leave t.disk c → left_since t.disk now c) → IsAppending s e t.disk → BecomesSpent s t → IsSoundStore seen may_leave counts t
  cut_is_sound s t e counts_now appending cut =
      let w = writes s t e appending in record {
        history = subst (λ (u : StoreState). IsHistoryFor u u.entries) (sym cut.store) appending.sound.history;
        ready = λ unspent. let spent = cut.spent in absurd (cc);
        cut_short = λ _. record {
          next = e;
          may_come = subst (λ (u : StoreState). IsHistoryFor u (u.entries ++ e ∷ [])) (sym cut.store) w.may_come;
          leaves = λ c left. subst (λ (u : StoreState). IsBeforeOrAfter u.entries e c) (sym cut.store) (w.crash.each c (counts_now (clock s.disk) c w.crash.later left));
        };
      }

  -- and so does its call end
  pub cut_ends : {T : Type 0} (result : Result T Trouble) (s t : DurableState D) (e : Entry) → IsErr result → IsAppending s e t.disk → BecomesSpent s t → Ends seen may_leave clock left_since (appended_as result e) s t
  cut_ends (Ok x) s t e failed appending cut = absurd (cc)
  cut_ends (Err trouble) s t e failed appending cut = (writes s t e appending, cut)

  -- a store with one entry more is sound
  pub done_is_sound : (s t : DurableState D) (e : Entry) → IsAppending s e t.disk → HasWritten seen may_leave e s t → counts t.disk ≡ counts s.disk → IsSoundStore seen may_leave counts t
  done_is_sound s t e appending written still =
      let w = writes s t e appending in
      let ready = appending.sound.ready appending.room.unspent in
      let spare = appending.room.spare in
      let entries_are : t.store.entries ≡ s.store.entries ++ e ∷ [] = ap (λ (u : StoreState). u.entries) written.store in
      let spare_is : t.store.spare ≡ s.store.spare - 1 = ap (λ (u : StoreState). u.spare) written.store in
      record {
        history = subst (λ (u : StoreState). IsHistoryFor u u.entries) (sym written.store) w.may_come;
        ready = λ _. record {
          keeps = written.keeps;
          room = omega (arith, ap length entries_are, length-append s.store.entries (e ∷ []), ready.room) ∙ ap places (sym w.tail.size);
          countable = subst (λ (k : Counts). k.faults < last_count) (sym still) ready.countable;
        };
        cut_short = λ spent. let unspent = written.unspent in absurd (cc);
      }

  -- and so does its call end
  pub done_ends : (s t : DurableState D) (e : Entry) → IsAppending s e t.disk → HasWritten seen may_leave e s t → Ends seen may_leave clock left_since (Acknowledged e) s t
  done_ends s t e appending written = (writes s t e appending, written)
