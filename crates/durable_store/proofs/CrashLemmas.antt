-- Whenever a crash comes, a store starts from what it leaves with what was acknowledged.
use Rattle.std.proofs.Common.{◌≡◌, ℕ, ◌≤◌, inl, inr, true, false, List, [], ◌∷◌, ◌++◌, refl, sym, ap, ◌∙◌, subst, All, Contains}
use Rattle.std.specs.Prelude.{Option, None, Some, Result, Ok, Err}
use Rattle.std.proofs.lemmas.Bool.{cases_Bool}
use Rattle.std.proofs.lemmas.List.{append-nil, append_assoc}
use Rattle.std.proofs.lemmas.List.Elements.{All-weaker}
use Rattle.bspl_types.specs.declared.expanded.Expanded.{Expanded}
use Rattle.bspl_types.specs.declared.value.Value.{Value}
use Rattle.bspl_types.specs.Admission.{IsAdmitted}
use Rattle.bspl_types.specs.History.{instance_of}
use Rattle.local_store.specs.State.{StoreState}
use Rattle.role_journal.specs.Counts.{Counts}
use Rattle.role_journal.specs.EntryBody.{IsEntry}
use Rattle.role_journal.specs.Journal.{IsBeforeOrAfter, IsJournal}
use Rattle.stamped_history.specs.declared.entry.Entry.{Entry}
use Rattle.stamped_history.specs.Local.{IsLocal}
use Rattle.durable_store.specs.declared.refusals.StartRefusal.{StartRefusal}
use Rattle.durable_store.specs.declared.refusals.StartRefusal.TheVariants.{Alien}
use Rattle.durable_store.specs.Calls.{Ends, Outcome, Unchanged, Acknowledged, Unacknowledged, WritesEntry}
use Rattle.durable_store.specs.History.{IsHistory}
use Rattle.durable_store.specs.Laws.{HistoriesAreNative, JournalsAreOne}
use Rattle.durable_store.specs.Restored.{AreCalls, CrashIsRestored, Restores, acknowledged, pending_in, unacknowledged}
use Rattle.durable_store.specs.Start.{IsStartAnswer, IsStarted, IsStartRefusal}
use Rattle.durable_store.specs.State.{DurableState, IsHistoryFor}

-- the first of the two that is there
or_else : Option Entry → Option Entry → Option Entry
or_else None second = second
or_else (Some e) second = Some e

-- a history for the store is one under all of these keys
wider : (s : StoreState) (x : Expanded) (role : ℕ) (keys : List (List Value)) (entries : List Entry) → s.protocol ≡ x → s.role ≡ role → ((key : List Value) → Contains s.keys key → Contains keys key) → IsHistoryFor s entries → IsHistory x role keys entries
wider s x role keys entries protocol_is role_is held history = record {
  sized = subst (λ (y : Expanded). All (IsEntry y) entries) protocol_is history.sized;
  local = subst (λ (y : Expanded). IsLocal y role entries) protocol_is (subst (λ (r : ℕ). IsLocal s.protocol r entries) role_is history.local);
  under = All-weaker (λ (e : Entry). Contains s.keys (instance_of e.event).key) (λ (e : Entry). Contains keys (instance_of e.event).key) (λ e. held (instance_of e.event).key) entries history.under;
}

-- nothing before
none_first : (e : Option Entry) → or_else None e ≡ e
unfolding or_else
none_first e = refl

-- what is pending does not change with a call that changes nothing
same_pending : (e : Option Entry) → or_else e None ≡ e
unfolding or_else
same_pending None = refl
same_pending (Some e) = refl

-- one call, and then the others
pending_row : (before : Option Entry) (call : Outcome) (calls : List Outcome) → or_else (or_else before (unacknowledged (call ∷ []))) (unacknowledged calls) ≡ or_else before (unacknowledged (call ∷ calls))
unfolding or_else
pending_row None Unchanged calls = refl
pending_row None (Acknowledged e) calls = refl
pending_row None (Unacknowledged e) calls = refl
pending_row (Some f) Unchanged calls = refl
pending_row (Some f) (Acknowledged e) calls = refl
pending_row (Some f) (Unacknowledged e) calls = refl

acknowledged_row : (entries : List Entry) (call : Outcome) (calls : List Outcome) → (entries ++ acknowledged (call ∷ [])) ++ acknowledged calls ≡ entries ++ acknowledged (call ∷ calls)
acknowledged_row entries Unchanged calls = ap (λ (es : List Entry). es ++ acknowledged calls) (append-nil entries)
acknowledged_row entries (Acknowledged e) calls = append_assoc entries (e ∷ []) (acknowledged calls)
acknowledged_row entries (Unacknowledged e) calls = ap (λ (es : List Entry). es ++ acknowledged calls) (append-nil entries)

module _ {D : Type 0} (seen : D → List ℕ) (may_leave : D → List ℕ → Type 0) (clock : D → ℕ) (left_since : D → ℕ → List ℕ → Type 0) (counts : D → Counts) (x : Expanded) (role : ℕ) (keys : List (List Value)) where
  -- the event that was not acknowledged, after these entries; a crash now leaves it or not
  record IsPending (s : DurableState D) (entries : List Entry) (pending : Option Entry) : Type 0 where
    next : Entry
    is : pending ≡ Some next
    history : IsHistory x role keys (entries ++ next ∷ [])
    leaves : (c : List ℕ) → may_leave s.disk c → IsBeforeOrAfter entries next c

  -- a store of these entries, and what a crash may leave of it now
  record Stands (s : DurableState D) (entries : List Entry) (pending : Option Entry) : Type 0 where
    protocol_is : s.store.protocol ≡ x
    role_is : s.store.role ≡ role
    held : (key : List Value) → Contains s.store.keys key → Contains keys key
    entries_are : s.store.entries ≡ entries
    history : IsHistory x role keys entries
    none : s.spent ≡ false → pending ≡ None
    leaves : s.spent ≡ false → (c : List ℕ) → may_leave s.disk c → IsJournal entries c
    cut_short : s.spent ≡ true → IsPending s entries pending

  -- as it was started
  started : (first : DurableState D) → IsStarted seen may_leave counts x role keys first → Stands first first.store.entries None
  started first is = record {
    protocol_is = is.protocol_is;
    role_is = is.role_is;
    held = λ key. (is.keys_are.same key).0;
    entries_are = refl;
    history = is.history;
    none = λ _. refl;
    leaves = λ _ c left. subst (IsJournal first.store.entries) (sym (is.ready.keeps.settled c left)) is.ready.keeps.journal;
    cut_short = λ spent. let unspent = is.unspent in absurd (cc);
  }

  module _ (counts_now : (d : D) (t : ℕ) (c : List ℕ) → t ≤ clock d → may_leave d c → left_since d t c) where
    -- after one call
    after_call : (s t : DurableState D) (entries : List Entry) (pending : Option Entry) (call : Outcome) → Stands s entries pending → Ends seen may_leave clock left_since call s t → Stands t (entries ++ acknowledged (call ∷ [])) (or_else pending (unacknowledged (call ∷ [])))
    after_call s t entries pending Unchanged stands same =
        subst (λ (es : List Entry). Stands t es (or_else pending None)) (sym (append-nil entries))
        (subst (λ (p : Option Entry). Stands t entries p) (sym (same_pending pending)) (subst (λ (u : DurableState D). Stands u entries pending) (sym same) stands))
    after_call s t entries pending (Acknowledged e) stands (writes, written) =
        let none : pending ≡ None = stands.none writes.room.unspent in
        let more : t.store.entries ≡ entries ++ e ∷ [] = ap (λ (u : StoreState). u.entries) written.store ∙ ap (λ (es : List Entry). es ++ e ∷ []) stands.entries_are in
        record {
          protocol_is = ap (λ (u : StoreState). u.protocol) written.store ∙ stands.protocol_is;
          role_is = ap (λ (u : StoreState). u.role) written.store ∙ stands.role_is;
          held = λ key among. stands.held key (subst (λ (u : StoreState). Contains u.keys key) written.store among);
          entries_are = more;
          history = subst (λ (es : List Entry). IsHistory x role keys (es ++ e ∷ [])) stands.entries_are (wider s.store x role keys (s.store.entries ++ e ∷ []) stands.protocol_is stands.role_is stands.held writes.may_come);
          none = λ _. same_pending pending ∙ none;
          leaves = λ _ c left. subst (λ (es : List Entry). IsJournal es c) more (subst (IsJournal t.store.entries) (sym (written.keeps.settled c left)) written.keeps.journal);
          cut_short = λ spent. let unspent = written.unspent in absurd (cc);
        }
    after_call s t entries pending (Unacknowledged e) stands (writes, cut) =
        let none : pending ≡ None = stands.none writes.room.unspent in
        let first : or_else pending (Some e) ≡ Some e = ap (λ (p : Option Entry). or_else p (Some e)) none ∙ none_first (Some e) in
        let all : entries ++ [] ≡ entries = append-nil entries in
        subst (λ (es : List Entry). Stands t es (or_else pending (Some e))) (sym all) (record {
          protocol_is = ap (λ (u : StoreState). u.protocol) cut.store ∙ stands.protocol_is;
          role_is = ap (λ (u : StoreState). u.role) cut.store ∙ stands.role_is;
          held = λ key among. stands.held key (subst (λ (u : StoreState). Contains u.keys key) cut.store among);
          entries_are = ap (λ (u : StoreState). u.entries) cut.store ∙ stands.entries_are;
          history = stands.history;
          none = λ unspent. let spent = cut.spent in absurd (cc);
          leaves = λ unspent. let spent = cut.spent in absurd (cc);
          cut_short = λ _. record {
            next = e;
            is = first;
            history = subst (λ (es : List Entry). IsHistory x role keys (es ++ e ∷ [])) stands.entries_are (wider s.store x role keys (s.store.entries ++ e ∷ []) stands.protocol_is stands.role_is stands.held writes.may_come);
            leaves = λ c left. subst (λ (es : List Entry). IsBeforeOrAfter es e c) stands.entries_are (writes.crash.each c (counts_now t.disk (clock s.disk) c writes.crash.later left));
          };
        })

    -- after a row of calls
    after_calls : (calls : List Outcome) (s t : DurableState D) (entries : List Entry) (pending : Option Entry) → Stands s entries pending → AreCalls seen may_leave clock left_since counts calls s t → Stands t (entries ++ acknowledged calls) (or_else pending (unacknowledged calls))
    after_calls [] s t entries pending stands same =
        subst (λ (es : List Entry). Stands t es (or_else pending None)) (sym (append-nil entries))
        (subst (λ (p : Option Entry). Stands t entries p) (sym (same_pending pending)) (subst (λ (u : DurableState D). Stands u entries pending) (sym same) stands))
    after_calls (call ∷ calls) s t entries pending stands (next, ends, row) =
        let later = after_calls calls next t (entries ++ acknowledged (call ∷ [])) (or_else pending (unacknowledged (call ∷ []))) (after_call s next entries pending call stands ends) row in
        subst (λ (es : List Entry). Stands t es (or_else pending (unacknowledged (call ∷ calls)))) (acknowledged_row entries call calls)
        (subst (λ (p : Option Entry). Stands t ((entries ++ acknowledged (call ∷ [])) ++ acknowledged calls) p) (pending_row pending call calls) later)

  module _ (one : JournalsAreOne) (native : HistoriesAreNative) (admitted : IsAdmitted x) (image : List ℕ) where
    -- a store that starts from the image has the entries of the journal
    entries_back : (entries : List Entry) (s : DurableState D) → IsHistory x role keys entries → IsJournal entries image → IsStarted seen may_leave counts x role keys s → seen s.disk ≡ image → s.store.entries ≡ entries
    entries_back entries s history journal is same =
        one x image s.store.entries entries admitted is.history.sized history.sized (subst (IsJournal s.store.entries) same is.ready.keeps.journal) journal

    -- and no place is alien
    none_alien : (entries : List Entry) (e : StartRefusal × D) → IsHistory x role keys entries → IsJournal entries image → (old : Counts) × IsStartRefusal x role keys image old (counts e.1) e.0 → (place : ℕ) → e.0 ≡ Alien place → ⊥
    none_alien entries e history journal (old, refused) place is =
        let alien = subst (IsStartRefusal x role keys image old (counts e.1)) is refused in
        native x role keys image entries admitted history journal place alien.0.alien

    -- from a journal of these entries, what is pending is not there
    from_before : (entries : List Entry) (pending : Option Entry) (answer : Result (DurableState D) (StartRefusal × D)) → IsHistory x role keys entries → IsJournal entries image → IsStartAnswer seen may_leave counts x role keys image answer → Restores seen may_leave clock left_since counts entries pending answer
    from_before entries pending (Ok s) history journal (is, same) = inl (entries_back entries s history journal is same)
    from_before entries pending (Err e) history journal refused = none_alien entries e history journal refused

    -- from one with the pending entry it is
    from_after : (entries : List Entry) (next : Entry) (pending : Option Entry) (answer : Result (DurableState D) (StartRefusal × D)) → pending ≡ Some next → IsHistory x role keys (entries ++ next ∷ []) → IsJournal (entries ++ next ∷ []) image → IsStartAnswer seen may_leave counts x role keys image answer → Restores seen may_leave clock left_since counts entries pending answer
    from_after entries next pending (Ok s) some history journal (is, same) = inr (next, some, entries_back (entries ++ next ∷ []) s history journal is same)
    from_after entries next pending (Err e) some history journal refused = none_alien (entries ++ next ∷ []) e history journal refused

    -- from either
    from_either : (entries : List Entry) (next : Entry) (pending : Option Entry) (answer : Result (DurableState D) (StartRefusal × D)) → pending ≡ Some next → IsHistory x role keys entries → IsHistory x role keys (entries ++ next ∷ []) → IsBeforeOrAfter entries next image → IsStartAnswer seen may_leave counts x role keys image answer → Restores seen may_leave clock left_since counts entries pending answer
    from_either entries next pending answer some before after (inl journal) on = from_before entries pending answer before journal on
    from_either entries next pending answer some before after (inr journal) on = from_after entries next pending answer some after journal on

    -- a crash between two calls
    between_calls : (s : DurableState D) (entries : List Entry) (pending : Option Entry) (answer : Result (DurableState D) (StartRefusal × D)) → Stands s entries pending → may_leave s.disk image → IsStartAnswer seen may_leave counts x role keys image answer → Restores seen may_leave clock left_since counts entries pending answer
    between_calls s entries pending answer stands left on = elim (cases_Bool s.spent) [
      | inl spent ↦
          let is = stands.cut_short spent in
          from_either entries is.next pending answer is.is stands.history is.history (is.leaves image left) on
      | inr unspent ↦ from_before entries pending answer stands.history (stands.leaves unspent image left) on
    ]

    -- the event of a call, at some moment of it
    in_event : (s t : DurableState D) (entries : List Entry) (pending : Option Entry) (e : Entry) (answer : Result (DurableState D) (StartRefusal × D)) → Stands s entries pending → WritesEntry seen clock left_since e s t → left_since t.disk (clock s.disk) image → IsStartAnswer seen may_leave counts x role keys image answer → Restores seen may_leave clock left_since counts entries (Some e) answer
    in_event s t entries pending e answer stands writes left on =
        let more : IsHistory x role keys (entries ++ e ∷ []) = subst (λ (es : List Entry). IsHistory x role keys (es ++ e ∷ [])) stands.entries_are (wider s.store x role keys (s.store.entries ++ e ∷ []) stands.protocol_is stands.role_is stands.held writes.may_come) in
        from_either entries e (Some e) answer refl stands.history more (subst (λ (es : List Entry). IsBeforeOrAfter es e image) stands.entries_are (writes.crash.each image left)) on

    module _ (only_now : (d : D) (c : List ℕ) → left_since d (clock d) c → may_leave d c) where
      -- a crash within a call
      within_call : (s t : DurableState D) (entries : List Entry) (pending : Option Entry) (call : Outcome) (answer : Result (DurableState D) (StartRefusal × D)) → Stands s entries pending → Ends seen may_leave clock left_since call s t → left_since t.disk (clock s.disk) image → IsStartAnswer seen may_leave counts x role keys image answer → Restores seen may_leave clock left_since counts entries (pending_in call pending) answer
      within_call s t entries pending Unchanged answer stands same left on =
          between_calls s entries pending answer stands (only_now s.disk image (subst (λ (u : DurableState D). left_since u.disk (clock s.disk) image) same left)) on
      within_call s t entries pending (Acknowledged e) answer stands (writes, written) left on = in_event s t entries pending e answer stands writes left on
      within_call s t entries pending (Unacknowledged e) answer stands (writes, cut) left on = in_event s t entries pending e answer stands writes left on

      module _ (counts_now : (d : D) (t : ℕ) (c : List ℕ) → t ≤ clock d → may_leave d c → left_since d t c) where
        -- after a row of calls of a store that was started
        row_stands : (calls : List Outcome) (first last : DurableState D) → IsStarted seen may_leave counts x role keys first → AreCalls seen may_leave clock left_since counts calls first last → Stands last (first.store.entries ++ acknowledged calls) (unacknowledged calls)
        row_stands calls first last is row =
            subst (λ (p : Option Entry). Stands last (first.store.entries ++ acknowledged calls) p) (none_first (unacknowledged calls))
            (after_calls counts_now calls first last first.store.entries None (started first is) row)

        -- whenever the crash comes
        pub crash_restored : (first : DurableState D) (calls : List Outcome) (answer : Result (DurableState D) (StartRefusal × D)) → IsStarted seen may_leave counts x role keys first → IsStartAnswer seen may_leave counts x role keys image answer → CrashIsRestored seen may_leave clock left_since counts x role keys first calls image answer
        crash_restored first calls answer is on = record {
          between = λ left. between_calls left.last (first.store.entries ++ acknowledged calls) (unacknowledged calls) answer (row_stands calls first left.last is left.row) left.left on;
          within = λ call left. within_call left.old left.new (first.store.entries ++ acknowledged calls) (unacknowledged calls) call answer (row_stands calls first left.old is left.row) left.ends left.left on;
        }
