-- A store with one more event keeps what it has to keep.
use Rattle.std.proofs.Common.{◌≡◌, ℕ, ◌+◌, ◌*◌, ◌-◌, ◌<◌, ◌≤◌, Bool, true, false, List, [], ◌∷◌, ◌++◌, length, get_or, set, Option, None, Some, inl, inr, refl, sym, ap, ◌∙◌, subst, arith}
use Rattle.std.specs.Prelude.{slice_get}
use Rattle.std.specs.List.{All, Contains}
use Rattle.std.proofs.lemmas.Bool.{cases_eq}
use Rattle.std.proofs.lemmas.List.{get_or-set_other, get_or-set_same, map_push}
use Rattle.std.proofs.lemmas.List.Elements.{All-contains, All-push, Contains-get_or}
use Rattle.std.proofs.lemmas.Nat.{mul-add-lt}
use Rattle.std.proofs.lemmas.Option.{get_or_from_slice_get, slice_get-get_or, slice_get_within}
use Rattle.bspl_types.specs.declared.event.Instance.{Instance}
use Rattle.bspl_types.specs.declared.expanded.Expanded.{Expanded}
use Rattle.bspl_types.specs.declared.protocol.Carried.{Carried}
use Rattle.bspl_types.specs.declared.value.Value.{Value}
use Rattle.bspl_types.specs.Adornment.{valued}
use Rattle.bspl_types.specs.Expansion.{message_of}
use Rattle.bspl_types.specs.History.{instance_of, role_of}
use Rattle.bspl_types.specs.Instance.{Fits, pairs}
use Rattle.role_knowledge.specs.Laws.{FirstKnownIsOne}
use Rattle.stamped_history.specs.declared.entry.Entry.{Entry}
use Rattle.stamped_history.specs.Entries.{events_of, last_stamp}
use Rattle.stamped_history.specs.Local.{IsLocal, MayFollowAs}
use Rattle.local_store.specs.declared.act.Act.{Act}
use Rattle.local_store.specs.declared.act.Kind.{Kind}
use Rattle.local_store.specs.Consistent.{AreKeys}
use Rattle.local_store.specs.Reception.{AllAgree, Agrees}
use Rattle.local_store.specs.State.{StoreState, acts_of, with_entry}
use Rattle.local_store.specs.inner.Acts.{ActsState, Rows, entries_in, entry_in, event_as, instance_in, value_in}
use Rattle.local_store.specs.inner.Grids.{bound, cell_at}
use Rattle.local_store.specs.inner.Kept.{HaveRows, IsIndex, IsKept, rows_of, state_of}
use Rattle.local_store.proofs.CellLemmas.{bound_from, bound_has, bound_keeps, same_place}
use Rattle.local_store.proofs.EntryLemmas.{entries_stay, entry_is, event_among, instance_as, own_pair}
use Rattle.local_store.proofs.IndexLemmas.{TakesIn, index_more}
use Rattle.local_store.proofs.InstanceLemmas.{knows_own, one_pair, params_exist, pair_exists}
use Rattle.local_store.proofs.LocalLemmas.{clock_more, events_more, local_more}
use Rattle.list_base.proofs.Filtered.{filtered_member}
use Rattle.bspl_types.specs.Adornment.{has_value}

-- the cell of each value of an act has it
pub act_has : (x : Expanded) (rows : Rows) (acts : List Act) → All (λ a. a.row < length rows.keys) acts → IsIndex x rows (events_of (entries_in x rows acts)) → (a : Act) (c : Carried) → Contains acts a → Contains (valued (message_of x a.message).carried) c → rows.cell a.row c.param ≡ Some (value_in (rows.cell a.row c.param))
act_has x rows acts within index a c among carried =
    let i = instance_in x rows a in
    let row = All-contains (λ b. b.row < length rows.keys) acts a within among in
    let event = event_among x rows acts a among in
    let pair : Contains (pairs x (instance_of (event_as a.kind i))) (c, value_in (rows.cell a.row c.param)) = subst (λ j. Contains (pairs x j) (c, value_in (rows.cell a.row c.param))) (sym (instance_as a.kind i)) (own_pair (λ d. value_in (rows.cell a.row d.param)) (valued (message_of x a.message).carried) c carried) in
    let under = ap (λ j. j.key) (instance_as a.kind i) in
    (index.knows a.row (get_or rows.keys a.row []) c.param (value_in (rows.cell a.row c.param)) (slice_get-get_or rows.keys a.row [] row)
    (params_exist x a.message c (filtered_member (λ d. has_value d.adornment) (message_of x a.message).carried c carried).0)).1
    (knows_own x (events_of (entries_in x rows acts)) (event_as a.kind i) (get_or rows.keys a.row []) c (value_in (rows.cell a.row c.param)) event under pair)

-- the row takes the values and the mark in
pub takes_in : FirstKnownIsOne → (x : Expanded) (role clock : ℕ) (keys : List (List Value)) (cells : List (Option Value)) (marks : List Bool) (cell_rows mark_rows row : ℕ) (log : ActsState) (kind : Kind) (i : Instance) → IsKept x role (rows_of x keys cells marks) log clock → row < cell_rows → row < mark_rows → length cells ≡ cell_rows * length x.params → length marks ≡ mark_rows * length x.messages → slice_get keys row ≡ Some i.key → Fits x i → AllAgree x (events_of (entries_in x (rows_of x keys cells marks) log.acts)) i → TakesIn x (rows_of x keys cells marks) (rows_of x keys (bound (length x.params) row cells (pairs x i)) (set marks (row * length x.messages + i.message) true)) row i
takes_in law x role clock keys cells marks cell_rows mark_rows row log kind i kept cell_row mark_row cell_size mark_size at fits agree =
    let w = length x.params in
    let n = length x.messages in
    let history = events_of (entries_in x (rows_of x keys cells marks) log.acts) in
    let exists = λ (pair : Carried × Value) (among : Contains (pairs x i) pair). pair_exists x i pair.0 pair.1 among in
    let within : All (λ pair. row * w + pair.0.param < length cells) (pairs x i) = λ k d less. within_cells row w cell_rows cells cell_row cell_size (get_or (pairs x i) k d) (exists (get_or (pairs x i) k d) (Contains-get_or (pairs x i) k d less)) in
    let mark = row * n + i.message in
    let mark_room : mark < length marks = omega (arith, mark_size, mul-add-lt row n i.message mark_rows mark_row fits.known) in
    let one = λ (pair other : Carried × Value) (first : Contains (pairs x i) pair) (second : Contains (pairs x i) other) (same : row * w + pair.0.param ≡ row * w + other.0.param). one_pair law x kept.admitted (event_as kind i) pair.0 other.0 pair.1 other.1
    (subst (λ j. Contains (pairs x j) pair) (sym (instance_as kind i)) first) (subst (λ j. Contains (pairs x j) other) (sym (instance_as kind i)) second)
    (same_place w row pair.0.param row other.0.param (exists pair first) (exists other second) same).1 in
    record {
      keys = refl;
      from = λ s p v less is. elim (bound_from w row (pairs x i) cells s p v within is) [
        | inl before ↦ inl before
        | inr (pair, among, same, is_v) ↦
            let place = same_place w row pair.0.param s p (exists pair among) less same in
            inr (sym place.0, (pair.0, subst (λ u. Contains (pairs x i) (pair.0, u)) is_v among, place.1))
      ];
      stay = λ s p v less is. bound_keeps w row (pairs x i) cells s p v within (λ pair among same.
          let place = same_place w row pair.0.param s p (exists pair among) less same in
          let here : cell_at w cells row pair.0.param ≡ Some v = ap (λ k. get_or cells k None) same ∙ is in
          sym (All-contains (Agrees x history i.key) (pairs x i) pair agree among v ((kept.index.knows row i.key pair.0.param v at (exists pair among)).0 here))) is;
      has = λ c v among. bound_has w row (pairs x i) cells c v within one among;
      marked = get_or-set_same marks mark true false mark_room;
      mark_stays = λ s m less is. elim (cases_eq (s * n + m) mark) [
        | inl same ↦ ap (λ k. get_or (set marks mark true) k false) same ∙ get_or-set_same marks mark true false mark_room
        | inr other ↦ get_or-set_other marks mark (s * n + m) true false other ∙ is
      ];
      mark_from = λ s m less is. elim (cases_eq (s * n + m) mark) [
        | inl same ↦ inr (same_place n s m row i.message less fits.known same)
        | inr other ↦ inl (sym (get_or-set_other marks mark (s * n + m) true false other) ∙ is)
      ];
    }
  where
    within_cells : (row w rows : ℕ) (cells : List (Option Value)) → row < rows → length cells ≡ rows * w → (pair : Carried × Value) → pair.0.param < w → row * w + pair.0.param < length cells
    within_cells row w rows cells less size pair exists = omega (arith, size, mul-add-lt row w pair.0.param rows less exists)

-- the entry is the last one, and the store keeps what it has to keep
pub record Appended (x : Expanded) (role : ℕ) (old new : Rows) (log : ActsState) (act : Act) (e : Entry) : Type 0 where
  pub entries : entries_in x new (log.acts ++ act ∷ []) ≡ entries_in x old log.acts ++ e ∷ []
  pub kept : IsKept x role new (record { acts = log.acts ++ act ∷ []; spare = log.spare - 1 }) e.stamp

pub appended : FirstKnownIsOne → (x : Expanded) (role clock : ℕ) (old new : Rows) (log : ActsState) (kind : Kind) (i : Instance) (row stamp number : ℕ) → IsKept x role old log clock → slice_get old.keys row ≡ Some i.key → Fits x i → role_of x (event_as kind i) ≡ role → MayFollowAs x (entries_in x old log.acts) (event_as kind i) stamp number → AllAgree x (events_of (entries_in x old log.acts)) i → TakesIn x old new row i → Appended x role old new log (record { kind = kind; message = i.message; row = row; stamp = stamp; number = number }) (record { event = event_as kind i; stamp = stamp; number = number })
appended law x role clock old new log kind i row stamp number kept at fits own follows agree takes =
    let act : Act = record { kind = kind; message = i.message; row = row; stamp = stamp; number = number } in
    let e : Entry = record { event = event_as kind i; stamp = stamp; number = number } in
    let is = instance_as kind i in
    let olds = entries_in x old log.acts in
    let row_within = slice_get_within old.keys row i.key at in
    let same_keys = takes.keys in
    let stays = entries_stay x old new log.acts (λ a among. ap (λ keys. get_or keys a.row []) same_keys)
    (λ a c among carried.
    let has = act_has x old log.acts kept.within kept.index a c among carried in
    takes.stay a.row c.param (value_in (old.cell a.row c.param)) (params_exist x a.message c (filtered_member (λ d. has_value d.adornment) (message_of x a.message).carried c carried).0) has ∙ sym has) in
    let last = entry_is x new kind i row stamp number (ap (λ keys. get_or keys row []) same_keys ∙ get_or_from_slice_get old.keys row i.key [] at) fits.each_value takes.has in
    let entries = map_push (entry_in x new) log.acts act ∙ (λ j. stays j ++ last j ∷ []) in
    let local = local_more law x role olds e kept.admitted kept.local (subst (Fits x) (sym is) fits) own follows (subst (AllAgree x (events_of olds)) (sym is) agree) in
    let index = index_more x old new (events_of olds) e.event row kept.keys.distinct (at ∙ ap (λ j. Some j.key) (sym is)) (subst (TakesIn x old new row) (sym is) takes) kept.index in
    record {
      entries = entries;
      kept = record {
        admitted = kept.admitted;
        known_role = kept.known_role;
        keys = subst (AreKeys (length x.keys)) (sym same_keys) kept.keys;
        few_keys = subst (λ keys. length keys ≤ 4294967295) (sym same_keys) kept.few_keys;
        within = subst (λ keys. All (λ a. a.row < length keys) (log.acts ++ act ∷ [])) (sym same_keys) (All-push (λ a. a.row < length old.keys) log.acts act kept.within row_within);
        index = subst (IsIndex x new) (sym (ap events_of entries ∙ events_more olds e)) index;
        local = subst (IsLocal x role) (sym entries) local;
        clock_is = sym (ap last_stamp entries ∙ clock_more olds e);
      };
    }

-- the parts of a store after an event, and what contracts see of them
pub record Stored (x : Expanded) (role : ℕ) (keys : List (List Value)) (cells : List (Option Value)) (marks : List Bool) (log : ActsState) (clock : ℕ) (s : StoreState) : Type 0 where
  pub kept : IsKept x role (rows_of x keys cells marks) log clock
  pub state : state_of x role (rows_of x keys cells marks) log ≡ s

pub stored : FirstKnownIsOne → (x : Expanded) (role clock : ℕ) (keys : List (List Value)) (cells new_cells : List (Option Value)) (marks new_marks : List Bool) (cw cr mw mr row : ℕ) (log new_log : ActsState) (kind : Kind) (i : Instance) (stamp number : ℕ) (s : StoreState) → IsKept x role (rows_of x keys cells marks) log clock → HaveRows x keys cw cr mw mr → length cells ≡ cr * cw → length marks ≡ mr * mw → state_of x role (rows_of x keys cells marks) log ≡ s → slice_get s.keys row ≡ Some i.key → Fits s.protocol i → role_of s.protocol (event_as kind i) ≡ s.role → MayFollowAs s.protocol s.entries (event_as kind i) stamp number → AllAgree s.protocol (acts_of s) i → new_cells ≡ bound cw row cells (pairs x i) → new_marks ≡ set marks (row * mw + i.message) true → new_log ≡ record { acts = log.acts ++ record { kind = kind; message = i.message; row = row; stamp = stamp; number = number } ∷ []; spare = log.spare - 1 } → Stored x role keys new_cells new_marks new_log stamp (with_entry s (event_as kind i) stamp number)
stored law x role clock keys cells new_cells marks new_marks cw cr mw mr row log new_log kind i stamp number s kept have cell_size mark_size view at fits own follows agree cells_is marks_is log_is =
    let old = rows_of x keys cells marks in
    let w = length x.params in
    let n = length x.messages in
    let last = bound w row cells (pairs x i) in
    let set_marks = set marks (row * n + i.message) true in
    let st = state_of x role old log in
    let at0 : slice_get keys row ≡ Some i.key = subst (λ t. slice_get t.keys row ≡ Some i.key) (sym view) at in
    let fits0 : Fits x i = subst (λ t. Fits t.protocol i) (sym view) fits in
    let own0 : role_of x (event_as kind i) ≡ role = subst (λ t. role_of t.protocol (event_as kind i) ≡ t.role) (sym view) own in
    let follows0 : MayFollowAs x (entries_in x old log.acts) (event_as kind i) stamp number = subst (λ t. MayFollowAs t.protocol t.entries (event_as kind i) stamp number) (sym view) follows in
    let agree0 : AllAgree x (events_of (entries_in x old log.acts)) i = subst (λ t. AllAgree t.protocol (acts_of t) i) (sym view) agree in
    let row_within = slice_get_within keys row i.key at0 in
    let takes = takes_in law x role clock keys cells marks cr mr row log kind i kept (omega (arith, row_within, have.cells)) (omega (arith, row_within, have.marks)) (cell_size ∙ ap (λ k. cr * k) have.params) (mark_size ∙ ap (λ k. mr * k) have.messages) at0 fits0 agree0 in
    let done = appended law x role clock old (rows_of x keys last set_marks) log kind i row stamp number kept at0 fits0 own0 follows0 agree0 takes in
    let entries = done.entries in
    let acts = log.acts ++ record { kind = kind; message = i.message; row = row; stamp = stamp; number = number } ∷ [] in
    let canonical : Stored x role keys last set_marks (record { acts = acts; spare = log.spare - 1 }) stamp (with_entry st (event_as kind i) stamp number) = record {
      kept = done.kept;
      state = λ j. record { protocol = x; role = role; keys = keys; entries = entries j; spare = log.spare - 1 };
    } in
    let to = with_entry s (event_as kind i) stamp number in
    let one = subst (λ t. Stored x role keys last set_marks (record { acts = acts; spare = log.spare - 1 }) stamp (with_entry t (event_as kind i) stamp number)) view canonical in
    let two = subst (λ l. Stored x role keys last set_marks l stamp to) (sym log_is) one in
    let three = subst (λ m. Stored x role keys last m new_log stamp to) (sym (marks_is ∙ ap (λ k. set marks (row * k + i.message) true) have.messages)) two in
    subst (λ c. Stored x role keys c new_marks new_log stamp to) (sym (cells_is ∙ ap (λ k. bound k row cells (pairs x i)) have.params)) three
