-- What the disks hold while the histories of a world go to them by their stamps.
use Rattle.std.proofs.Common.{◌≡◌, ◌≢◌, ℕ, zero, suc, ◌+◌, ◌<◌, ◌≤◌, ◌⊎◌, inl, inr, Bool, None, Some, List, [], ◌∷◌, ◌++◌, drop, fold, length, map, option_map, replicate, take, refl, sym, ap, ◌∙◌, subst, arith}
use Rattle.std.specs.Prelude.{if◌then◌else◌, slice_get, slice_index_or, slice_set}
use Rattle.std.proofs.lemmas.Bool.{cases_lt, eq-eqb, ne_eqb}
use Rattle.std.proofs.lemmas.Grind.{fold-append}
use Rattle.std.proofs.lemmas.List.{drop_more, get_or_default, get_or-replicate, get_or-take, get_or_past, length-append, length-map, length-replicate, length-set, map-set, same_lists, take-append-drop, take_all}
use Rattle.std.proofs.lemmas.Option.{get_or_from_slice_get, same_Some, slice_get-get_or, slice_get-map, slice_get_within}
use Rattle.agent_scripts.specs.Job.{Job}
use Rattle.bspl_types.specs.declared.event.Event.TheVariants.{Receive}
use Rattle.bspl_types.specs.declared.event.Instance.{Instance}
use Rattle.bspl_types.specs.declared.expanded.Expanded.{Expanded}
use Rattle.bspl_types.specs.Expansion.{message_of}
use Rattle.durable_store.specs.State.{IsSoundStore}
use Rattle.role_journal.specs.Counts.{Counts}
use Rattle.role_journal.specs.Journal.{IsJournal}
use Rattle.stamped_history.specs.declared.entry.Entry.{Entry}
use Rattle.stamped_history.specs.Entries.{StampsRise}
use Rattle.stamped_history.specs.Explained.{AreExplained, IsExplained, history_at}
use Rattle.stamped_history.specs.Extended.{extended}
use Rattle.stamped_history.specs.Local.{IsLocal}
use Rattle.restart_run.specs.declared.keeper.Keeper.{Keeper}
use Rattle.restart_run.specs.OneWorld.{HoldOneWorld, IsJournalOf, disks_of, held_after}
use Rattle.restart_run.specs.Steps.{Acknowledged, AllHappen, Held, MayCome, MayTakeStep, Step, Unacknowledged, after_step, no_events}
use Rattle.restart_run.specs.inner.Keeping.{HasKept, HoldsNext, MayAppend, MayKeep}
use Rattle.restart_run.specs.inner.Midway.{AreBehind, AreMidway, AreNewKeepers, AreWhole, IsBehind, kept_histories}
use Rattle.restart_run.proofs.PrefixLemmas.{may_append, take_next}

-- an item is the new one at its index, or was there before
item_after : {X : Type 0} (xs : List X) (i : ℕ) (y : X) (j : ℕ) (z : X) → slice_get (slice_set xs i y) j ≡ Some z → ((j ≡ i) × (y ≡ z)) ⊎ ((j ≢ i) × (slice_get xs j ≡ Some z))
item_after [] i y j z at = absurd (cc)
item_after (x ∷ xs) zero y zero z at = inl (refl, (cc))
item_after (x ∷ xs) zero y (suc j) z at = inr ((λ same. omega (arith, same)), at)
item_after (x ∷ xs) (suc i) y zero z at = inr ((λ same. omega (arith, same)), at)
item_after (x ∷ xs) (suc i) y (suc j) z at = elim (item_after xs i y j z at) [
  | inl here ↦ inl (ap suc here.0, here.1)
  | inr other ↦ inr ((λ same. other.0 (omega (arith, same))), other.1)
]

-- what is found at the index is the new one
pub set_found : {X : Type 0} (xs : List X) (i : ℕ) (w y z : X) → slice_get xs i ≡ Some w → slice_get (slice_set xs i y) i ≡ Some z → y ≡ z
set_found [] i w y z at found = absurd (cc)
set_found (x ∷ xs) zero w y z at found = same_Some y z found
set_found (x ∷ xs) (suc i) w y z at found = set_found xs i w y z at found

-- what an image of a list has at an index is the image of an item
item_mapped : {X Y : Type 0} (f : X → Y) (xs : List X) (j : ℕ) (y : Y) → slice_get (map f xs) j ≡ Some y → (x : X) × (slice_get xs j ≡ Some x) × (f x ≡ y)
item_mapped f [] j y at = absurd (cc)
item_mapped f (x ∷ xs) zero y at = (x, refl, same_Some (f x) y at)
item_mapped f (x ∷ xs) (suc j) y at = item_mapped f xs j y at

-- the item at an index within a list
pub at_index : {X : Type 0} (xs : List X) (k : ℕ) → k < length xs → (x : X) × (slice_get xs k ≡ Some x)
at_index [] k within = absurd (omega (arith, within))
at_index (x ∷ xs) zero within = (x, refl)
at_index (x ∷ xs) (suc k) within = at_index xs k (omega (arith, within))

-- one step more
steps_more : (x : Expanded) (h : Held) (steps : List Step) (step : Step) → AllHappen x h steps → MayTakeStep x (fold after_step h steps) step → AllHappen x h (steps ++ step ∷ [])
steps_more x h [] step all may = (may, tt)
steps_more x h (s ∷ steps) step (first, rest) may = (first, steps_more x (after_step h s) steps step rest may)

-- a later entry has a higher stamp
stamp_later : (entries : List Entry) (i j : ℕ) (e f : Entry) → StampsRise entries → slice_get entries i ≡ Some e → slice_get entries j ≡ Some f → i < j → e.stamp < f.stamp
stamp_later entries i j e f rises at_e at_f before =
    omega (arith, rises i j e before (slice_get_within entries j f at_f), ap (λ (g : Entry). g.stamp) (get_or_from_slice_get entries i e e at_e), ap (λ (g : Entry). g.stamp) (get_or_from_slice_get entries j f e at_f))

-- a history around one of its entries
split_at : (entries : List Entry) (n : ℕ) (e : Entry) → slice_get entries n ≡ Some e → entries ≡ take n entries ++ e ∷ drop (n + 1) entries
split_at entries n e at =
    sym (take-append-drop n entries) ∙ ap (λ (rest : List Entry). take n entries ++ rest)
    (drop_more entries n e (slice_get_within entries n e at) ∙ ap (λ (f : Entry). f ∷ drop (n + 1) entries) (get_or_from_slice_get entries n e e at))

module _ {D : Type 0} (seen : D → List ℕ) (may_leave : D → List ℕ → Type 0) (counts : D → Counts) (job : Job) (histories : List (List Entry)) where
  -- what a role's store keeps
  kept_at : (keepers : List (Keeper D)) (role : ℕ) (k : Keeper D) → slice_get keepers role ≡ Some k → history_at (kept_histories keepers) role ≡ k.store.store.entries
  kept_at keepers role k at =
      get_or_from_slice_get (kept_histories keepers) role k.store.store.entries []
      (slice_get-map (λ (l : Keeper D). l.store.store.entries) keepers role ∙ ap (option_map (λ (l : Keeper D). l.store.store.entries)) at)

  -- with one entry more at a role
  kept_set : (keepers : List (Keeper D)) (role : ℕ) (k new : Keeper D) (e : Entry) → slice_get keepers role ≡ Some k → new.store.store.entries ≡ k.store.store.entries ++ e ∷ [] → kept_histories (slice_set keepers role new) ≡ extended (kept_histories keepers) role e
  kept_set keepers role k new e at entries =
      map-set (λ (l : Keeper D). l.store.store.entries) keepers role new
      ∙ ap (λ (h : List Entry). slice_set (kept_histories keepers) role h) (entries ∙ ap (λ (h : List Entry). h ++ e ∷ []) (sym (kept_at keepers role k at)))

  -- what a crash leaves of a role's disk
  kept_journal : (keepers : List (Keeper D)) → AreBehind seen may_leave counts job histories keepers → (role : ℕ) (k : Keeper D) (image : List ℕ) → slice_get keepers role ≡ Some k → may_leave k.store.disk image → IsJournal (history_at (kept_histories keepers) role) image
  kept_journal keepers behind role k image at left =
      let is = behind.each role k at in
      let ready = is.sound.ready is.keeper.unspent in
      subst (λ (h : List Entry). IsJournal h image) (sym (kept_at keepers role k at)) (subst (IsJournal k.store.store.entries) (sym (ready.keeps.settled image left)) ready.keeps.journal)

  -- the store with its entries
  pub behind_kept : (role : ℕ) (k : Keeper D) → IsBehind seen may_leave counts job role (history_at histories role) k → HasKept seen counts job role (take (length k.store.store.entries) (history_at histories role)) (length (seen k.store.disk)) k.restarted k.store
  behind_kept role k behind = record { keeper = behind.keeper; entries_are = behind.first; size_is = refl }

  -- the next entry may be appended
  pub behind_may : (role : ℕ) (k : Keeper D) (e : Entry) → IsBehind seen may_leave counts job role (history_at histories role) k → slice_get (history_at histories role) (length k.store.store.entries) ≡ Some e → MayAppend seen job role k.store e
  behind_may role k e behind at =
      may_append seen counts job role (length (seen k.store.disk)) (length k.store.store.entries) (history_at histories role) k.restarted k.store e behind.may (behind_kept role k behind) at

  module _ (rises : (role : ℕ) → StampsRise (history_at histories role)) (explained : AreExplained job.protocol histories) (count : length histories ≡ length job.protocol.roles) (stamp : ℕ) where
    -- the sender's store has the emission
    emission_kept : (from : ℕ) (keepers : List (Keeper D)) (sender number : ℕ) (k : Keeper D) (m : Entry) → AreMidway seen may_leave counts job histories stamp from keepers → slice_get keepers sender ≡ Some k → slice_get (history_at histories sender) number ≡ Some m → m.stamp < stamp → number < length k.store.store.entries
    emission_kept from keepers sender number k m midway at at_m early = elim (cases_lt number (length k.store.store.entries)) [
      | inl within ↦ within
      | inr past ↦
          let all : List Entry = history_at histories sender in
          let next : ℕ = length k.store.store.entries in
          let inside : next < length all = omega (arith, past, slice_get_within all number m at_m) in
          let f : Entry = slice_index_or all next m in
          let at_f : slice_get all next ≡ Some f = slice_get-get_or all next m inside in
          let late : stamp ≤ f.stamp = midway.next.least sender k f at at_f in
          elim (cases_lt next number) [
            | inl before ↦ absurd (omega (arith, late, early, stamp_later all next number f m (rises sender) at_f at_m before))
            | inr not ↦
                let same : next ≡ number = omega (arith, past, not) in
                let one : f ≡ m = same_Some f m (sym at_f ∙ ap (λ (n : ℕ). slice_get all n) same ∙ at_m) in
                absurd (omega (arith, late, early, ap (λ (g : Entry). g.stamp) one))
          ]
    ]

    -- so a receipt that is due is explained by what is kept
    due_explained : (from : ℕ) (keepers : List (Keeper D)) (role : ℕ) (k : Keeper D) (e : Entry) → AreMidway seen may_leave counts job histories stamp from keepers → slice_get keepers role ≡ Some k → slice_get (history_at histories role) (length k.store.store.entries) ≡ Some e → e.stamp ≡ stamp → (i : Instance) → e.event ≡ Receive i → IsExplained job.protocol (kept_histories keepers) (history_at (kept_histories keepers) role) i e
    due_explained from keepers role k e midway at at_e due i received =
        let all : List Entry = history_at histories role in
        let n : ℕ = length k.store.store.entries in
        let by : IsExplained job.protocol histories (take n all) i e = explained role (take n all) (drop (n + 1) all) e i (split_at all n e at_e) received in
        let sender : ℕ = (message_of job.protocol i.message).sender in
        let sent : List Entry = history_at histories sender in
        let known : sender < length keepers = elim (cases_lt sender (length histories)) [
          | inl within ↦ omega (arith, within, count, midway.behind.count)
          | inr past ↦
              let none : sent ≡ [] = get_or_past histories sender [] past in
              absurd (omega (arith, slice_get_within sent e.number by.emission by.numbered, ap length none))
        ] in
        let s : Keeper D = slice_index_or keepers sender k in
        let at_s : slice_get keepers sender ≡ Some s = slice_get-get_or keepers sender k known in
        let early : by.emission.stamp < stamp = omega (arith, by.stamped, due) in
        let inside : e.number < length s.store.store.entries = emission_kept from keepers sender e.number s by.emission midway at_s by.numbered early in
        let first = (midway.behind.each sender s at_s).first in
        let value : slice_index_or s.store.store.entries e.number by.emission ≡ by.emission =
        ap (λ (h : List Entry). slice_index_or h e.number by.emission) first ∙ get_or-take (length s.store.store.entries) sent e.number by.emission inside ∙ get_or_from_slice_get sent e.number by.emission by.emission by.numbered in
        let before : take n all ≡ history_at (kept_histories keepers) role = sym (midway.behind.each role k at).first ∙ sym (kept_at keepers role k at) in
        subst (λ (h : List Entry). IsExplained job.protocol (kept_histories keepers) h i e) before (record {
          emission = by.emission;
          numbered = ap (λ (h : List Entry). slice_get h e.number) (kept_at keepers sender s at_s) ∙ slice_get-get_or s.store.store.entries e.number by.emission inside ∙ ap Some value;
          emitted = by.emitted;
          stamped = by.stamped;
        })

    -- the entry that is due may come
    due_may_come : (from : ℕ) (keepers : List (Keeper D)) (role : ℕ) (k : Keeper D) (e : Entry) (midway : AreMidway seen may_leave counts job histories stamp from keepers) → slice_get keepers role ≡ Some k → slice_get (history_at histories role) (length k.store.store.entries) ≡ Some e → e.stamp ≡ stamp → MayCome job.protocol (held_after job.protocol midway.behind.steps) role e
    due_may_come from keepers role k e midway at at_e due =
        subst (λ (h : Held). MayCome job.protocol h role e) (sym midway.behind.held) (record {
          local = subst (λ (h : List Entry). IsLocal job.protocol role (h ++ e ∷ [])) (sym (kept_at keepers role k at)) (behind_may role k e (midway.behind.each role k at) at_e).local;
          explained = due_explained from keepers role k e midway at at_e due;
        })

    -- nothing is pending
    none_pending : (keepers : List (Keeper D)) (behind : AreBehind seen may_leave counts job histories keepers) (role : ℕ) → (held_after job.protocol behind.steps).pending role ≡ None
    none_pending keepers behind role = ap (λ (h : Held). h.pending role) behind.held

    -- the next entry of a store with one entry more has a higher stamp
    after_due : (role : ℕ) (k new : Keeper D) (e f : Entry) → slice_get (history_at histories role) (length k.store.store.entries) ≡ Some e → e.stamp ≡ stamp → new.store.store.entries ≡ k.store.store.entries ++ e ∷ [] → slice_get (history_at histories role) (length new.store.store.entries) ≡ Some f → stamp < f.stamp
    after_due role k new e f at_e due entries at_f =
        omega (arith, due, stamp_later (history_at histories role) (length k.store.store.entries) (length new.store.store.entries) e f (rises role) at_e at_f (omega (arith, ap length entries, length-append k.store.store.entries (e ∷ []))))

    -- an entry that was due is kept
    pub midway_more : (keepers : List (Keeper D)) (role : ℕ) (k new : Keeper D) (e : Entry) → AreMidway seen may_leave counts job histories stamp role keepers → slice_get keepers role ≡ Some k → slice_get (history_at histories role) (length k.store.store.entries) ≡ Some e → e.stamp ≡ stamp → HasKept seen counts job role (k.store.store.entries ++ e ∷ []) (length (seen k.store.disk)) new.restarted new.store → IsSoundStore seen may_leave counts new.store → AreMidway seen may_leave counts job histories stamp (role + 1) (slice_set keepers role new)
    midway_more keepers role k new e midway at at_e due kept sound =
        let all : List Entry = history_at histories role in
        let x : Expanded = job.protocol in
        let behind = midway.behind in
        let was = behind.each role k at in
        let longer : length new.store.store.entries ≡ length k.store.store.entries + 1 = ap length kept.entries_are ∙ length-append k.store.store.entries (e ∷ []) in
        let whole : new.store.store.entries ≡ take (length new.store.store.entries) all =
        kept.entries_are ∙ ap (λ (h : List Entry). h ++ e ∷ []) was.first ∙ take_next all (length k.store.store.entries) e at_e ∙ ap (λ (n : ℕ). take n all) (sym longer) in
        record {
          behind = record {
            count = length-set keepers role new ∙ behind.count;
            each = λ r z at_z. elim (item_after keepers role new r z at_z) [
              | inr other ↦ behind.each r z other.1
              | inl here ↦
                  subst (λ (l : Keeper D). IsBehind seen may_leave counts job r (history_at histories r) l) here.1
                  (subst (λ (n : ℕ). IsBehind seen may_leave counts job n (history_at histories n) new) (sym here.0) (record {
                    keeper = kept.keeper;
                    sound = sound;
                    may = subst (λ (n : ℕ). MayKeep job role all n) (sym kept.size_is) was.may;
                    first = whole;
                  }))
            ];
            steps = behind.steps ++ Acknowledged role e ∷ [];
            happen = steps_more x (no_events x) behind.steps (Acknowledged role e) behind.happen (none_pending keepers behind role, due_may_come role keepers role k e midway at at_e due);
            held =
                fold-append after_step (no_events x) behind.steps (Acknowledged role e ∷ [])
                ∙ ap (λ (h : Held). after_step h (Acknowledged role e)) behind.held
                ∙ ap (λ (hs : List (List Entry)). record { histories = hs; pending = λ (r : ℕ). None }) (sym (kept_set keepers role k new e at kept.entries_are));
          };
          next = record {
            least = λ r z f at_z at_f. elim (item_after keepers role new r z at_z) [
              | inr other ↦ midway.next.least r z f other.1 at_f
              | inl here ↦ let far : stamp < f.stamp = after_due role k new e f at_e due kept.entries_are (subst (λ (l : Keeper D). slice_get all (length l.store.store.entries) ≡ Some f) (sym here.1) (subst (λ (n : ℕ). slice_get (history_at histories n) (length z.store.store.entries) ≡ Some f) here.0 at_f)) in omega (arith, far)
            ];
            past = λ r z f at_z at_f below. elim (item_after keepers role new r z at_z) [
              | inr other ↦ midway.next.past r z f other.1 at_f (elim (cases_lt r role) [ inl before ↦ before | inr not ↦ absurd (other.0 (omega (arith, not, below))) ])
              | inl here ↦ after_due role k new e f at_e due kept.entries_are (subst (λ (l : Keeper D). slice_get all (length l.store.store.entries) ≡ Some f) (sym here.1) (subst (λ (n : ℕ). slice_get (history_at histories n) (length z.store.store.entries) ≡ Some f) here.0 at_f))
            ];
          };
        }

    -- no entry of the role is due
    pub midway_skip : (keepers : List (Keeper D)) (role : ℕ) (k : Keeper D) → AreMidway seen may_leave counts job histories stamp role keepers → slice_get keepers role ≡ Some k → ((f : Entry) → slice_get (history_at histories role) (length k.store.store.entries) ≡ Some f → f.stamp ≢ stamp) → AreMidway seen may_leave counts job histories stamp (role + 1) keepers
    midway_skip keepers role k midway at none = record {
      behind = midway.behind;
      next = record {
        least = midway.next.least;
        past = λ r z f at_z at_f below. elim (cases_lt r role) [
          | inl before ↦ midway.next.past r z f at_z at_f before
          | inr not ↦
              let same : r ≡ role = omega (arith, not, below) in
              let one : z ≡ k = same_Some z k (sym at_z ∙ ap (λ (n : ℕ). slice_get keepers n) same ∙ at) in
              let least : stamp ≤ f.stamp = midway.next.least r z f at_z at_f in
              let at_k : slice_get (history_at histories role) (length k.store.store.entries) ≡ Some f = subst (λ (l : Keeper D). slice_get (history_at histories role) (length l.store.store.entries) ≡ Some f) one (subst (λ (n : ℕ). slice_get (history_at histories n) (length z.store.store.entries) ≡ Some f) same at_f) in
              elim (cases_lt stamp f.stamp) [ inl more ↦ more | inr few ↦ absurd (none f at_k (omega (arith, few, least))) ]
        ];
      };
    }

    -- the disk of a role was cut off while the entry that was due was appended
    pub cut_one_world : (keepers : List (Keeper D)) (role : ℕ) (k new : Keeper D) (e : Entry) → AreMidway seen may_leave counts job histories stamp role keepers → slice_get keepers role ≡ Some k → slice_get (history_at histories role) (length k.store.store.entries) ≡ Some e → e.stamp ≡ stamp → HoldsNext seen may_leave job role k.store.store.entries e (length (seen k.store.disk)) new.store.disk → HoldOneWorld may_leave job.protocol (disks_of (slice_set keepers role new))
    cut_one_world keepers role k new e midway at at_e due cut =
        let x : Expanded = job.protocol in
        let behind = midway.behind in
        let steps : List Step = behind.steps ++ Unacknowledged role e ∷ [] in
        let held : held_after x steps ≡ after_step (record { histories = kept_histories keepers; pending = λ (r : ℕ). None }) (Unacknowledged role e) =
        fold-append after_step (no_events x) behind.steps (Unacknowledged role e ∷ []) ∙ ap (λ (h : Held). after_step h (Unacknowledged role e)) behind.held in
        record {
          steps = steps;
          happen = steps_more x (no_events x) behind.steps (Unacknowledged role e) behind.happen (none_pending keepers behind role, due_may_come role keepers role k e midway at at_e due);
          each = λ r disk image at_disk left.
              let found = item_mapped (λ (l : Keeper D). l.store.disk) (slice_set keepers role new) r disk at_disk in
              let leaves : may_leave found.0.store.disk image = subst (λ (d : D). may_leave d image) (sym found.2) left in
              subst (λ (h : Held). IsJournalOf (history_at h.histories r) (h.pending r) image) (sym held) (elim (item_after keepers role new r found.0 found.1) [
                | inl here ↦
                    subst (λ (b : Bool). IsJournalOf (history_at (kept_histories keepers) r) (if b then Some e else None) image) (sym (eq-eqb r role here.0))
                    (subst (λ (h : List Entry). IsJournalOf h (Some e) image) (sym (kept_at keepers role k at) ∙ ap (history_at (kept_histories keepers)) (sym here.0))
                    (cut.leaves image (subst (λ (l : Keeper D). may_leave l.store.disk image) (sym here.1) leaves)))
                | inr other ↦
                    subst (λ (b : Bool). IsJournalOf (history_at (kept_histories keepers) r) (if b then Some e else None) image) (sym (ne_eqb r role other.0))
                    (kept_journal keepers behind r found.0 image other.1 leaves)
              ]);
        }

  -- all disks hold one world
  pub one_world : (keepers : List (Keeper D)) → AreBehind seen may_leave counts job histories keepers → HoldOneWorld may_leave job.protocol (disks_of keepers)
  one_world keepers behind = record {
    steps = behind.steps;
    happen = behind.happen;
    each = λ r disk image at_disk left.
        let found = item_mapped (λ (l : Keeper D). l.store.disk) keepers r disk at_disk in
        subst (λ (h : Held). IsJournalOf (history_at h.histories r) (h.pending r) image) (sym behind.held)
        (kept_journal keepers behind r found.0 image found.1 (subst (λ (d : D). may_leave d image) (sym found.2) left));
  }

  -- all entries with the stamp are kept
  pub midway_next : (stamp : ℕ) (keepers : List (Keeper D)) → AreMidway seen may_leave counts job histories stamp (length keepers) keepers → AreMidway seen may_leave counts job histories (stamp + 1) 0 keepers
  midway_next stamp keepers midway = record {
    behind = midway.behind;
    next = record {
      least = λ r z f at_z at_f. let far : stamp < f.stamp = midway.next.past r z f at_z at_f (slice_get_within keepers r z at_z) in omega (arith, far);
      past = λ r z f at_z at_f below. absurd (omega (arith, below));
    };
  }

  -- a lower stamp
  pub midway_lower : (low stamp : ℕ) (keepers : List (Keeper D)) → low ≤ stamp → AreMidway seen may_leave counts job histories stamp 0 keepers → AreMidway seen may_leave counts job histories low 0 keepers
  midway_lower low stamp keepers less midway = record {
    behind = midway.behind;
    next = record {
      least = λ r z f at_z at_f. omega (arith, less, midway.next.least r z f at_z at_f);
      past = λ r z f at_z at_f below. absurd (omega (arith, below));
    };
  }

  -- stores without entries
  pub none_kept_yet : (keepers : List (Keeper D)) → AreNewKeepers seen may_leave counts job (length job.protocol.roles) keepers → ((role : ℕ) (k : Keeper D) → slice_get keepers role ≡ Some k → MayKeep job role (history_at histories role) (length (seen k.store.disk))) → AreMidway seen may_leave counts job histories 0 0 keepers
  none_kept_yet keepers new may = record {
    behind = record {
      count = new.count_is;
      each = λ role k at. record {
        keeper = (new.each role k at).kept.keeper;
        sound = (new.each role k at).sound;
        may = may role k at;
        first = (new.each role k at).kept.entries_are ∙ ap (λ (h : List Entry). take (length h) (history_at histories role)) (sym (new.each role k at).kept.entries_are);
      };
      steps = [];
      happen = tt;
      held = ap (λ (hs : List (List Entry)). record { histories = hs; pending = λ (r : ℕ). None })
          (same_lists (replicate (length job.protocol.roles) []) (kept_histories keepers)
          (length-replicate {A = List Entry} (length job.protocol.roles) [] ∙ sym new.count_is ∙ sym (length-map keepers (λ (l : Keeper D). l.store.store.entries)))
          (λ r d within.
          let inside : r < length job.protocol.roles = omega (arith, within, length-replicate {A = List Entry} (length job.protocol.roles) []) in
          let found = at_index keepers r (omega (arith, inside, new.count_is)) in
          get_or-replicate (length job.protocol.roles) r [] d inside
          ∙ sym (new.each r found.0 found.1).kept.entries_are
          ∙ sym (get_or_from_slice_get (kept_histories keepers) r found.0.store.store.entries d (slice_get-map (λ (l : Keeper D). l.store.store.entries) keepers r ∙ ap (option_map (λ (l : Keeper D). l.store.store.entries)) found.1))));
    };
    next = record {
      least = λ r z f at_z at_f. omega arith;
      past = λ r z f at_z at_f below. absurd (omega (arith, below));
    };
  }

  -- the stamps end, so a role's history is kept
  whole_at : (stamp : ℕ) (keepers : List (Keeper D)) → AreMidway seen may_leave counts job histories stamp (length keepers) keepers → ((role k : ℕ) (e : Entry) → slice_get (history_at histories role) k ≡ Some e → e.stamp ≤ stamp) → (role : ℕ) (k : Keeper D) → slice_get keepers role ≡ Some k → k.store.store.entries ≡ history_at histories role
  whole_at stamp keepers midway last role k at =
      let all : List Entry = history_at histories role in
      let n : ℕ = length k.store.store.entries in
      elim (cases_lt n (length all)) [
        | inl within ↦ let found = at_index all n within in absurd (omega (arith, last role n found.0 found.1, midway.next.past role k found.0 at found.1 (slice_get_within keepers role k at)))
        | inr past ↦ (midway.behind.each role k at).first ∙ take_all n all past
      ]

  -- so all are
  pub all_whole : (stamp : ℕ) (keepers : List (Keeper D)) → length histories ≡ length job.protocol.roles → AreMidway seen may_leave counts job histories stamp (length keepers) keepers → ((role k : ℕ) (e : Entry) → slice_get (history_at histories role) k ≡ Some e → e.stamp ≤ stamp) → AreWhole seen may_leave counts job histories keepers
  all_whole stamp keepers count midway last = record {
    keeper = λ role k at. (midway.behind.each role k at).keeper;
    sound = λ role k at. (midway.behind.each role k at).sound;
    entries = whole_at stamp keepers midway last;
    from_steps = record {
      steps = midway.behind.steps;
      happen = midway.behind.happen;
      held = ap (λ (h : Held). h.histories) midway.behind.held ∙ same_lists (kept_histories keepers) histories
          (length-map keepers (λ (l : Keeper D). l.store.store.entries) ∙ midway.behind.count ∙ sym count)
          (λ r d within.
          let inside : r < length keepers = omega (arith, within, length-map keepers (λ (l : Keeper D). l.store.store.entries)) in
          let found = at_index keepers r inside in
          get_or_from_slice_get (kept_histories keepers) r found.0.store.store.entries d (slice_get-map (λ (l : Keeper D). l.store.store.entries) keepers r ∙ ap (option_map (λ (l : Keeper D). l.store.store.entries)) found.1)
          ∙ whole_at stamp keepers midway last r found.0 found.1
          ∙ get_or_default histories r [] d (omega (arith, inside, midway.behind.count, count)));
    };
  }
