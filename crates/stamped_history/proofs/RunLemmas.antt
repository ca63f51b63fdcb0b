-- Local histories merge into a legal run: by induction on the merged list.
use Rattle.std.proofs.Common.{◌≡◌, ℕ, ◌+◌, ◌≤◌, true, false, cond, List, [], ◌∷◌, ◌++◌, length, map, inl, inr, refl, sym, ap, ◌∙◌, subst, arith, All, Contains}
use Rattle.std.specs.Prelude.{◌==◌, max, slice_index_or}
use Rattle.std.specs.List.{AllPairs, filter}
use Rattle.std.proofs.lemmas.Bool.{cases_lt}
use Rattle.std.proofs.lemmas.List.{append_assoc, append-nil, get_or-map, get_or_past, length-append, length-map, map-append}
use Rattle.std.proofs.lemmas.List.Elements.{All-contains, All-head, All-map, All-nil, All-push, All-tail, All-weaker, Contains-append_left, Contains-append_right, All-contains_itself, All-filter}
use Rattle.list_base.proofs.Mapped.{all_of_mapped}
use Rattle.list_base.proofs.Members.{here, nowhere}
use Rattle.list_base.proofs.Membership.{member_at}
use Rattle.bspl_types.specs.declared.event.Event.{Event}
use Rattle.bspl_types.specs.declared.event.Event.TheVariants.{Emit, Receive}
use Rattle.bspl_types.specs.declared.event.Instance.{Instance}
use Rattle.bspl_types.specs.declared.expanded.Expanded.{Expanded}
use Rattle.bspl_types.specs.Expansion.{message_of}
use Rattle.bspl_types.specs.History.{history_of, instance_of, role_of}
use Rattle.bspl_types.specs.Instance.{Fits}
use Rattle.bspl_types.specs.Knowledge.{IsEnabled, Knows}
use Rattle.enactment_model.specs.Legal.{LegalAfter, MayFollow}
use Rattle.stamped_history.specs.declared.entry.Entry.{Entry}
use Rattle.stamped_history.specs.declared.entry.RoleEntry.{RoleEntry}
use Rattle.stamped_history.specs.Entries.{events_of, last_stamp}
use Rattle.stamped_history.specs.Explained.{AreExplained, AreLocal, history_at}
use Rattle.stamped_history.specs.Laws.{IsRunOf, StoresAgree}
use Rattle.stamped_history.specs.Local.{IsLocal, MayFollowAs}
use Rattle.stamped_history.specs.Merged.{ComesBefore, entries_of, IsMerged}
use Rattle.stamped_history.proofs.MergedLemmas.{among_entries, entries_parted, entry_among, is_of, lower_before}

-- the events of a merged list
abbrev pub run_of : List RoleEntry → List Event
run_of all = map (λ e. e.entry.event) all

-- an entry's event is in the run
event_among : (all : List RoleEntry) (e : RoleEntry) (event : Event) → Contains all e → e.entry.event ≡ event → Contains (run_of all) event
event_among all e event among is = (
  among.0,
  omega (arith, among.1, length-map all (λ (f : RoleEntry). f.entry.event)),
  get_or-map (λ (f : RoleEntry). f.entry.event) all among.0 e event among.1 ∙ ap (λ (f : RoleEntry). f.entry.event) among.2 ∙ is,
)

-- the last stamp is one of the stamps
last_bounded : (n : ℕ) (entries : List Entry) → All (λ e. e.stamp ≤ n) entries → last_stamp entries ≤ n
last_bounded n [] all = omega arith
last_bounded n (e ∷ []) all = All-head (λ (f : Entry). f.stamp ≤ n) e [] all
last_bounded n (e ∷ (f ∷ rest)) all = last_bounded n (f ∷ rest) (All-tail (λ (g : Entry). g.stamp ≤ n) e (f ∷ rest) all)

-- of a list whose events are those of the entries' roles, a role's history has that role's entries
role_history : (x : Expanded) (role : ℕ) (all : List RoleEntry) → All (λ e. role_of x e.entry.event ≡ e.role) all → history_of x role (run_of all) ≡ events_of (entries_of role all)
role_history x role [] own = refl
role_history x role (e ∷ all) own =
    let rest : history_of x role (run_of all) ≡ events_of (entries_of role all) = role_history x role all (All-tail (λ (f : RoleEntry). role_of x f.entry.event ≡ f.role) e all own) in
    let here : role_of x e.entry.event ≡ e.role = All-head (λ (f : RoleEntry). role_of x f.entry.event ≡ f.role) e all own in
    subst (λ r. cond (r == role) (e.entry.event ∷ history_of x role (run_of all)) (history_of x role (run_of all)) ≡ events_of (entries_of role (e ∷ all))) (sym here)
    (elim (e.role == role) as (λ b. cond b (e.entry.event ∷ history_of x role (run_of all)) (history_of x role (run_of all)) ≡ events_of (map (λ (f : RoleEntry). f.entry) (cond b (e ∷ filter (is_of role) all) (filter (is_of role) all)))) [
      | true ↦ ap (λ es. e.entry.event ∷ es) rest
      | false ↦ rest
    ])

-- the emission that a receipt goes back to, among the entries before the receipt
record HasSource (x : Expanded) (before : List RoleEntry) (i : Instance) (receipt : RoleEntry) : Type 0 where
  emission : RoleEntry
  among : Contains before emission
  emitted : emission.entry.event ≡ Emit i
  stamped : receipt.entry.stamp ≡ max (last_stamp (entries_of receipt.role before)) emission.entry.stamp + 1

module _ (x : Expanded) (histories : List (List Entry)) (all : List RoleEntry) (local : AreLocal x histories) (explained : AreExplained x histories) (sorted : AllPairs ComesBefore all) (each : (role : ℕ) → entries_of role all ≡ history_at histories role) where
  -- an entry of the list is in its role's history
  in_history : (e : RoleEntry) → Contains all e → Contains (history_at histories e.role) e.entry
  in_history e among = subst (λ es. Contains es e.entry) (each e.role) (among_entries all e among)

  -- which is local
  is_local : (e : RoleEntry) → Contains all e → IsLocal x e.role (history_at histories e.role)
  is_local e among = elim (cases_lt e.role (length histories)) [
    | inl within ↦ local.each e.role within
    | inr past ↦ absurd (nowhere e.entry (subst (λ es. Contains es e.entry) (get_or_past histories e.role [] past) (in_history e among)))
  ]

  -- it is its role's event
  own_event : (e : RoleEntry) → Contains all e → role_of x e.entry.event ≡ e.role
  own_event e among =
      All-contains (λ (f : Entry). role_of x f.event ≡ e.role) (history_at histories e.role) e.entry
      (all_of_mapped (λ f. role_of x f ≡ e.role) (λ (f : Entry). f.event) (history_at histories e.role) (is_local e among).own) (in_history e among)

  -- and its instance fits
  fits_event : (e : RoleEntry) → Contains all e → Fits x (instance_of e.entry.event)
  fits_event e among =
      All-contains (λ (f : Entry). Fits x (instance_of f.event)) (history_at histories e.role) e.entry
      (all_of_mapped (λ f. Fits x (instance_of f)) (λ (f : Entry). f.event) (history_at histories e.role) (is_local e among).fits) (in_history e among)

  -- it is in the list
  among_all : (before after : List RoleEntry) (e : RoleEntry) → all ≡ before ++ e ∷ after → Contains all e
  among_all before after e is = subst (λ es. Contains es e) (sym is) (Contains-append_right before (e ∷ after) e (here e after))

  -- its role's history, parted there
  history_parted : (before after : List RoleEntry) (e : RoleEntry) → all ≡ before ++ e ∷ after → history_at histories e.role ≡ entries_of e.role before ++ e.entry ∷ entries_of e.role after
  history_parted before after e is = sym (each e.role) ∙ ap (entries_of e.role) is ∙ entries_parted before after e

  -- it follows the entries of its role before it
  follows : (before after : List RoleEntry) (e : RoleEntry) (event : Event) → all ≡ before ++ e ∷ after → e.entry.event ≡ event → MayFollowAs x (entries_of e.role before) event e.entry.stamp e.entry.number
  follows before after e event is event_is =
      subst (λ f. MayFollowAs x (entries_of e.role before) f e.entry.stamp e.entry.number) event_is
      ((is_local e (among_all before after e is)).follows (entries_of e.role before) (entries_of e.role after) e.entry (history_parted before after e is))

  -- a receipt goes back to an emission before it
  source : (before after : List RoleEntry) (e : RoleEntry) (i : Instance) → all ≡ before ++ e ∷ after → e.entry.event ≡ Receive i → HasSource x before i e
  source before after e i is received =
      let by = explained e.role (entries_of e.role before) (entries_of e.role after) e.entry i (history_parted before after e is) received in
      let sender : ℕ = (message_of x i.message).sender in
      let emission : RoleEntry = record { role = sender; entry = by.emission } in
      let among : Contains all emission = entry_among sender all by.emission (subst (λ es. Contains es by.emission) (sym (each sender)) (member_at (history_at histories sender) e.entry.number by.emission by.numbered)) in
      record {
        emission = emission;
        among = lower_before before after e emission (subst (AllPairs ComesBefore) is sorted) (subst (λ es. Contains es emission) is among) (omega (arith, by.stamped));
        emitted = by.emitted;
        stamped = by.stamped;
      }

  -- a role's history in the first events
  history_before : (role : ℕ) (before after : List RoleEntry) → all ≡ before ++ after → history_of x role (run_of before) ≡ events_of (entries_of role before)
  history_before role before after is =
      role_history x role before (λ k d within. own_event (slice_index_or before k d) (subst (λ es. Contains es (slice_index_or before k d)) (sym is) (Contains-append_left before after (slice_index_or before k d) (All-contains_itself before k d within))))

  -- the event may follow those before it
  may_follow : (before after : List RoleEntry) (e : RoleEntry) (event : Event) → all ≡ before ++ e ∷ after → e.entry.event ≡ event → MayFollow x (run_of before) event
  may_follow before after e (Emit i) is emitted =
      let own : (message_of x i.message).sender ≡ e.role = ap (role_of x) (sym emitted) ∙ own_event e (among_all before after e is) in
      let may = follows before after e (Emit i) is emitted in
      subst (λ h. IsEnabled x h i) (sym (history_before (message_of x i.message).sender before (e ∷ after) is))
      (subst (λ r. IsEnabled x (events_of (entries_of r before)) i) (sym own) may.enabled)
  may_follow before after e (Receive i) is received =
      let by = source before after e i is received in
      event_among before by.emission (Emit i) by.among by.emitted

  -- so does each event, those before it and it
  legal_after : (before after : List RoleEntry) → all ≡ before ++ after → LegalAfter x (run_of before) (run_of after)
  legal_after before [] is = tt
  legal_after before (e ∷ after) is = (
    may_follow before after e e.entry.event is refl,
    subst (λ run. LegalAfter x run (run_of after)) (map-append (λ (f : RoleEntry). f.entry.event) before (e ∷ []))
        (legal_after (before ++ e ∷ []) after (is ∙ sym (append_assoc before (e ∷ []) after))),
  )

  -- an entry's stamp is at most one more than the number of events before it
  step_bounded : (before after : List RoleEntry) (e : RoleEntry) (event : Event) → all ≡ before ++ e ∷ after → All (λ f. f.entry.stamp ≤ length before) before → e.entry.event ≡ event → e.entry.stamp ≤ length before + 1
  step_bounded before after e event is bounded event_is =
      let last : last_stamp (entries_of e.role before) ≤ length before = last_bounded (length before) (entries_of e.role before) (All-map (λ (f : Entry). f.stamp ≤ length before) (λ (f : RoleEntry). f.entry) (filter (is_of e.role) before) (All-filter (is_of e.role) (λ (f : RoleEntry). f.entry.stamp ≤ length before) before bounded)) in
      stamp_step event event_is last
    where
      stamp_step : (event : Event) → e.entry.event ≡ event → last_stamp (entries_of e.role before) ≤ length before → e.entry.stamp ≤ length before + 1
      stamp_step (Emit i) emitted last = let may = follows before after e (Emit i) is emitted in omega (arith, may.next)
      stamp_step (Receive i) received last =
          let by = source before after e i is received in
          omega (arith, by.stamped, All-contains (λ (f : RoleEntry). f.entry.stamp ≤ length before) before by.emission bounded by.among)

  -- no stamp exceeds the number of events
  stamps_after : (before after : List RoleEntry) → all ≡ before ++ after → All (λ e. e.entry.stamp ≤ length before) before → All (λ e. e.entry.stamp ≤ length all) all
  stamps_after before [] is bounded = subst (λ es. All (λ e. e.entry.stamp ≤ length es) es) (sym (is ∙ append-nil before)) bounded
  stamps_after before (e ∷ after) is bounded =
      let step : e.entry.stamp ≤ length before + 1 = step_bounded before after e e.entry.event is bounded refl in
      let longer : length (before ++ e ∷ []) ≡ length before + 1 = length-append before (e ∷ []) in
      stamps_after (before ++ e ∷ []) after (is ∙ sym (append_assoc before (e ∷ []) after))
      (All-push (λ (f : RoleEntry). f.entry.stamp ≤ length (before ++ e ∷ [])) before e
      (All-weaker (λ (f : RoleEntry). f.entry.stamp ≤ length before) (λ (f : RoleEntry). f.entry.stamp ≤ length (before ++ e ∷ [])) (λ f low. omega arith) before bounded)
      (omega arith))

  -- the list of all entries makes a legal run
  merges_to : IsRunOf x histories (run_of all)
  merges_to =
      record {
        legal = record {
          fits = All-map (λ (f : Event). Fits x (instance_of f)) (λ (f : RoleEntry). f.entry.event) all (λ k d within. fits_event (slice_index_or all k d) (All-contains_itself all k d within));
          legal = legal_after [] all refl;
        };
        histories_kept = λ role. history_before role all [] (sym (append-nil all)) ∙ ap events_of (each role);
        stamps = λ role k d within.
            let e : Entry = slice_index_or (history_at histories role) k d in
            let among : Contains (entries_of role all) e = subst (λ es. Contains es e) (sym (each role)) (All-contains_itself (history_at histories role) k d within) in
            let low : e.stamp ≤ length all = All-contains (λ (f : RoleEntry). f.entry.stamp ≤ length all) all (record { role = role; entry = e }) (stamps_after [] all refl (All-nil (λ (f : RoleEntry). f.entry.stamp ≤ 0))) (entry_among role all e among) in
            omega (arith, low, length-map all (λ (f : RoleEntry). f.entry.event));
      }

-- local histories whose receipts are explained merge into a legal run
pub merges : (x : Expanded) (histories : List (List Entry)) (run : List Event) → AreLocal x histories → AreExplained x histories → IsMerged histories run → IsRunOf x histories run
merges x histories run local explained merged =
    subst (IsRunOf x histories) (sym merged.events) (merges_to x histories merged.all local explained merged.sorted merged.each)

-- of a safe protocol, what two roles know of a parameter under a key is one value
pub agrees : StoresAgree
agrees x histories run safe local explained merged role other key p v w knows also =
    let is_run = merges x histories run local explained merged in
    safe.agree run is_run.legal key p role other v w
    (subst (λ h. Knows x h key p v) (sym (is_run.histories_kept role)) knows)
    (subst (λ h. Knows x h key p w) (sym (is_run.histories_kept other)) also)
