-- What the roles hold stays sound, step by step.
use Rattle.std.proofs.Common.{◌≡◌, ◌≢◌, ℕ, ◌<◌, inl, inr, Bool, true, false, List, [], ◌∷◌, ◌++◌, fold, length, replicate, refl, sym, ap, ◌∙◌, subst, arith}
use Rattle.std.specs.Prelude.{if◌then◌else◌, Option, None, Some, slice_get}
use Rattle.std.proofs.lemmas.Bool.{cases_eq, cases_lt, eq-eqb, ne_eqb}
use Rattle.std.proofs.lemmas.List.{get_or_append_left, get_or-replicate, get_or-set_other, get_or-set_same, get_or_past, length-append, length-replicate, length-set, set_past}
use Rattle.std.proofs.lemmas.List.Elements.{All-nil}
use Rattle.std.proofs.lemmas.Option.{get_or_from_slice_get, slice_get-get_or, slice_get_within}
use Rattle.list_base.proofs.Members.{nowhere}
use Rattle.bspl_types.specs.declared.event.Event.{Event}
use Rattle.bspl_types.specs.declared.event.Event.TheVariants.{Emit, Receive}
use Rattle.bspl_types.specs.declared.event.Instance.{Instance}
use Rattle.bspl_types.specs.declared.expanded.Expanded.{Expanded}
use Rattle.bspl_types.specs.Expansion.{message_of}
use Rattle.stamped_history.specs.declared.entry.Entry.{Entry}
use Rattle.stamped_history.specs.Explained.{AreExplained, AreLocal, IsExplained, history_at}
use Rattle.stamped_history.specs.Extended.{EmissionKeepsExplained, ReceiptKeepsExplained, extended}
use Rattle.stamped_history.specs.Local.{IsLocal}
use Rattle.restart_run.specs.Steps.{AllHappen, Held, MayCome, MayTakeStep, Step, Acknowledged, Unacknowledged, Restart, after_step, histories_after, no_events, with_event, with_kept, with_pending}

-- the role's history has one entry more
longer : (histories : List (List Entry)) (role : ℕ) (e : Entry) → role < length histories → history_at (extended histories role e) role ≡ history_at histories role ++ e ∷ []
longer histories role e within = get_or-set_same histories role (history_at histories role ++ e ∷ []) [] within

-- the others are as they were
others_same : (histories : List (List Entry)) (role other : ℕ) (e : Entry) → other ≢ role → history_at (extended histories role e) other ≡ history_at histories other
others_same histories role other e differs = get_or-set_other histories role other (history_at histories role ++ e ∷ []) [] differs

-- an entry keeps its index
entry_kept : (histories : List (List Entry)) (role : ℕ) (e : Entry) (other k : ℕ) (f : Entry) → slice_get (history_at histories other) k ≡ Some f → slice_get (history_at (extended histories role e) other) k ≡ Some f
entry_kept histories role e other k f at = elim (cases_lt role (length histories)) [
  | inr past ↦ subst (λ (hs : List (List Entry)). slice_get (history_at hs other) k ≡ Some f) (sym (set_past histories role (history_at histories role ++ e ∷ []) past)) at
  | inl within ↦ elim (cases_eq other role) [
    | inr differs ↦ subst (λ (h : List Entry). slice_get h k ≡ Some f) (sym (others_same histories role other e differs)) at
    | inl same ↦
        let earlier : slice_get (history_at histories role) k ≡ Some f = subst (λ (r : ℕ). slice_get (history_at histories r) k ≡ Some f) same at in
        let inside : k < length (history_at histories role) = slice_get_within (history_at histories role) k f earlier in
        subst (λ (r : ℕ). slice_get (history_at (extended histories role e) r) k ≡ Some f) (sym same)
        (subst (λ (h : List Entry). slice_get h k ≡ Some f) (sym (longer histories role e within))
        (slice_get-get_or (history_at histories role ++ e ∷ []) k f (omega (arith, length-append (history_at histories role) (e ∷ [])))
        ∙ ap Some (get_or_append_left (history_at histories role) (e ∷ []) f k inside ∙ get_or_from_slice_get (history_at histories role) k f f earlier)))
  ]
]

-- a receipt that may come stays explained
stays_explained : (x : Expanded) (histories : List (List Entry)) (role : ℕ) (e : Entry) (before : List Entry) (i : Instance) (receipt : Entry) → IsExplained x histories before i receipt → IsExplained x (extended histories role e) before i receipt
stays_explained x histories role e before i receipt by = record {
  emission = by.emission;
  numbered = entry_kept histories role e (message_of x i.message).sender receipt.number by.emission by.numbered;
  emitted = by.emitted;
  stamped = by.stamped;
}

-- the histories are local and explained, and what is pending may come
record IsSound (x : Expanded) (h : Held) : Type 0 where
  local : AreLocal x h.histories
  explained : AreExplained x h.histories
  may_come : (role : ℕ) (e : Entry) → h.pending role ≡ Some e → MayCome x h role e

-- what may come at one role may come after an event at another
other_may_come : (x : Expanded) (h : Held) (role other : ℕ) (e f : Entry) → other ≢ role → MayCome x h other f → MayCome x (with_event h role e) other f
other_may_come x h role other e f differs may =
    let same : history_at (extended h.histories role e) other ≡ history_at h.histories other = others_same h.histories role other e differs in
    record {
      local = subst (λ (before : List Entry). IsLocal x other (before ++ f ∷ [])) (sym same) may.local;
      explained = λ i received. subst (λ (before : List Entry). IsExplained x (extended h.histories role e) before i f) (sym same) (stays_explained x h.histories role e (history_at h.histories other) i f (may.explained i received));
    }

module _ (emission : EmissionKeepsExplained) (receipt : ReceiptKeepsExplained) (x : Expanded) where
  -- one event more leaves all receipts explained
  event_explained : (h : Held) (role : ℕ) (e : Entry) (event : Event) → e.event ≡ event → AreExplained x h.histories → MayCome x h role e → AreExplained x (extended h.histories role e)
  event_explained h role e (Emit i) is explained may = emission x h.histories role e i explained is
  event_explained h role e (Receive i) is explained may = receipt x h.histories role e i explained is (may.explained i is)

  -- and all histories local
  event_local : (h : Held) (role : ℕ) (e : Entry) → AreLocal x h.histories → MayCome x h role e → AreLocal x (extended h.histories role e)
  event_local h role e local may = record {
    count = length-set h.histories role (history_at h.histories role ++ e ∷ []) ∙ local.count;
    each = λ other within.
        let inside : other < length h.histories = omega (arith, length-set h.histories role (history_at h.histories role ++ e ∷ [])) in
        elim (cases_eq other role) [
          | inr differs ↦ subst (IsLocal x other) (sym (others_same h.histories role other e differs)) (local.each other inside)
          | inl same ↦
              let here : role < length h.histories = omega arith in
              subst (λ (r : ℕ). IsLocal x r (history_at (extended h.histories role e) r)) (sym same)
              (subst (IsLocal x role) (sym (longer h.histories role e here)) may.local)
        ];
  }

  -- an event that may come
  event_sound : (h : Held) (role : ℕ) (e : Entry) → h.pending role ≡ None → IsSound x h → MayCome x h role e → IsSound x (with_event h role e)
  event_sound h role e none sound may = record {
    local = event_local h role e sound.local may;
    explained = event_explained h role e e.event refl sound.explained may;
    may_come = λ other f pending. elim (cases_eq other role) [
      | inr differs ↦ other_may_come x h role other e f differs (sound.may_come other f pending)
      | inl same ↦ let also : h.pending role ≡ Some f = subst (λ (r : ℕ). h.pending r ≡ Some f) same pending in absurd (cc)
    ];
  }

  -- what a role has pending
  pending_same : (h : Held) (role other : ℕ) (e : Option Entry) → other ≡ role → (with_pending h role e).pending other ≡ e
  pending_same h role other e same = ap (λ (b : Bool). if b then e else h.pending other) (eq-eqb other role same)

  pending_other : (h : Held) (role other : ℕ) (e : Option Entry) → other ≢ role → (with_pending h role e).pending other ≡ h.pending other
  pending_other h role other e differs = ap (λ (b : Bool). if b then e else h.pending other) (ne_eqb other role differs)

  -- an event that is not acknowledged
  pending_sound : (h : Held) (role : ℕ) (e : Entry) → IsSound x h → MayCome x h role e → IsSound x (with_pending h role (Some e))
  pending_sound h role e sound may = record {
    local = sound.local;
    explained = sound.explained;
    may_come = λ other f pending. elim (cases_eq other role) [
      | inr differs ↦
          let before : MayCome x h other f = sound.may_come other f (sym (pending_other h role other (Some e) differs) ∙ pending) in
          record { local = before.local; explained = before.explained }
      | inl same ↦
          let is : Some e ≡ Some f = sym (pending_same h role other (Some e) same) ∙ pending in
          let one : e ≡ f = cc in
          let moved : MayCome x h other f = subst (λ (r : ℕ). MayCome x h r f) (sym same) (subst (MayCome x h role) one may) in
          record { local = moved.local; explained = moved.explained }
    ];
  }

  -- nothing is pending at the role any more; what is pending at the others may come
  none_sound : (h : Held) (role : ℕ) → AreLocal x h.histories → AreExplained x h.histories → ((other : ℕ) (f : Entry) → other ≢ role → h.pending other ≡ Some f → MayCome x h other f) → IsSound x (with_pending h role None)
  none_sound h role local explained others = record {
    local = local;
    explained = explained;
    may_come = λ other f pending. elim (cases_eq other role) [
      | inr differs ↦
          let before : MayCome x h other f = others other f differs (sym (pending_other h role other None differs) ∙ pending) in
          record { local = before.local; explained = before.explained }
      | inl same ↦ let is : None ≡ Some f = sym (pending_same h role other None same) ∙ pending in absurd (cc)
    ];
  }

  -- a restart
  restart_sound : (h : Held) (role : ℕ) (keeps : Bool) (pending : Option Entry) → h.pending role ≡ pending → IsSound x h → IsSound x (with_pending (with_kept h role keeps pending) role None)
  restart_sound h role true (Some e) is sound =
      let may : MayCome x h role e = sound.may_come role e is in
      none_sound (with_event h role e) role (event_local h role e sound.local may) (event_explained h role e e.event refl sound.explained may)
      (λ other f differs pending. other_may_come x h role other e f differs (sound.may_come other f pending))
  restart_sound h role true None is sound = none_sound h role sound.local sound.explained (λ other f differs pending. sound.may_come other f pending)
  restart_sound h role false pending is sound = none_sound h role sound.local sound.explained (λ other f differs also. sound.may_come other f also)

  -- one step
  step_sound : (h : Held) (step : Step) → IsSound x h → MayTakeStep x h step → IsSound x (after_step h step)
  step_sound h (Acknowledged role e) sound (none, may) = event_sound h role e none sound may
  step_sound h (Unacknowledged role e) sound (none, may) = pending_sound h role e sound may
  step_sound h (Restart role keeps) sound may = restart_sound h role keeps (h.pending role) refl sound

  -- all steps
  steps_sound : (h : Held) (steps : List Step) → IsSound x h → AllHappen x h steps → IsSound x (fold after_step h steps)
  steps_sound h [] sound all = sound
  steps_sound h (step ∷ steps) sound (first, rest) = steps_sound (after_step h step) steps (step_sound h step sound first) rest

  -- a role without events
  no_history : (role : ℕ) → history_at (no_events x).histories role ≡ []
  no_history role = elim (cases_lt role (length x.roles)) [
    | inl within ↦ get_or-replicate (length x.roles) role [] [] within
    | inr past ↦ get_or_past (replicate (length x.roles) []) role [] (omega (arith, length-replicate {A = List Entry} (length x.roles) []))
  ]

  nothing_local : (role : ℕ) → IsLocal x role []
  nothing_local role = record {
    fits = All-nil _;
    own = All-nil _;
    follows = λ before after e is. absurd (omega (arith, ap length is, length-append before (e ∷ after)));
    one_value = λ key p v w knows also. absurd (nowhere knows.event knows.among);
  }

  -- a world without events
  nothing_sound : IsSound x (no_events x)
  nothing_sound = record {
    local = record { count = length-replicate (length x.roles) []; each = λ role within. subst (IsLocal x role) (sym (no_history role)) (nothing_local role) };
    explained = λ role before after e i is received. absurd (omega (arith, ap length (sym (no_history role) ∙ is), length-append before (e ∷ after)));
    may_come = λ role e pending. absurd (cc);
  }

  -- what is acknowledged after all steps
  pub all_local : (steps : List Step) → AllHappen x (no_events x) steps → AreLocal x (histories_after (no_events x) steps)
  all_local steps all = (steps_sound (no_events x) steps nothing_sound all).local

  pub all_explained : (steps : List Step) → AllHappen x (no_events x) steps → AreExplained x (histories_after (no_events x) steps)
  all_explained steps all = (steps_sound (no_events x) steps nothing_sound all).explained
