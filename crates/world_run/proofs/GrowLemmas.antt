-- One entry more at one desk: no history loses an entry, and the run has one event more.
use Rattle.std.proofs.Common.{◌≡◌, ◌≢◌, ℕ, ◌+◌, ◌<◌, ◌≤◌, inl, inr, Some, List, [], ◌∷◌, ◌++◌, length, refl, sym, ap, ◌∙◌, subst, arith, option_map, All}
use Rattle.std.specs.Prelude.{◌==◌, slice_get, slice_set}
use Rattle.std.specs.List.{sum_by}
use Rattle.std.proofs.lemmas.Bool.{cases_eq, cond_both}
use Rattle.std.proofs.lemmas.Bool.Decides.{Decides-eqb}
use Rattle.std.proofs.lemmas.List.{append_assoc, append-nil, get_or-set_other, length-append, length-map, map-append, map-set}
use Rattle.std.proofs.lemmas.List.Elements.{All-head, All-push, All-tail, All-weaker, filter-append}
use Rattle.std.proofs.lemmas.List.Sums.{sum_by-le, sum_by-set}
use Rattle.std.proofs.lemmas.Option.{get_or_from_slice_get, slice_get-map, slice_get_within}
use Rattle.bspl_types.specs.declared.envelope.Stamped.{Stamped}
use Rattle.bspl_types.specs.declared.event.Event.{Event}
use Rattle.bspl_types.specs.declared.expanded.Expanded.{Expanded}
use Rattle.bspl_types.specs.Expansion.{message_of}
use Rattle.bspl_types.specs.History.{history_of, instance_of, role_of}
use Rattle.bspl_types.specs.Instance.{Fits}
use Rattle.enactment_model.specs.Legal.{LegalAfter, MayFollow}
use Rattle.adapter.specs.Desk.{DeskState}
use Rattle.adapter.specs.Kept.{IsKept}
use Rattle.agent_scripts.specs.Job.{Job}
use Rattle.stamped_history.specs.declared.entry.Entry.{Entry}
use Rattle.stamped_history.specs.Entries.{events_of, last_stamp}
use Rattle.stamped_history.specs.Explained.{history_at}
use Rattle.world_run.specs.Sent.{IsSent}
use Rattle.world_run.specs.World.{AreKept, HistoriesGrow, histories_of}
use Rattle.world_run.specs.inner.InProgress.{HaveRun}
use Rattle.world_run.proofs.SetLemmas.{item_longer, item_set, set_same}
use Rattle.world_run.proofs.WorldLemmas.{all_items, each_history, history_is}

-- the histories with another desk of the role
pub histories_after : (desks : List DeskState) (role : ℕ) (new : DeskState) → histories_of (slice_set desks role new) ≡ slice_set (histories_of desks) role new.store.entries
histories_after desks role new = map-set (λ (d : DeskState). d.store.entries) desks role new

-- they are as before if its entries are
pub histories_same : (desks : List DeskState) (role : ℕ) (old new : DeskState) → slice_get desks role ≡ Some old → new.store.entries ≡ old.store.entries → histories_of (slice_set desks role new) ≡ histories_of desks
histories_same desks role old new at same =
    histories_after desks role new
    ∙ set_same (histories_of desks) role new.store.entries
    (slice_get-map (λ (d : DeskState). d.store.entries) desks role ∙ ap (option_map (λ (d : DeskState). d.store.entries)) at ∙ ap Some (sym same))

-- the role's history afterwards
pub history_here : (desks : List DeskState) (role : ℕ) (old new : DeskState) → slice_get desks role ≡ Some old → history_at (histories_of (slice_set desks role new)) role ≡ new.store.entries
history_here desks role old new at = history_is (slice_set desks role new) role new (item_set desks role new old at)

-- the others stay
pub history_other : (desks : List DeskState) (role : ℕ) (new : DeskState) (other : ℕ) → other ≢ role → history_at (histories_of (slice_set desks role new)) other ≡ history_at (histories_of desks) other
history_other desks role new other differs =
    ap (λ hs. history_at hs other) (histories_after desks role new)
    ∙ get_or-set_other (histories_of desks) role other new.store.entries [] differs

-- no history lost an entry
pub grow : (desks : List DeskState) (role : ℕ) (old new : DeskState) (more : List Entry) → slice_get desks role ≡ Some old → new.store.entries ≡ old.store.entries ++ more → HistoriesGrow (histories_of desks) (histories_of (slice_set desks role new))
grow desks role old new more at longer other = elim (cases_eq other role) [
  | inl same ↦ (
    more,
    subst (λ r. history_at (histories_of (slice_set desks role new)) r ≡ history_at (histories_of desks) r ++ more) (sym same)
        (history_here desks role old new at ∙ longer ∙ ap (λ h. h ++ more) (sym (history_is desks role old at))),
  )
  | inr differs ↦ ([], history_other desks role new other differs ∙ sym (append-nil (history_at (histories_of desks) other)))
]

-- nothing happened
pub grow_none : (histories : List (List Entry)) → HistoriesGrow histories histories
grow_none histories role = ([], sym (append-nil (history_at histories role)))

-- twice
pub grow_twice : (old mid new : List (List Entry)) → HistoriesGrow old mid → HistoriesGrow mid new → HistoriesGrow old new
grow_twice old mid new first second role = (
  (first role).0 ++ (second role).0,
  (second role).1 ∙ ap (λ h. h ++ (second role).0) (first role).1 ∙ append_assoc (history_at old role) (first role).0 (second role).0,
)

-- what was sent stays sent
pub sent_later : (x : Expanded) (old new : List (List Entry)) (m : Stamped) → HistoriesGrow old new → IsSent x old m → IsSent x new m
sent_later x old new m grown sent =
    let sender : ℕ = (message_of x m.instance.message).sender in
    record {
      emission = sent.emission;
      numbered = subst (λ h. slice_get h m.number ≡ Some sent.emission) (sym (grown sender).1)
          (item_longer (history_at old sender) (grown sender).0 m.number sent.emission sent.numbered);
      emitted = sent.emitted;
      stamped = sent.stamped;
    }

-- a legal run with one event more that may follow
legal_more : (x : Expanded) (earlier run : List Event) (e : Event) → LegalAfter x earlier run → MayFollow x (earlier ++ run) e → LegalAfter x earlier (run ++ e ∷ [])
legal_more x earlier [] e legal may = (subst (λ b. MayFollow x b e) (append-nil earlier) may, tt)
legal_more x earlier (f ∷ run) e legal may = (
  legal.0,
  legal_more x (earlier ++ f ∷ []) run e legal.1 (subst (λ b. MayFollow x b e) (sym (append_assoc earlier (f ∷ []) run)) may),
)

-- is legal
pub legal_longer : (x : Expanded) (run : List Event) (e : Event) → LegalAfter x [] run → MayFollow x run e → LegalAfter x [] (run ++ e ∷ [])
legal_longer x run e legal may = legal_more x [] run e legal may

-- its role's history has the event too
pub history_own : (x : Expanded) (role : ℕ) (run : List Event) (e : Event) → role_of x e ≡ role → history_of x role (run ++ e ∷ []) ≡ history_of x role run ++ e ∷ []
history_own x role run e own =
    filter-append (λ f. role_of x f == role) run (e ∷ [])
    ∙ ap (λ es. history_of x role run ++ es)
    (cond_both (role_of x e == role) (e ∷ []) [] (λ es. es ≡ e ∷ []) (λ yes. refl) (λ no. absurd (grind (arith, no, (Decides-eqb (role_of x e) role).1 own))))

-- the others' have not
history_not_own : (x : Expanded) (role : ℕ) (run : List Event) (e : Event) → role_of x e ≢ role → history_of x role (run ++ e ∷ []) ≡ history_of x role run
history_not_own x role run e other =
    filter-append (λ f. role_of x f == role) run (e ∷ [])
    ∙ ap (λ es. history_of x role run ++ es)
    (cond_both (role_of x e == role) (e ∷ []) [] (λ es. es ≡ []) (λ yes. absurd (other ((Decides-eqb (role_of x e) role).0 yes))) (λ no. refl))
    ∙ append-nil (history_of x role run)

-- an event that a desk has more
pub record IsMore (x : Expanded) (role : ℕ) (old new : List Entry) (e : Entry) (count : ℕ) : Type 0 where
  pub longer : new ≡ old ++ e ∷ []
  pub fits : Fits x (instance_of e.event)
  pub own : role_of x e.event ≡ role
  pub stamp : e.stamp ≤ count + 1

-- the run has it as its last event
pub run_more : (x : Expanded) (desks : List DeskState) (role : ℕ) (old new : DeskState) (e : Entry) (r : HaveRun x desks) → slice_get desks role ≡ Some old → IsMore x role old.store.entries new.store.entries e (length r.run) → MayFollow x r.run e.event → HaveRun x (slice_set desks role new)
run_more x desks role old new e r at more may =
    let run : List Event = r.run ++ e.event ∷ [] in
    let count : length run ≡ length r.run + 1 = length-append r.run (e.event ∷ []) in
    let here : history_at (histories_of (slice_set desks role new)) role ≡ history_at (histories_of desks) role ++ e ∷ [] =
    history_here desks role old new at ∙ more.longer ∙ ap (λ h. h ++ e ∷ []) (sym (history_is desks role old at)) in
    record {
      run = run;
      legal = record {
        fits = All-push (λ f. Fits x (instance_of f)) r.run e.event r.legal.fits more.fits;
        legal = legal_longer x r.run e.event r.legal.legal may;
      };
      kept = λ other. elim (cases_eq other role) [
        | inl same ↦ subst (λ o. history_of x o run ≡ events_of (history_at (histories_of (slice_set desks role new)) o)) (sym same)
            (history_own x role r.run e.event more.own
            ∙ ap (λ es. es ++ e.event ∷ []) (r.kept role)
            ∙ sym (map-append (λ (f : Entry). f.event) (history_at (histories_of desks) role) (e ∷ []))
            ∙ ap events_of (sym here))
        | inr differs ↦
            history_not_own x other r.run e.event (λ same. differs (sym same ∙ more.own))
            ∙ r.kept other
            ∙ ap events_of (sym (history_other desks role new other differs))
      ];
      stamps = λ other.
          let before : All (λ (f : Entry). f.stamp ≤ length run) (history_at (histories_of desks) other) =
          All-weaker (λ (f : Entry). f.stamp ≤ length r.run) (λ (f : Entry). f.stamp ≤ length run) (λ f low. omega (arith, low, count)) (history_at (histories_of desks) other) (r.stamps other) in
          elim (cases_eq other role) [
            | inl same ↦ subst (λ o. All (λ (f : Entry). f.stamp ≤ length run) (history_at (histories_of (slice_set desks role new)) o)) (sym same)
                (subst (λ h. All (λ (f : Entry). f.stamp ≤ length run) h) (sym here)
                (All-push (λ (f : Entry). f.stamp ≤ length run) (history_at (histories_of desks) role) e
                (subst (λ o. All (λ (f : Entry). f.stamp ≤ length run) (history_at (histories_of desks) o)) same before) (omega (arith, more.stamp, count))))
            | inr differs ↦ subst (λ h. All (λ (f : Entry). f.stamp ≤ length run) h) (sym (history_other desks role new other differs)) before
          ];
      count =
          let within : role < length (histories_of desks) = omega (arith, slice_get_within desks role old at, length-map desks (λ (d : DeskState). d.store.entries)) in
          let sums = sum_by-set length (histories_of desks) role new.store.entries [] within in
          let longer : length new.store.entries ≡ length (history_at (histories_of desks) role) + 1 =
          ap length more.longer ∙ length-append old.store.entries (e ∷ []) ∙ ap (λ h. length h + 1) (sym (history_is desks role old at)) in
          let after : sum_by length (histories_of (slice_set desks role new)) ≡ sum_by length (slice_set (histories_of desks) role new.store.entries) = ap (sum_by length) (histories_after desks role new) in
          omega (arith, count, r.count, sums, longer, after);
    }

-- the last stamp is one of the stamps
pub last_bounded : (n : ℕ) (entries : List Entry) → All (λ e. e.stamp ≤ n) entries → last_stamp entries ≤ n
last_bounded n [] all = omega arith
last_bounded n (e ∷ []) all = All-head (λ (f : Entry). f.stamp ≤ n) e [] all
last_bounded n (e ∷ (f ∷ rest)) all = last_bounded n (f ∷ rest) (All-tail (λ (g : Entry). g.stamp ≤ n) e (f ∷ rest) all)

-- a desk's clock is at most the number of events
pub clock_bounded : (x : Expanded) (desks : List DeskState) (role : ℕ) (d : DeskState) (r : HaveRun x desks) → slice_get desks role ≡ Some d → last_stamp d.store.entries ≤ length r.run
clock_bounded x desks role d r at =
    subst (λ h. last_stamp h ≤ length r.run) (history_is desks role d at) (last_bounded (length r.run) (history_at (histories_of desks) role) (r.stamps role))

-- and that number is below the last value of a clock
pub run_short : (job : Job) (desks : List DeskState) (r : HaveRun job.protocol desks) → AreKept job desks → length r.run < 18446744073709551615
run_short job desks r kept =
    let few : All (λ h. length h ≤ 4294967295) (histories_of desks) = all_items (λ h. length h ≤ 4294967295) (histories_of desks) (λ k h at. short k h at) in
    let sums = sum_by-le length 4294967295 (histories_of desks) few in
    omega (arith, sums, r.count, job.protocol.shape.counts.few_roles, kept.count, length-map desks (λ (d : DeskState). d.store.entries))
  where
    short_at : (d : DeskState) (role : ℕ) → IsKept job role d → length d.store.entries ≤ 4294967295
    short_at d role is = omega (arith, is.consistent.few)

    short : (k : ℕ) (h : List Entry) → slice_get (histories_of desks) k ≡ Some h → length h ≤ 4294967295
    short k h at =
        subst (λ g. length g ≤ 4294967295) (get_or_from_slice_get (histories_of desks) k h [] at)
        (each_history (λ r g. length g ≤ 4294967295) desks (λ r d found. short_at d r (kept.each r d found)) (λ r. omega arith) k)
