-- The histories of desks, and what kept desks make of them.
use Rattle.std.proofs.Common.{◌≡◌, ℕ, ◌≤◌, inl, inr, Some, List, [], ◌∷◌, length, sym, ap, ◌∙◌, subst, arith, option_map, All, Contains}
use Rattle.std.specs.Prelude.{slice_get, slice_index_or}
use Rattle.std.proofs.lemmas.List.{get_or_past, length-append, length-map}
use Rattle.std.proofs.lemmas.List.Elements.{All-contains}
use Rattle.std.proofs.lemmas.Option.{get_or_from_slice_get, slice_get-get_or, slice_get-map, slice_get_cases, slice_get_within}
use Rattle.list_base.proofs.Members.{nowhere}
use Rattle.bspl_types.specs.declared.event.Event.{Event}
use Rattle.bspl_types.specs.declared.expanded.Expanded.{Expanded}
use Rattle.adapter.specs.Desk.{DeskState}
use Rattle.adapter.specs.Kept.{IsKept}
use Rattle.adapter.specs.Rules.{rules_of}
use Rattle.agent_scripts.specs.Job.{Job}
use Rattle.agent_scripts.specs.Laws.{FitsProtocol}
use Rattle.agent_scripts.specs.Statement.{IsSentBy}
use Rattle.stamped_history.specs.PlayedLaws.{HistoriesPlay, OrdersAreOwn}
use Rattle.stamped_history.specs.Played.{Played}
use Rattle.stamped_history.specs.declared.entry.Entry.{Entry}
use Rattle.stamped_history.specs.Entries.{events_of, StampsRise}
use Rattle.stamped_history.specs.Explained.{AreExplained, AreLocal, history_at}
use Rattle.stamped_history.specs.Laws.{HistoriesMerge, IsRunOf, LocalStampsRise}
use Rattle.stamped_history.specs.Local.{IsLocal}
use Rattle.world_run.specs.Laws.{MergePlayed}
use Rattle.world_run.specs.World.{AreDesksOfOne, AreKept, HasHistories, histories_of}
use Rattle.world_run.proofs.MergeLemmas.{HasMerged, has_merged}

-- what holds of each item holds of all
pub all_items : {X : Type 0} (P : X → Type 0) (xs : List X) → ((k : ℕ) (x : X) → slice_get xs k ≡ Some x → P x) → All P xs
all_items P xs each k d within = each k (slice_index_or xs k d) (slice_get-get_or xs k d within)

-- a role's history is that of its desk
pub history_is : (desks : List DeskState) (role : ℕ) (d : DeskState) → slice_get desks role ≡ Some d → history_at (histories_of desks) role ≡ d.store.entries
history_is desks role d at =
    get_or_from_slice_get (histories_of desks) role d.store.entries []
    (slice_get-map (λ (e : DeskState). e.store.entries) desks role ∙ ap (option_map (λ (e : DeskState). e.store.entries)) at)

-- past the last role there is none
pub history_past : (desks : List DeskState) (role : ℕ) → length desks ≤ role → history_at (histories_of desks) role ≡ []
history_past desks role past =
    get_or_past (histories_of desks) role [] (omega (arith, past, length-map desks (λ (e : DeskState). e.store.entries)))

-- what holds of each desk's entries, and of none, holds of each history
pub each_history : (P : ℕ → List Entry → Type 0) (desks : List DeskState) → ((role : ℕ) (d : DeskState) → slice_get desks role ≡ Some d → P role d.store.entries) → ((role : ℕ) → P role []) → (role : ℕ) → P role (history_at (histories_of desks) role)
each_history P desks each none role = elim (slice_get_cases desks role).1 [
  | inl found ↦ subst (P role) (sym (history_is desks role found.0 found.2)) (each role found.0 found.2)
  | inr past ↦ subst (P role) (sym (history_past desks role past.0)) (none role)
]

-- kept desks are those of one protocol
pub of_one : (job : Job) (desks : List DeskState) → AreKept job desks → AreDesksOfOne desks
of_one job desks kept =
    record {
      protocol = job.protocol;
      are = record {
        count = kept.count;
        each = λ role d at. record { protocol_is = (kept.each role d at).protocol_is; role_is = (kept.each role d at).role_is };
      };
    }

-- the history of a kept desk is local
pub local_at : (job : Job) (role : ℕ) (d : DeskState) → IsKept job role d → IsLocal job.protocol role d.store.entries
local_at job role d is =
    subst (λ r. IsLocal job.protocol r d.store.entries) is.role_is
    (subst (λ (x : Expanded). IsLocal x d.store.role d.store.entries) is.protocol_is is.consistent.local)

-- so are those of all kept desks
pub are_local : (job : Job) (desks : List DeskState) → AreKept job desks → AreLocal job.protocol (histories_of desks)
are_local job desks kept =
    record {
      count = length-map desks (λ (d : DeskState). d.store.entries) ∙ kept.count;
      each = λ role within.
          elim (slice_get_cases desks role).1 [
            | inl found ↦ subst (IsLocal job.protocol role) (sym (history_is desks role found.0 found.2)) (local_at job role found.0 (kept.each role found.0 found.2))
            | inr past ↦ absurd (omega (arith, within, past.0, length-map desks (λ (d : DeskState). d.store.entries)))
          ];
    }

-- and their stamps rise
pub all_rise : LocalStampsRise → (job : Job) (desks : List DeskState) → AreKept job desks → All StampsRise (histories_of desks)
all_rise rise job desks kept = all_items StampsRise (histories_of desks) (λ k h at.
    subst StampsRise (get_or_from_slice_get (histories_of desks) k h [] at)
    (rise job.protocol k (history_at (histories_of desks) k) ((are_local job desks kept).each k (slice_get_within (histories_of desks) k h at))))

-- an order has messages alone that its role sends
pub orders_own : (job : Job) → FitsProtocol job.protocol job.script → OrdersAreOwn job.protocol (rules_of job)
orders_own job fits role m among = elim (slice_get_cases job.script.orders role).1 [
  | inl found ↦
      let order_is = get_or_from_slice_get job.script.orders role found.0 [] found.2 in
      (All-contains (IsSentBy job.protocol role) found.0 m (fits.sent role found.0 found.2) (subst (λ ms. Contains ms m) order_is among)).1
  | inr past ↦ absurd (nowhere m (subst (λ ms. Contains ms m) (get_or_past job.script.orders role [] past.0) among))
]

-- nothing was played yet
pub played_none : (job : Job) → Played job.protocol (rules_of job) []
played_none job =
    record {
      workload = λ k d within. absurd (omega (arith, within));
      events = λ before after e is. absurd (omega (arith, ap length is, length-append before (e ∷ after)));
    }

-- a run with the desks' histories is played
pub run_played : HistoriesPlay → (job : Job) (desks : List DeskState) (run : List Event) → FitsProtocol job.protocol job.script → AreKept job desks → HasHistories job.protocol desks run → Played job.protocol (rules_of job) run
run_played play job desks run fits kept histories = play job.protocol (rules_of job) run (orders_own job fits) (λ role.
    subst (Played job.protocol (rules_of job)) (sym (histories role))
    (each_history (λ r h. Played job.protocol (rules_of job) (events_of h)) desks (λ r d at. (kept.each r d at).played) (λ r. played_none job) role))

-- kept desks whose receipts are explained merge into a played run
pub merge_played : HistoriesMerge → HistoriesPlay → LocalStampsRise → (job : Job) (desks : List DeskState) → FitsProtocol job.protocol job.script → AreKept job desks → AreExplained job.protocol (histories_of desks) → MergePlayed job desks
merge_played merge play rise job desks fits kept explained =
    let local = are_local job desks kept in
    let run : HasMerged (histories_of desks) = has_merged (histories_of desks) (all_rise rise job desks kept) in
    let run_is : IsRunOf job.protocol (histories_of desks) run.run = merge job.protocol (histories_of desks) run.run local explained run.merged in
    record {
      local = local;
      run = run.run;
      merged = run.merged;
      run_is = run_is;
      played = run_played play job desks run.run fits kept run_is.histories_kept;
      count = run.count;
    }
