-- What is kept of the first roles, role by role, and what is left once all are kept.
use Rattle.std.proofs.Common.{◌≡◌, ℕ, zero, suc, ◌+◌, ◌<◌, ◌≤◌, ◌⊎◌, inl, inr, Bool, true, false, cond, Option, None, Some, List, [], ◌∷◌, ◌++◌, length, option_map, take, refl, sym, ap, ◌∙◌, subst, arith}
use Rattle.std.specs.Prelude.{IfNone, IfSome, if◌then◌else◌, nat_lt, slice_get, slice_index_or}
use Rattle.std.specs.List.{filter}
use Rattle.std.proofs.lemmas.Bool.{cond_both}
use Rattle.std.proofs.lemmas.List.{length-append, length-map, map-append, take_all, take_more}
use Rattle.std.proofs.lemmas.List.Elements.{filter-append}
use Rattle.std.proofs.lemmas.Option.{get_or_from_slice_get, slice_get-get_or, slice_get-map, slice_get_within}
use Rattle.bspl_types.specs.Limits.{role_limit}
use Rattle.adapter.specs.Desk.{DeskState}
use Rattle.adapter.specs.Laws.{KeptEventsAreFew}
use Rattle.agent_scripts.specs.Job.{Job}
use Rattle.durable_store.specs.State.{DurableState, IsSoundStore}
use Rattle.local_store.specs.State.{StoreState}
use Rattle.role_journal.specs.Counts.{Counts}
use Rattle.stamped_history.specs.declared.entry.Entry.{Entry}
use Rattle.stamped_history.specs.Explained.{AreExplained, AreLocal, history_at}
use Rattle.stamped_history.specs.Laws.{IsRunOf}
use Rattle.stamped_history.specs.Merged.{IsMerged}
use Rattle.world_run.specs.Finished.{IsFinished}
use Rattle.world_run.specs.Settling.{HaveRunWhole}
use Rattle.world_run.specs.World.{AreDesksOfOne, AreKept, WorldState, histories_of}
use Rattle.restart_run.specs.declared.roles.KeptRoles.{KeptRoles}
use Rattle.restart_run.specs.Disks.{AreBlank, IsBlank, IsWrittenDisk, bytes_for, faulty}
use Rattle.restart_run.specs.Restarted.{IsRestarted}
use Rattle.restart_run.specs.inner.Keeping.{HasKept, IsKeeper, MayKeep, counts_when}
use Rattle.restart_run.specs.Steps.{AreFromSteps}
use Rattle.restart_run.specs.declared.keeper.Keeper.{Keeper}
use Rattle.restart_run.specs.inner.Midway.{AreNewKeepers, AreWhole, IsNewKeeper}
use Rattle.restart_run.specs.inner.Roles.{AddsRole, AreKeptTo, IsEmptyDesk}
use Rattle.restart_run.proofs.KeeperLemmas.{kept_written}
use Rattle.restart_run.proofs.MidwayLemmas.{at_index}
use Rattle.restart_run.proofs.PrefixLemmas.{desk_may}

-- an item of a longer list was there, or is the last one
pub item_push : {X : Type 0} (xs : List X) (x : X) (k : ℕ) (z : X) → slice_get (xs ++ x ∷ []) k ≡ Some z → (slice_get xs k ≡ Some z) ⊎ ((k ≡ length xs) × (x ≡ z))
item_push [] x zero z at = inr (refl, (cc))
item_push [] x (suc k) z at = absurd (cc)
item_push (y ∷ xs) x zero z at = inl at
item_push (y ∷ xs) x (suc k) z at = elim (item_push xs x k z at) [
  | inl early ↦ inl early
  | inr last ↦ inr (ap suc last.0, last.1)
]

-- an item of the first ones is at its place in the longer list
item_early : {X : Type 0} (xs ys : List X) (k : ℕ) (z : X) → slice_get xs k ≡ Some z → slice_get (xs ++ ys) k ≡ Some z
item_early [] ys k z at = absurd (cc)
item_early (x ∷ xs) ys zero z at = at
item_early (x ∷ xs) ys (suc k) z at = item_early xs ys k z at

-- and the next one is behind them
item_last : {X : Type 0} (xs : List X) (x : X) → slice_get (xs ++ x ∷ []) (length xs) ≡ Some x
item_last [] x = refl
item_last (y ∷ xs) x = item_last xs x

-- what holds of each disk holds of the first ones, and of the last
pub first_blank : {D : Type 0} (seen : D → List ℕ) (may_leave : D → List ℕ → Type 0) (counts : D → Counts) (job : Job) (old new : List D) (disk : D) → old ≡ new ++ disk ∷ [] → AreBlank seen may_leave counts job old → AreBlank seen may_leave counts job new
first_blank {D} seen may_leave counts job old new disk is blank = λ role d at.
    blank role d (subst (λ (ds : List D). slice_get ds role ≡ Some d) (sym is) (item_early new (disk ∷ []) role d at))

pub last_blank : {D : Type 0} (seen : D → List ℕ) (may_leave : D → List ℕ → Type 0) (counts : D → Counts) (job : Job) (old new : List D) (disk : D) → old ≡ new ++ disk ∷ [] → AreBlank seen may_leave counts job old → IsBlank seen may_leave counts (bytes_for job (length new)) disk
last_blank {D} seen may_leave counts job old new disk is blank =
    blank (length new) disk (subst (λ (ds : List D). slice_get ds (length new) ≡ Some disk) (sym is) (item_last new disk))

-- a desk with the store is added, and the disk
pub adds_role : {D : Type 0} (restarted : Bool) (s : DurableState D) (old new : KeptRoles D) (parts : StoreState × D) (desk : DeskState) → parts ≡ (s.store, s.disk) → desk.store ≡ parts.0 → desk.inbox.envelopes ≡ [] → new.desks ≡ old.desks ++ desk ∷ [] → new.disks ≡ old.disks ++ parts.1 ∷ [] → new.restarts ≡ (if restarted then old.restarts + 1 else old.restarts) → AddsRole restarted s old new
adds_role {D} restarted s old new parts desk are store_is empty desks disks restarts = record {
  desk = desk;
  store_is = store_is ∙ ap (λ (p : StoreState × D). p.0) are;
  empty = empty;
  desks = desks;
  disks = disks ∙ ap (λ (p : StoreState × D). old.disks ++ p.1 ∷ []) are;
  restarts = restarts;
}

-- so it is whether there was a last one or not
pub rest_blank : {D : Type 0} (seen : D → List ℕ) (may_leave : D → List ℕ → Type 0) (counts : D → Counts) (job : Job) (old new : List D) (last : Option D) → IfSome last (λ disk. old ≡ new ++ disk ∷ []) → IfNone last (new ≡ []) → AreBlank seen may_leave counts job old → AreBlank seen may_leave counts job new
rest_blank seen may_leave counts job old new (Some disk) some none blank = first_blank seen may_leave counts job old new disk some blank
rest_blank {D} seen may_leave counts job old new None some none blank = λ role disk at.
    let empty : slice_get {X = D} [] role ≡ Some disk = subst (λ (ds : List D). slice_get ds role ≡ Some disk) none at in
    absurd (cc)

module _ {D : Type 0} (may_leave : D → List ℕ → Type 0) (counts : D → Counts) (job : Job) where
  -- a disk is among the faulty ones if its role was restarted
  faulty_one : (restarted : Bool) (disk : D) → counts disk ≡ counts_when restarted → length (faulty counts (disk ∷ [])) ≡ (if restarted then 1 else 0)
  faulty_one restarted disk is =
      ap (λ (c : Counts). length (cond (nat_lt 0 c.faults) (disk ∷ []) [])) is
      ∙ (elim restarted as (λ (b : Bool). length (cond (nat_lt 0 (counts_when b).faults) (disk ∷ []) []) ≡ (if b then 1 else 0)) [ true ↦ refl | false ↦ refl ])

  -- so one more or none is faulty
  faulty_more : (restarted : Bool) (disks : List D) (disk : D) (before : ℕ) → counts disk ≡ counts_when restarted → before ≡ length (faulty counts disks) → (if restarted then before + 1 else before) ≡ length (faulty counts (disks ++ disk ∷ []))
  faulty_more restarted disks disk before is same =
      let parts : length (faulty counts (disks ++ disk ∷ [])) ≡ length (faulty counts disks) + length (faulty counts (disk ∷ [])) =
      ap length (filter-append (λ (d : D). nat_lt 0 (counts d).faults) disks (disk ∷ [])) ∙ length-append (faulty counts disks) (faulty counts (disk ∷ [])) in
      let one : length (faulty counts (disk ∷ [])) ≡ (if restarted then 1 else 0) = faulty_one restarted disk is in
      (elim restarted as (λ (b : Bool). length (faulty counts (disk ∷ [])) ≡ (if b then 1 else 0) → (if b then before + 1 else before) ≡ length (faulty counts (disks ++ disk ∷ []))) [
        | true ↦ λ now. omega (arith, parts, now, same)
        | false ↦ λ now. omega (arith, parts, now, same)
      ]) one

  module _ (histories : List (List Entry)) where
    -- nothing is kept yet
    pub none_kept : AreKeptTo may_leave counts job histories 0 (record { desks = []; disks = []; restarts = 0 })
    none_kept = record {
      desks_count = refl;
      disks_count = refl;
      desks_are = λ role d at. absurd (cc);
      histories_are = refl;
      written = λ role disk at. absurd (cc);
      counted = refl;
    }

    -- one role more
    pub kept_more : (count : ℕ) (old new : KeptRoles D) (restarted : Bool) (s : DurableState D) → count < length histories → AreKeptTo may_leave counts job histories count old → AddsRole restarted s old new → IsKeeper counts job count restarted s → s.store.entries ≡ history_at histories count → IsWrittenDisk may_leave counts s.store.entries s.disk → AreKeptTo may_leave counts job histories (count + 1) new
    kept_more count old new restarted s within kept adds keeper entries written = record {
      desks_count = ap length adds.desks ∙ length-append old.desks (adds.desk ∷ []) ∙ ap (λ n. n + 1) kept.desks_count;
      disks_count = ap length adds.disks ∙ length-append old.disks (s.disk ∷ []) ∙ ap (λ n. n + 1) kept.disks_count;
      desks_are = λ role d at. elim (item_push old.desks adds.desk role d (subst (λ (ds : List DeskState). slice_get ds role ≡ Some d) adds.desks at)) [
        | inl early ↦ kept.desks_are role d early
        | inr last ↦
            let here : role ≡ count = last.0 ∙ kept.desks_count in
            subst (λ (e : DeskState). IsEmptyDesk job role e) last.1 (record {
              belongs = record {
                protocol_is = ap (λ (u : StoreState). u.protocol) adds.store_is ∙ keeper.protocol_is;
                role_is = ap (λ (u : StoreState). u.role) adds.store_is ∙ keeper.role_is ∙ sym here;
              };
              empty = adds.empty;
            })
      ];
      histories_are =
          ap histories_of adds.desks
          ∙ map-append (λ (d : DeskState). d.store.entries) old.desks (adds.desk ∷ [])
          ∙ ap (λ (hs : List (List Entry)). hs ++ adds.desk.store.entries ∷ []) kept.histories_are
          ∙ ap (λ (h : List Entry). take count histories ++ h ∷ []) (ap (λ (u : StoreState). u.entries) adds.store_is ∙ entries)
          ∙ sym (take_more histories count [] within);
      written = λ role disk at. elim (item_push old.disks s.disk role disk (subst (λ (ds : List D). slice_get ds role ≡ Some disk) adds.disks at)) [
        | inl early ↦ kept.written role disk early
        | inr last ↦
            let here : role ≡ count = last.0 ∙ kept.disks_count in
            subst (λ (e : D). IsWrittenDisk may_leave counts (history_at histories role) e) last.1
            (subst (λ (h : List Entry). IsWrittenDisk may_leave counts h s.disk) (entries ∙ ap (history_at histories) (sym here)) written)
      ];
      counted = adds.restarts ∙ faulty_more restarted old.disks s.disk old.restarts keeper.counts_are kept.counted ∙ ap (λ (ds : List D). length (faulty counts ds)) (sym adds.disks);
    }

-- a filtered list is not longer
filter_short : {X : Type 0} (test : X → Bool) (xs : List X) → length (filter test xs) ≤ length xs
filter_short test [] = omega arith
filter_short test (x ∷ xs) = cond_both (test x) (x ∷ filter test xs) (filter test xs) (λ ys. length ys ≤ suc (length xs))
    (λ yes. omega (arith, filter_short test xs)) (λ no. omega (arith, filter_short test xs))

-- a role's history is that of its desk
pub history_is : (desks : List DeskState) (role : ℕ) (d : DeskState) → slice_get desks role ≡ Some d → history_at (histories_of desks) role ≡ d.store.entries
history_is desks role d at =
    get_or_from_slice_get (histories_of desks) role d.store.entries []
    (slice_get-map (λ (e : DeskState). e.store.entries) desks role ∙ ap (option_map (λ (e : DeskState). e.store.entries)) at)

-- few roles were restarted
pub restarts_few : {D : Type 0} (may_leave : D → List ℕ → Type 0) (counts : D → Counts) (job : Job) (histories : List (List Entry)) (count : ℕ) (old : KeptRoles D) → count < length job.protocol.roles → AreKeptTo may_leave counts job histories count old → old.restarts < role_limit
restarts_few {D} may_leave counts job histories count old few to =
    omega (arith, to.counted, filter_short (λ (d : D). nat_lt 0 (counts d).faults) old.disks, to.disks_count, few, job.protocol.shape.counts.few_roles)

module _ {D : Type 0} (seen : D → List ℕ) (may_leave : D → List ℕ → Type 0) (counts : D → Counts) (job : Job) (histories : List (List Entry)) (keepers first : List (Keeper D)) (k : Keeper D) (is : keepers ≡ first ++ k ∷ []) (whole : AreWhole seen may_leave counts job histories keepers) where
  -- there is one store more
  one_more : length keepers ≡ length first + 1
  one_more = ap length is ∙ length-append first (k ∷ [])

  -- the first stores have their whole histories
  early_at : (role : ℕ) (l : Keeper D) → slice_get first role ≡ Some l → slice_get keepers role ≡ Some l
  early_at role l at = subst (λ (ks : List (Keeper D)). slice_get ks role ≡ Some l) (sym is) (item_early first (k ∷ []) role l at)

  pub first_whole : AreWhole seen may_leave counts job histories first
  first_whole = record {
    keeper = λ role l at. whole.keeper role l (early_at role l at);
    sound = λ role l at. whole.sound role l (early_at role l at);
    entries = λ role l at. whole.entries role l (early_at role l at);
    from_steps = whole.from_steps;
  }

  -- the last one is kept after them
  pub last_kept : (old new : KeptRoles D) → length keepers ≤ length histories → AreKeptTo may_leave counts job histories (length first) old → AddsRole k.restarted k.store old new → AreKeptTo may_leave counts job histories (length keepers) new
  last_kept old new many to adds =
      let at : slice_get keepers (length first) ≡ Some k = subst (λ (ks : List (Keeper D)). slice_get ks (length first) ≡ Some k) (sym is) (item_last first k) in
      let keeper = whole.keeper (length first) k at in
      subst (λ (n : ℕ). AreKeptTo may_leave counts job histories n new) (sym one_more)
      (kept_more may_leave counts job histories (length first) old new k.restarted k.store (omega (arith, many, one_more)) to adds keeper (whole.entries (length first) k at)
      (kept_written seen may_leave (λ (e : D). 0) (λ (e : D) (t : ℕ) (c : List ℕ). Unit {0}) counts job (length first) k.restarted k.store keeper (whole.sound (length first) k at)))

-- a new store
pub new_keeper : {D : Type 0} (seen : D → List ℕ) (may_leave : D → List ℕ → Type 0) (counts : D → Counts) (job : Job) (role given : ℕ) (k : Keeper D) → HasKept seen counts job role [] given k.restarted k.store → IsSoundStore seen may_leave counts k.store → bytes_for job role ≤ given → IsNewKeeper seen may_leave counts job role k
new_keeper seen may_leave counts job role given k kept sound large = record {
  kept = record { keeper = kept.keeper; entries_are = kept.entries_are; size_is = refl };
  sound = sound;
  large = omega (arith, large, kept.size_is);
}

-- what the desks have may be kept by new stores
pub desks_may : {D : Type 0} (seen : D → List ℕ) (may_leave : D → List ℕ → Type 0) (counts : D → Counts) (job : Job) (desks : List DeskState) (keepers : List (Keeper D)) → AreKept job desks → KeptEventsAreFew → AreNewKeepers seen may_leave counts job (length job.protocol.roles) keepers → (role : ℕ) (k : Keeper D) → slice_get keepers role ≡ Some k → MayKeep job role (history_at (histories_of desks) role) (length (seen k.store.disk))
desks_may seen may_leave counts job desks keepers kept few new role k at =
    let found = at_index desks role (omega (arith, slice_get_within keepers role k at, new.count_is, kept.count)) in
    let size : ℕ = length (seen k.store.disk) in
    subst (λ (h : List Entry). MayKeep job role h size) (sym (history_is desks role found.0 found.1))
    (desk_may job role size size found.0 found.0.store refl (kept.each role found.0 found.1) few (new.each role k at).large refl)

-- one store fewer
pub one_fewer : {X : Type 0} (all first : List X) (x : X) (n : ℕ) → all ≡ first ++ x ∷ [] → length all ≤ n → length first ≤ n
one_fewer all first x n is few = omega (arith, few, ap length is, length-append first (x ∷ []))

-- and it is within
pub last_within : {X : Type 0} (all first : List X) (x : X) (n : ℕ) → all ≡ first ++ x ∷ [] → length all ≤ n → length first < n
last_within all first x n is few = omega (arith, few, ap length is, length-append first (x ∷ []))

-- there are as many histories as desks
pub few_histories : (desks : List DeskState) (n : ℕ) → n ≤ length desks → n ≤ length (histories_of desks)
few_histories desks n few = omega (arith, few, length-map desks (λ (e : DeskState). e.store.entries))

-- one new store more
pub new_more : {D : Type 0} (seen : D → List ℕ) (may_leave : D → List ℕ → Type 0) (counts : D → Counts) (job : Job) (count : ℕ) (old new : List (Keeper D)) (k : Keeper D) → AreNewKeepers seen may_leave counts job count old → new ≡ old ++ k ∷ [] → IsNewKeeper seen may_leave counts job count k → AreNewKeepers seen may_leave counts job (count + 1) new
new_more {D} seen may_leave counts job count old new k before is last = record {
  count_is = ap length is ∙ length-append old (k ∷ []) ∙ ap (λ n. n + 1) before.count_is;
  each = λ role l at. elim (item_push old k role l (subst (λ (ks : List (Keeper D)). slice_get ks role ≡ Some l) is at)) [
    | inl early ↦ before.each role l early
    | inr here ↦ subst (λ (m : Keeper D). IsNewKeeper seen may_leave counts job role m) here.1 (subst (λ (n : ℕ). IsNewKeeper seen may_leave counts job n k) (sym (here.0 ∙ before.count_is)) last)
  ];
}

-- all desks are of one protocol
pub of_one : {D : Type 0} (may_leave : D → List ℕ → Type 0) (counts : D → Counts) (job : Job) (histories : List (List Entry)) (count : ℕ) (kept : KeptRoles D) → count ≡ length job.protocol.roles → AreKeptTo may_leave counts job histories count kept → AreDesksOfOne kept.desks
of_one may_leave counts job histories count kept whole to = record {
  protocol = job.protocol;
  are = record { count = to.desks_count ∙ whole; each = λ role d at. (to.desks_are role d at).belongs };
}

-- what is finished stays so with desks of the same histories
finished_same : (job : Job) (old new : List DeskState) → histories_of old ≡ histories_of new → IsFinished job old → IsFinished job new
finished_same job old new same finished = record {
  local = subst (AreLocal job.protocol) same finished.local;
  explained = subst (AreExplained job.protocol) same finished.explained;
  run = finished.run;
  merged = subst (λ (hs : List (List Entry)). IsMerged hs finished.run) same finished.merged;
  played_out = record {
    run_is = subst (λ (hs : List (List Entry)). IsRunOf job.protocol hs finished.run) same finished.played_out.run_is;
    played = finished.played_out.played;
    settled = finished.played_out.settled;
  };
}

-- all roles are kept
pub all_kept : {D : Type 0} (may_leave : D → List ℕ → Type 0) (counts : D → Counts) (job : Job) (played : List DeskState) (kept : KeptRoles D) (world : WorldState) (count : ℕ) → count ≡ length job.protocol.roles → AreFromSteps job.protocol (histories_of played) → HaveRunWhole job played → IsFinished job played → AreKeptTo may_leave counts job (histories_of played) count kept → world.desks ≡ kept.desks → IsRestarted may_leave counts job world kept.restarts kept.disks
all_kept may_leave counts job played kept world count whole from course finished to desks_is =
    let as_many : length (histories_of played) ≡ count = length-map played (λ (d : DeskState). d.store.entries) ∙ course.kept.count ∙ sym whole in
    let kept_same : histories_of kept.desks ≡ histories_of played = to.histories_are ∙ take_all count (histories_of played) (omega (arith, as_many)) in
    let same : histories_of world.desks ≡ histories_of played = ap histories_of desks_is ∙ kept_same in
    let at_world : (role : ℕ) (d : DeskState) → slice_get world.desks role ≡ Some d → IsEmptyDesk job role d = λ role d at. to.desks_are role d (subst (λ (ds : List DeskState). slice_get ds role ≡ Some d) desks_is at) in
    record {
      desks = record {
        count = ap length desks_is ∙ to.desks_count ∙ whole;
        each = λ role d at. (at_world role d at).belongs;
      };
      finished = finished_same job played world.desks (sym same) finished;
      empty = λ k d within. (at_world k (slice_index_or world.desks k d) (slice_get-get_or world.desks k d within)).empty;
      course = record { played = played; course = course; same = same };
      from_steps = subst (AreFromSteps job.protocol) (sym same) from;
      written = record {
        count = to.disks_count ∙ sym as_many ∙ ap length (sym same);
        each = λ role disk at. subst (λ (hs : List (List Entry)). IsWrittenDisk may_leave counts (history_at hs role) disk) (sym same) (to.written role disk at);
      };
      counted = to.counted;
    }
