-- The role's next entry is kept if it is due.
use Rattle.std.proofs.Common.{◌≡◌, ℕ, Some, List, length, ap, ◌∙◌, subst, sym, arith}
use Rattle.std.specs.Prelude.{slice_get, Result, Ok, Err, OnErr}
use Rattle.std.proofs.lemmas.Option.{same_Some}
use Rattle.std.proofs.lemmas.List.{length-map}
use Rattle.adapter.specs.Desk.{DeskState}
use Rattle.durable_store.specs.State.{IsSoundStore}
use Rattle.local_store.specs.State.{StoreState}
use Rattle.stamped_history.specs.declared.entry.Entry.{Entry}
use Rattle.stamped_history.specs.Explained.{history_at}
use Rattle.world_run.specs.World.{histories_of}
use Rattle.restart_run.specs.declared.keeper.Keeper.{Keeper}
use Rattle.restart_run.specs.inner.Midway.{IsDue}
use Rattle.restart_run.proofs.MidwayLemmas.{behind_may, cut_one_world, midway_more, set_found}
use Rattle.restart_run.proofs.RoleLemmas.{history_is}
use Rattle.restart_run.proofs.StampLemmas.{all_rise}
use Rattle.restart_run.proofs.kept_world.keep_due.Goals as goal

-- what holds if it is Err, or not
on_err : {T E : Type 0} (r : Result T E) (P : Type 0) → P → OnErr r P
on_err (Ok x) P p = tt
on_err (Err e) P p = p

-- what is due in the desk's store is due in its history, for the store that is behind
due_at : {D : Type 0} (desks : List DeskState) (keepers : List (Keeper D)) (role index stamp : ℕ) (d : DeskState) (k0 k : Keeper D) (mine theirs : StoreState) (e : Entry) → slice_get desks role ≡ Some d → slice_get keepers role ≡ Some k0 → slice_get keepers role ≡ Some k → mine ≡ k0.store.store → theirs ≡ d.store → index ≡ length mine.entries → IsDue theirs.entries index stamp e → IsDue (history_at (histories_of desks) role) (length k.store.store.entries) stamp e
due_at {D} desks keepers role index stamp d k0 k mine theirs e at_d at_0 at mine_is theirs_is count due =
    let one : k0 ≡ k = same_Some k0 k (sym at_0 ∙ at) in
    let n : index ≡ length k.store.store.entries = count ∙ ap (λ (s : StoreState). length s.entries) mine_is ∙ ap (λ (l : Keeper D). length l.store.store.entries) one in
    let h : theirs.entries ≡ history_at (histories_of desks) role = ap (λ (s : StoreState). s.entries) theirs_is ∙ sym (history_is desks role d at_d) in
    record {
      at = ap (λ (es : List Entry). slice_get es (length k.store.store.entries)) (sym h) ∙ ap (λ (m : ℕ). slice_get theirs.entries m) (sym n) ∙ due.at;
      stamp_is = due.stamp_is;
    }

pub state-requires : goal.state-requires
state-requires g c =
    omega (arith, c.requires.role, c.requires.midway.behind.count, c.requires.local.count, length-map c.args.world.now.desks (λ (d : DeskState). d.store.entries))

pub keep_next-requires-clause-keeper : goal.keep_next-requires-clause-keeper
keep_next-requires-clause-keeper g c = (c.requires.midway.behind.each c.args.role c.at_mut.result.now c.at_mut.ensures.item).keeper

pub keep_next-requires-clause-next : goal.keep_next-requires-clause-next
keep_next-requires-clause-next g c =
    let d = g.D.Disk in
    let job = c.args.job.now in
    let desks : List DeskState = c.args.world.now.desks in
    let role : ℕ = c.args.role in
    let k = c.at_mut.result.now in
    let e = c.in-Some.entry in
    let at = c.at_mut.ensures.item in
    let due : IsDue (history_at (histories_of desks) role) (length k.store.store.entries) c.args.stamp e =
    due_at desks c.args.keepers.now role c.len-index.result c.args.stamp c.state.result.now c.at.result.now k c.store.result.now c.store-2.result.now e c.state.ensures.desk c.at.ensures at c.store.ensures c.store-2.ensures c.len-index.ensures.count c.in-Some.ensures in
    behind_may d.seen d.may_leave d.counts job (histories_of desks) role k e (c.requires.midway.behind.each role k at) due.at

pub returns-in_err-keep_next-clause-one_world : goal.returns-in_err-keep_next-clause-one_world
returns-in_err-keep_next-clause-one_world g c =
    let d = g.D.Disk in
    let job = c.args.job.now in
    let desks : List DeskState = c.args.world.now.desks in
    let role : ℕ = c.args.role in
    let k = c.at_mut.result.now in
    let e = c.in-Some.entry in
    let at = c.at_mut.ensures.item in
    let due : IsDue (history_at (histories_of desks) role) (length k.store.store.entries) c.args.stamp e =
    due_at desks c.args.keepers.now role c.len-index.result c.args.stamp c.state.result.now c.at.result.now k c.store.result.now c.store-2.result.now e c.state.ensures.desk c.at.ensures at c.store.ensures c.store-2.ensures c.len-index.ensures.count c.in-Some.ensures in
    on_err c.from_residual.result _
    (cut_one_world d.seen d.may_leave d.counts job (histories_of desks) (all_rise job.protocol (histories_of desks) c.local_stamps_rise.ensures c.requires.local) c.requires.explained c.requires.local.count c.args.stamp c.args.keepers.now role k c.keep_next.new.keeper e c.requires.midway at due.at due.stamp_is c.in_err-keep_next.ensures.cut)

pub returns-clause-ok : goal.returns-clause-ok
returns-clause-ok g c =
    let d = g.D.Disk in
    let job = c.args.job.now in
    let desks : List DeskState = c.args.world.now.desks in
    let role : ℕ = c.args.role in
    let k = c.at_mut.result.now in
    let e = c.in-Some.entry in
    let at = c.at_mut.ensures.item in
    let due : IsDue (history_at (histories_of desks) role) (length k.store.store.entries) c.args.stamp e =
    due_at desks c.args.keepers.now role c.len-index.result c.args.stamp c.state.result.now c.at.result.now k c.store.result.now c.store-2.result.now e c.state.ensures.desk c.at.ensures at c.store.ensures c.store-2.ensures c.len-index.ensures.count c.in-Some.ensures in
    let new = c.keep_next.new.keeper in
    let same : new ≡ c.at-2.result.now = set_found c.args.keepers.now role k new c.at-2.result.now at c.at-2.ensures in
    midway_more d.seen d.may_leave d.counts job (histories_of desks) (all_rise job.protocol (histories_of desks) c.local_stamps_rise.ensures c.requires.local) c.requires.explained c.requires.local.count c.args.stamp c.args.keepers.now role k new e c.requires.midway at due.at due.stamp_is c.in_ok-keep_next.ensures.ok
    (subst (λ (l : Keeper g.row.D.Denot). IsSoundStore d.seen d.may_leave d.counts l.store) (sym same) c.is_sound.ensures)
