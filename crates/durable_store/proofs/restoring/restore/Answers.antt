-- The disk is left alone by each call, and its first alien place is one under the given keys.
use Rattle.std.proofs.Common.{◌≡◌, ℕ, ◌<◌, List, length, Option, ◌∙◌, subst, arith}
use Rattle.std.specs.Prelude.{MatchOption}
use Rattle.std.proofs.lemmas.Result.{err_from_is_err_and}
use Rattle.role_journal.specs.Journal.{places}
use Rattle.durable_store.specs.inner.Begun.{IsBegun, Stops}
use Rattle.durable_store.specs.inner.Gates.{AreClosed, IsFirstOpen}
use Rattle.durable_store.proofs.AloneLemmas.{alone_join, alone_once, settled_alone}
use Rattle.durable_store.proofs.BegunLemmas.{alien_late}
use Rattle.durable_store.proofs.RestoredLemmas.{restored}
use Rattle.durable_store.proofs.ServingLemmas.{first_for, refusal_for, serves}
use Rattle.durable_store.proofs.restoring.restore.Goals as goal

pub returns-in_err-restore_entries-clause-alone : goal.returns-in_err-restore_entries-clause-alone
returns-in_err-restore_entries-clause-alone g c =
    let d = g.D.Disk in
    alone_join d.seen d.may_leave d.clock d.left_since c.args.disk.now c.synced_places.new.disk c.restore_entries.new.disk
    (alone_once d.seen d.may_leave d.clock d.left_since c.args.disk.now c.synced_places.new.disk c.synced_places.ensures.stays) c.restore_entries.ensures.alone

pub returns-in_err-restore_entries-clause-refused : goal.returns-in_err-restore_entries-clause-refused
returns-in_err-restore_entries-clause-refused g c =
    let d = g.D.Disk in
    let s = c.restore_entries.new.store in
    let serving = serves c.args.a.now c.args.role c.in_ok-count.count c.args.keys.now c.in_ok-store.store s c.in_ok-store.ensures c.restore_entries.ensures.same in
    let p = err_from_is_err_and c.from_residual-in_err-restore_entries.result c.from_residual-in_err-restore_entries.ensures.1 in
    rw (p.1, p.2)
    (refusal_for c.args.a.now c.args.role c.args.keys.now s serving (d.seen c.args.disk.now) (d.seen c.synced_places.new.disk) (d.counts c.args.disk.now) (d.counts c.synced_places.new.disk) (d.counts c.restore_entries.new.disk) _
    c.synced_places.ensures.stays.same c.in_ok-count.ensures.outcome c.in_err-restore_entries.ensures.refused)

pub returns-in_err-place-clause-alone : goal.returns-in_err-place-clause-alone
returns-in_err-place-clause-alone g c =
    let d = g.D.Disk in
    alone_join d.seen d.may_leave d.clock d.left_since c.args.disk.now c.restore_entries.new.disk c.first_open.new.disk
    (alone_join d.seen d.may_leave d.clock d.left_since c.args.disk.now c.synced_places.new.disk c.restore_entries.new.disk
    (alone_once d.seen d.may_leave d.clock d.left_since c.args.disk.now c.synced_places.new.disk c.synced_places.ensures.stays) c.restore_entries.ensures.alone)
    c.first_open.ensures.alone

pub returns-in-Some-clause-alone : goal.returns-in-Some-clause-alone
returns-in-Some-clause-alone g c =
    let d = g.D.Disk in
    alone_join d.seen d.may_leave d.clock d.left_since c.args.disk.now c.restore_entries.new.disk c.first_open.new.disk
    (alone_join d.seen d.may_leave d.clock d.left_since c.args.disk.now c.synced_places.new.disk c.restore_entries.new.disk
    (alone_once d.seen d.may_leave d.clock d.left_since c.args.disk.now c.synced_places.new.disk c.synced_places.ensures.stays) c.restore_entries.ensures.alone)
    c.first_open.ensures.alone

pub returns-clause-alone : goal.returns-clause-alone
returns-clause-alone g c =
    let d = g.D.Disk in
    alone_join d.seen d.may_leave d.clock d.left_since c.args.disk.now c.restore_entries.new.disk c.first_open.new.disk
    (alone_join d.seen d.may_leave d.clock d.left_since c.args.disk.now c.synced_places.new.disk c.restore_entries.new.disk
    (alone_once d.seen d.may_leave d.clock d.left_since c.args.disk.now c.synced_places.new.disk c.synced_places.ensures.stays) c.restore_entries.ensures.alone)
    c.first_open.ensures.alone

pub returns-in-Some-clause-refused : goal.returns-in-Some-clause-refused
returns-in-Some-clause-refused g c =
    let d = g.D.Disk in
    let s = c.restore_entries.new.store in
    let image : List ℕ = d.seen c.args.disk.now in
    let place = c.in-Some.place in
    let count = c.in_ok-count.count in
    let from = c.saturating_add.result in
    let read : d.seen c.restore_entries.new.disk ≡ image = c.restore_entries.ensures.alone.same ∙ c.synced_places.ensures.stays.same in
    let serving = serves c.args.a.now c.args.role count c.args.keys.now c.in_ok-store.store s c.in_ok-store.ensures c.restore_entries.ensures.same in
    let many : count ≡ places (length image) = c.in_ok-count.ensures.count in
    let found : IsFirstOpen (d.seen c.restore_entries.new.disk) from count place =
    subst (λ (o : Option ℕ). MatchOption o (AreClosed (d.seen c.restore_entries.new.disk) from count) (IsFirstOpen (d.seen c.restore_entries.new.disk) from count)) c.in-Some.is c.in_ok-place.ensures.place in
    let late : IsFirstOpen image from (places (length image)) place = subst (λ (n : ℕ). IsFirstOpen image from n place) many (subst (λ (i : List ℕ). IsFirstOpen i from count place) read found) in
    let begun : IsBegun image s = subst (λ (i : List ℕ). IsBegun i s) c.synced_places.ensures.stays.same c.restore_entries.ensures.begun in
    let stops : Stops image s = subst (λ (i : List ℕ). Stops i s) c.synced_places.ensures.stays.same c.in_ok-restore_entries.ensures.stops in
    let small : length s.entries < from = omega (arith, c.saturating_add.ensures, c.len.ensures.count, many, late.late, late.within, begun.begins.few) in (
      first_for c.args.a.now c.args.role c.args.keys.now s serving image place
          (alien_late c.begun_are_native.ensures image s from place c.len.ensures.consistent.admitted begun stops small (omega (arith, c.saturating_add.ensures, c.len.ensures.count)) late),
      c.in_ok-place.ensures.still ∙ c.in_ok-restore_entries.ensures.still ∙ c.in_ok-count.ensures.outcome,
    )

pub returns-clause-settled : goal.returns-clause-settled
returns-clause-settled g c =
    let d = g.D.Disk in
    settled_alone d.seen d.may_leave d.clock d.left_since c.synced_places.new.disk c.first_open.new.disk c.in_ok-count.ensures.durable
    (alone_join d.seen d.may_leave d.clock d.left_since c.synced_places.new.disk c.restore_entries.new.disk c.first_open.new.disk c.restore_entries.ensures.alone c.first_open.ensures.alone)

pub returns-clause-ok : goal.returns-clause-ok
returns-clause-ok g c =
    let d = g.D.Disk in
    let s = c.restore_entries.new.store in
    let image : List ℕ = d.seen c.args.disk.now in
    let count = c.in_ok-count.count in
    let from = c.saturating_add.result in
    let read : d.seen c.restore_entries.new.disk ≡ image = c.restore_entries.ensures.alone.same ∙ c.synced_places.ensures.stays.same in
    let serving = serves c.args.a.now c.args.role count c.args.keys.now c.in_ok-store.store s c.in_ok-store.ensures c.restore_entries.ensures.same in
    let many : count ≡ places (length image) = c.in_ok-count.ensures.count in
    let found : AreClosed (d.seen c.restore_entries.new.disk) from count =
    subst (λ (o : Option ℕ). MatchOption o (AreClosed (d.seen c.restore_entries.new.disk) from count) (IsFirstOpen (d.seen c.restore_entries.new.disk) from count)) c.in_default.is c.in_ok-place.ensures.place in
    let late : AreClosed image from (places (length image)) = subst (λ (n : ℕ). AreClosed image from n) many (subst (λ (i : List ℕ). AreClosed i from count) read found) in
    let begun : IsBegun image s = subst (λ (i : List ℕ). IsBegun i s) c.synced_places.ensures.stays.same c.restore_entries.ensures.begun in
    let stops : Stops image s = subst (λ (i : List ℕ). Stops i s) c.synced_places.ensures.stays.same c.in_ok-restore_entries.ensures.stops in
    restored image s stops from (omega (arith, c.saturating_add.ensures, c.len.ensures.count)) late c.begun_are_native.ensures c.bodies_are_whole.ensures c.args.a.now c.args.role c.args.keys.now serving c.len.ensures.consistent.admitted begun
