-- The store is started on what the disk kept, or stays spent.
use Rattle.std.proofs.Common.{◌≡◌, ℕ, ◌<◌, true, false, List, sym, ap, ◌∙◌, subst}
use Rattle.bspl_io.specs.Faults.{last_count}
use Rattle.role_journal.specs.Counts.{Counts, after_restart}
use Rattle.durable_store.specs.declared.refusals.StartRefusal.{StartRefusal}
use Rattle.durable_store.specs.Restart.{IsStartedAgain}
use Rattle.durable_store.specs.Start.{IsStartRefusal}
use Rattle.durable_store.specs.State.{DurableState}
use Rattle.durable_store.proofs.RestartLemmas.{again_is_sound, alien_for, is_started_again, kept_is_native, restored_for}
use Rattle.durable_store.proofs.durable.DurableStore.restart.Goals as goal

pub invariant_of-self : goal.invariant_of-self
invariant_of-self g c =
    let X : Type 0 = g.row.D.Denot in
    let d = g.D.Disk in
    let s0 : DurableState X = record { store = c.self.inside.store; disk = c.self.inside.disk; spent = c.self.inside.spent } in
    let mid = c.restart.new.self in
    let new = c.restore.new.disk in
    let spent : s0.spent ≡ true = ap (λ (u : DurableState X). u.spent) c.self.view_is ∙ c.requires.spent in
    let keys : c.args.keys.now ≡ s0.store.keys = c.requires.keys ∙ sym (ap (λ (u : DurableState X). u.store.keys) c.self.view_is) in
    let s = c.in-Ok.store in
    let restored = restored_for c.admitted.result.now s0.store.protocol c.role.result s0.store.role c.args.keys.now s0.store.keys (d.seen mid) s c.admitted.ensures c.role.ensures keys c.in-Ok.ensures.ok in
    let countable : (d.counts s0.disk).faults < last_count = subst (λ (u : DurableState X). (d.counts u.disk).faults < last_count) (sym c.self.view_is) c.requires.countable in
    let still : d.counts new ≡ after_restart (d.counts s0.disk) = c.in-Ok.ensures.still ∙ c.restart.ensures.counts in
    again_is_sound d.seen d.may_leave d.counts s0 mid new c.restart.ensures.image c.restart.ensures.settled c.restore.ensures.alone.crash c.self.invariant spent s c.restore.ensures.alone.same restored c.in-Ok.ensures.settled (subst (λ (n : Counts). n.faults < last_count) (sym still) countable)

pub unreachable-requires : goal.unreachable-requires
unreachable-requires g c =
    let X : Type 0 = g.row.D.Denot in
    let d = g.D.Disk in
    let s0 : DurableState X = record { store = c.self.inside.store; disk = c.self.inside.disk; spent = c.self.inside.spent } in
    let mid = c.restart.new.self in
    let new = c.restore.new.disk in
    let spent : s0.spent ≡ true = ap (λ (u : DurableState X). u.spent) c.self.view_is ∙ c.requires.spent in
    let keys : c.args.keys.now ≡ s0.store.keys = c.requires.keys ∙ sym (ap (λ (u : DurableState X). u.store.keys) c.self.view_is) in
    let place = c.in-Err-Alien.field-0-0 in
    let refused = subst (λ (r : StartRefusal). IsStartRefusal c.admitted.result.now c.role.result c.args.keys.now (d.seen mid) (d.counts mid) (d.counts new) r) c.in-Err-Alien.field-0-is c.in-Err-Alien.ensures.refused in
    kept_is_native d.seen d.may_leave d.counts s0 mid new c.restart.ensures.image c.restart.ensures.settled c.restore.ensures.alone.crash c.self.invariant spent c.histories_are_native.ensures c.is_consistent.ensures.admitted place
    (alien_for c.admitted.result.now s0.store.protocol c.role.result s0.store.role c.args.keys.now s0.store.keys (d.seen mid) place c.admitted.ensures c.role.ensures keys refused.0.alien)

pub returns-in-Ok-clause-ok : goal.returns-in-Ok-clause-ok
returns-in-Ok-clause-ok g c =
    let X : Type 0 = g.row.D.Denot in
    let d = g.D.Disk in
    let s0 : DurableState X = record { store = c.self.inside.store; disk = c.self.inside.disk; spent = c.self.inside.spent } in
    let mid = c.restart.new.self in
    let new = c.restore.new.disk in
    let spent : s0.spent ≡ true = ap (λ (u : DurableState X). u.spent) c.self.view_is ∙ c.requires.spent in
    let keys : c.args.keys.now ≡ s0.store.keys = c.requires.keys ∙ sym (ap (λ (u : DurableState X). u.store.keys) c.self.view_is) in
    let s = c.in-Ok.store in
    let restored = restored_for c.admitted.result.now s0.store.protocol c.role.result s0.store.role c.args.keys.now s0.store.keys (d.seen mid) s c.admitted.ensures c.role.ensures keys c.in-Ok.ensures.ok in
    let countable : (d.counts s0.disk).faults < last_count = subst (λ (u : DurableState X). (d.counts u.disk).faults < last_count) (sym c.self.view_is) c.requires.countable in
    let still : d.counts new ≡ after_restart (d.counts s0.disk) = c.in-Ok.ensures.still ∙ c.restart.ensures.counts in
    subst (λ (u : DurableState X). IsStartedAgain d.seen d.may_leave d.counts u (record { store = s; disk = new; spent = false })) c.self.view_is
    (is_started_again d.seen d.may_leave d.counts s0 mid new c.restart.ensures.image c.restart.ensures.settled c.restore.ensures.alone.crash c.self.invariant spent s c.restore.ensures.alone.same restored c.in-Ok.ensures.settled (subst (λ (n : Counts). n.faults < last_count) (sym still) countable) c.journals_are_one.ensures c.is_consistent.ensures.admitted c.is_consistent.ensures.keys.distinct c.restart.ensures.size)
