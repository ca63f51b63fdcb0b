-- A fresh receipt leaves the history local, and the journal has it first.
use Rattle.std.proofs.Common.{◌≡◌, ◌+◌, ◌<◌, ◌++◌, ◌∷◌, [], max, ap, ◌∙◌, subst, sym, arith}
use Rattle.std.specs.Prelude.{Err}
use Rattle.local_store.specs.declared.receipt.Receipt.TheVariants.{Fresh}
use Rattle.local_store.specs.Consistent.{IsConsistent}
use Rattle.local_store.specs.Reception.{IsForeseen}
use Rattle.local_store.specs.State.{StoreState, with_entry}
use Rattle.stamped_history.specs.declared.entry.Entry.{Entry}
use Rattle.stamped_history.specs.Entries.{last_stamp}
use Rattle.stamped_history.specs.Local.{IsLocal}
use Rattle.durable_store.specs.Reception.{receipt_entry}
use Rattle.durable_store.specs.State.{DurableState}
use Rattle.durable_store.proofs.ReceiptLemmas.{receipt_cut, receipt_done}
use Rattle.durable_store.proofs.durable.DurableStore.receive.Goals as goal

pub append_next-requires-clause-local : goal.append_next-requires-clause-local
append_next-requires-clause-local g c =
    let X : Type 0 = g.row.D.Denot in
    let is : c.self.inside.store ≡ c.args.self.now.store = ap (λ (u : DurableState X). u.store) c.self.view_is in
    let s = c.args.self.now.store in
    let m = c.args.m.now in
    let consistent : IsConsistent s = subst IsConsistent is c.is_consistent.ensures in
    let fresh : IsForeseen s m Fresh = subst (λ (u : StoreState). IsForeseen u m Fresh) is c.in-Fresh.ensures in
    let later : last_stamp s.entries < max (last_stamp s.entries) m.stamp + 1 = omega arith in
    subst (λ (e : Entry). IsLocal s.protocol s.role (s.entries ++ e ∷ [])) (sym (c.entry_of-entry.ensures ∙ ap (λ (u : StoreState). receipt_entry u m) is))
    (c.next_stays_local.ensures.receipt s m (max (last_stamp s.entries) m.stamp + 1) consistent c.requires.fits c.requires.own fresh.0 fresh.1 later)

pub returns-in_err-append_next-in-Fresh-clause-ends : goal.returns-in_err-append_next-in-Fresh-clause-ends
returns-in_err-append_next-in-Fresh-clause-ends g c =
    let X : Type 0 = g.row.D.Denot in
    let is : c.self.inside.store ≡ c.args.self.now.store = ap (λ (u : DurableState X). u.store) c.self.view_is in
    let m = c.args.m.now in
    let fresh : IsForeseen c.args.self.now.store m Fresh = subst (λ (u : StoreState). IsForeseen u m Fresh) is c.in-Fresh.ensures in
    receipt_cut g.D.Disk.seen g.D.Disk.may_leave g.D.Disk.clock g.D.Disk.left_since (g.D.Disk.may_lack c.append_next.new.self.disk) c.args.self.now c.append_next.new.self m c.entry_of-entry.result c.from_residual.result _ c.from_residual.ensures.1 (λ is. c.in_err-append_next-in-Fresh.ensures.memory (ap Err is)) fresh
    (c.entry_of-entry.ensures ∙ ap (λ (u : StoreState). receipt_entry u m) is) c.in_err-append_next-in-Fresh.ensures.ends

pub returns-in_ok-append_next-in-Fresh-clause-ends : goal.returns-in_ok-append_next-in-Fresh-clause-ends
returns-in_ok-append_next-in-Fresh-clause-ends g c =
    let X : Type 0 = g.row.D.Denot in
    let is : c.self.inside.store ≡ c.args.self.now.store = ap (λ (u : DurableState X). u.store) c.self.view_is in
    let m = c.args.m.now in
    let fresh : IsForeseen c.args.self.now.store m Fresh = subst (λ (u : StoreState). IsForeseen u m Fresh) is c.in-Fresh.ensures in
    receipt_done g.D.Disk.seen g.D.Disk.may_leave g.D.Disk.clock g.D.Disk.left_since (g.D.Disk.may_lack c.append_next.new.self.disk) c.args.self.now c.append_next.new.self m c.entry_of-entry.result fresh
    (c.entry_of-entry.ensures ∙ ap (λ (u : StoreState). receipt_entry u m) is) c.in_ok-append_next-in-Fresh.ensures.ends

pub returns-in_ok-append_next-in-Fresh-clause-ok : goal.returns-in_ok-append_next-in-Fresh-clause-ok
returns-in_ok-append_next-in-Fresh-clause-ok g c =
    let X : Type 0 = g.row.D.Denot in
    let is : c.self.inside.store ≡ c.args.self.now.store = ap (λ (u : DurableState X). u.store) c.self.view_is in
    let s = c.args.self.now.store in
    let m = c.args.m.now in
    let fresh : IsForeseen s m Fresh = subst (λ (u : StoreState). IsForeseen u m Fresh) is c.in-Fresh.ensures in
    let entry : c.entry_of-entry.result ≡ receipt_entry s m = c.entry_of-entry.ensures ∙ ap (λ (u : StoreState). receipt_entry u m) is in
    (fresh.0, fresh.1, c.in_ok-append_next-in-Fresh.ensures.ends.1.store ∙ ap (λ (e : Entry). with_entry s e.event e.stamp e.number) entry)
