-- The journal has the entry, or it may have it; the store is sound either way.
use Rattle.std.proofs.Common.{◌++◌, ◌∷◌, [], ap, ◌∙◌, subst, sym, refl, true, false, Contains}
use Rattle.std.specs.Prelude.{is_err}
use Rattle.std.proofs.lemmas.Result.{err_from_is_err_and}
use Rattle.bspl_types.specs.History.{instance_of}
use Rattle.local_store.specs.State.{StoreState}
use Rattle.stamped_history.specs.Local.{IsLocal}
use Rattle.role_journal.specs.Journal.{KeepsJournal}
use Rattle.durable_store.specs.Calls.{Acknowledged, BecomesSpent, Ends, HasRoom, HasWritten, appended_as}
use Rattle.durable_store.specs.State.{DurableState}
use Rattle.durable_store.proofs.AppendedLemmas.{IsAppending, IsNextEntry, cut_ends, cut_is_sound, done_ends, done_is_sound}
use Rattle.durable_store.proofs.durable.DurableStore.append_next.Goals as goal

pub invariant_of-self : goal.invariant_of-self
invariant_of-self g c =
    let X : Type 0 = g.row.D.Denot in
    let seen = g.D.Disk.seen in let may = g.D.Disk.may_leave in let clock = g.D.Disk.clock in let since = g.D.Disk.left_since in let counts = g.D.Disk.counts in
    let e = c.args.entry.now in
    let s : DurableState X = record { store = c.self.inside.store; disk = c.self.inside.disk; spent = c.self.inside.spent } in
    let t : DurableState X = record { store = c.self.inside.store; disk = c.append.new.disk; spent = true } in
    let next : IsNextEntry s.store e = record {
      local = subst (λ (u : DurableState X). IsLocal u.store.protocol u.store.role (u.store.entries ++ e ∷ [])) (sym c.self.view_is) c.requires.local;
      held = subst (λ (u : DurableState X). Contains u.store.keys (instance_of e.event).key) (sym c.self.view_is) c.requires.held;
      sized = c.append.ensures.sized;
    } in
    let appending : IsAppending seen may clock since counts s e t.disk = record {
      sound = c.self.invariant;
      room = subst (λ (u : DurableState X). HasRoom u) (sym c.self.view_is) c.requires.room;
      next = next;
      crash = λ entries same. c.append.ensures.any_moment entries (c.len.ensures.count ∙ same);
      tail = c.append.ensures.tail;
    } in
    let cut : BecomesSpent s t = record { store = refl; spent = refl } in
    cut_is_sound seen may clock since counts s t e (g.met.D.Disk.counts_now t.disk) appending cut

pub returns-in_err-append-clause-ends : goal.returns-in_err-append-clause-ends
returns-in_err-append-clause-ends g c =
    let X : Type 0 = g.row.D.Denot in
    let seen = g.D.Disk.seen in let may = g.D.Disk.may_leave in let clock = g.D.Disk.clock in let since = g.D.Disk.left_since in let counts = g.D.Disk.counts in
    let e = c.args.entry.now in
    let s : DurableState X = record { store = c.self.inside.store; disk = c.self.inside.disk; spent = c.self.inside.spent } in
    let t : DurableState X = record { store = c.self.inside.store; disk = c.append.new.disk; spent = true } in
    let next : IsNextEntry s.store e = record {
      local = subst (λ (u : DurableState X). IsLocal u.store.protocol u.store.role (u.store.entries ++ e ∷ [])) (sym c.self.view_is) c.requires.local;
      held = subst (λ (u : DurableState X). Contains u.store.keys (instance_of e.event).key) (sym c.self.view_is) c.requires.held;
      sized = c.append.ensures.sized;
    } in
    let appending : IsAppending seen may clock since counts s e t.disk = record {
      sound = c.self.invariant;
      room = subst (λ (u : DurableState X). HasRoom u) (sym c.self.view_is) c.requires.room;
      next = next;
      crash = λ entries same. c.append.ensures.any_moment entries (c.len.ensures.count ∙ same);
      tail = c.append.ensures.tail;
    } in
    let cut : BecomesSpent s t = record { store = refl; spent = refl } in
    let failed = err_from_is_err_and c.from_residual.result c.from_residual.ensures.1 in
    subst (λ (u : DurableState X). Ends seen may clock since (appended_as c.from_residual.result e) u t) c.self.view_is
    (cut_ends seen may clock since counts c.from_residual.result s t e (ap is_err failed.1) appending cut)

pub invariant_of-self-2 : goal.invariant_of-self-2
invariant_of-self-2 g c =
    let X : Type 0 = g.row.D.Denot in
    let seen = g.D.Disk.seen in let may = g.D.Disk.may_leave in let clock = g.D.Disk.clock in let since = g.D.Disk.left_since in let counts = g.D.Disk.counts in
    let e = c.args.entry.now in
    let s : DurableState X = record { store = c.self.inside.store; disk = c.self.inside.disk; spent = c.self.inside.spent } in
    let t : DurableState X = record { store = c.add_entry.new.self; disk = c.append.new.disk; spent = false } in
    let next : IsNextEntry s.store e = record {
      local = subst (λ (u : DurableState X). IsLocal u.store.protocol u.store.role (u.store.entries ++ e ∷ [])) (sym c.self.view_is) c.requires.local;
      held = subst (λ (u : DurableState X). Contains u.store.keys (instance_of e.event).key) (sym c.self.view_is) c.requires.held;
      sized = c.append.ensures.sized;
    } in
    let appending : IsAppending seen may clock since counts s e t.disk = record {
      sound = c.self.invariant;
      room = subst (λ (u : DurableState X). HasRoom u) (sym c.self.view_is) c.requires.room;
      next = next;
      crash = λ entries same. c.append.ensures.any_moment entries (c.len.ensures.count ∙ same);
      tail = c.append.ensures.tail;
    } in
    let written : HasWritten seen may e s t = record {
      store = c.add_entry.ensures;
      unspent = refl;
      keeps = subst (λ (u : StoreState). KeepsJournal seen may t.disk u.entries) (sym c.add_entry.ensures) (c.in_ok-append.ensures.ok s.store.entries c.len.ensures.count (appending.sound.ready appending.room.unspent).keeps);
    } in
    done_is_sound seen may clock since counts s t e appending written (c.in_ok-append.ensures.costs.still (λ failed. absurd (cc)))

pub returns-clause-ends : goal.returns-clause-ends
returns-clause-ends g c =
    let X : Type 0 = g.row.D.Denot in
    let seen = g.D.Disk.seen in let may = g.D.Disk.may_leave in let clock = g.D.Disk.clock in let since = g.D.Disk.left_since in let counts = g.D.Disk.counts in
    let e = c.args.entry.now in
    let s : DurableState X = record { store = c.self.inside.store; disk = c.self.inside.disk; spent = c.self.inside.spent } in
    let t : DurableState X = record { store = c.add_entry.new.self; disk = c.append.new.disk; spent = false } in
    let next : IsNextEntry s.store e = record {
      local = subst (λ (u : DurableState X). IsLocal u.store.protocol u.store.role (u.store.entries ++ e ∷ [])) (sym c.self.view_is) c.requires.local;
      held = subst (λ (u : DurableState X). Contains u.store.keys (instance_of e.event).key) (sym c.self.view_is) c.requires.held;
      sized = c.append.ensures.sized;
    } in
    let appending : IsAppending seen may clock since counts s e t.disk = record {
      sound = c.self.invariant;
      room = subst (λ (u : DurableState X). HasRoom u) (sym c.self.view_is) c.requires.room;
      next = next;
      crash = λ entries same. c.append.ensures.any_moment entries (c.len.ensures.count ∙ same);
      tail = c.append.ensures.tail;
    } in
    let written : HasWritten seen may e s t = record {
      store = c.add_entry.ensures;
      unspent = refl;
      keeps = subst (λ (u : StoreState). KeepsJournal seen may t.disk u.entries) (sym c.add_entry.ensures) (c.in_ok-append.ensures.ok s.store.entries c.len.ensures.count (appending.sound.ready appending.room.unspent).keeps);
    } in
    subst (λ (u : DurableState X). Ends seen may clock since (Acknowledged e) u t) c.self.view_is (done_ends seen may clock since counts s t e appending written)
