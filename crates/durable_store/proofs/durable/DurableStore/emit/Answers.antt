-- The emission leaves the history local, and the journal has it first.
use Rattle.std.proofs.Common.{◌≡◌, ◌++◌, ◌∷◌, [], ap, subst, sym, refl}
use Rattle.bspl_types.specs.Knowledge.{CanEmit}
use Rattle.local_store.specs.Consistent.{IsConsistent}
use Rattle.local_store.specs.Emission.{IsEmission}
use Rattle.local_store.specs.State.{StoreState, acts_of}
use Rattle.stamped_history.specs.declared.entry.Entry.{Entry}
use Rattle.stamped_history.specs.Local.{IsLocal}
use Rattle.durable_store.specs.State.{DurableState}
use Rattle.durable_store.proofs.durable.DurableStore.emit.Goals as goal

pub append_next-requires-clause-local : goal.append_next-requires-clause-local
append_next-requires-clause-local g c =
    let X : Type 0 = g.row.D.Denot in
    let is : c.self.inside.store ≡ c.args.self.now.store = ap (λ (u : DurableState X). u.store) c.self.view_is in
    let s = c.args.self.now.store in
    let key = c.args.key.now in
    let consistent : IsConsistent s = subst IsConsistent is c.is_consistent.ensures in
    let can : CanEmit s.protocol (acts_of s) c.args.message key = subst (λ (u : StoreState). CanEmit u.protocol (acts_of u) c.args.message key) is (c.in_ok-blocked.ensures.exact.0 refl) in
    let emission : IsEmission s c.args.message key c.args.outs.now c.plan-m.result = subst (λ (u : StoreState). IsEmission u c.args.message key c.args.outs.now c.plan-m.result) is c.plan-m.ensures in
    subst (λ (e : Entry). IsLocal s.protocol s.role (s.entries ++ e ∷ [])) (sym c.entry_of-entry.ensures)
    (c.next_stays_local.ensures.emission s c.plan-m.result c.args.message key c.args.outs.now consistent can c.requires.own emission)
