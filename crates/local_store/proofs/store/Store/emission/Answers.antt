-- What the row's cells and the key give is an emission.
use Rattle.std.proofs.Common.{◌∙◌, ◌+◌, ℕ, [], ap, subst, sym}
use Rattle.std.proofs.lemmas.Option.{get_or_from_slice_get, slice_get_within}
use Rattle.list_base.proofs.Membership.{member_at}
use Rattle.bspl_types.specs.declared.expanded.Expanded.{Expanded}
use Rattle.local_store.specs.State.{StoreState, acts_of, key_at}
use Rattle.local_store.specs.inner.Acts.{value_in}
use Rattle.local_store.specs.inner.FilledValues.{filled, key_value}
use Rattle.local_store.specs.inner.Grids.{cell_at}
use Rattle.local_store.proofs.EmittedLemmas.{is_emission}
use Rattle.local_store.proofs.KnownLemmas.{Reads, reads_cell}
use Rattle.local_store.proofs.store.Store.emission.Goals as goal

pub returns : goal.returns
returns c =
    let s = c.self.inside in
    let t = c.args.self.now in
    let key = c.args.key.now in
    let cell = cell_at s.cells.width s.cells.items c.args.row in
    let row_key = get_or_from_slice_get t.keys c.args.row key [] c.requires.row in
    let within = slice_get_within t.keys c.args.row key c.requires.row in
    let keys = c.as_slice-keys.ensures ∙ ap (λ (x : Expanded). x.keys) (c.expanded-x.ensures.same ∙ ap (λ (u : StoreState). u.protocol) c.self.view_is) in
    is_emission t cell c.args.message key c.args.outs.now c.fill.result (c.clock.result + 1) c.len.result
    (record {
      consistent = c.len.ensures.consistent;
      held = member_at t.keys c.args.row key c.requires.row;
      can = c.requires.can;
      reads = λ p exists. subst (λ k. Reads t.protocol (acts_of t) k p (cell p)) row_key
          (subst (λ n. Reads t.protocol (acts_of t) (key_at t c.args.row) p (cell_at n s.cells.items c.args.row p)) (sym c.self.invariant.1.params)
          (reads_cell s.admitted s.role s.clock s.keys s.cells.items s.marks.items s.log t c.args.row p c.self.invariant.0 c.self.view_is within exists));
      chosen = c.requires.proposal.chosen;
      values_are = c.fill.ensures ∙ (λ i. filled (λ (p : ℕ). value_in (cell p)) (key_value (keys i) (c.as_slice.ensures.values i)) c.args.outs.now (c.carried-carried.ensures.carried i) 0);
    }) (ap (λ n. n + 1) c.clock.ensures) c.len.ensures.count
