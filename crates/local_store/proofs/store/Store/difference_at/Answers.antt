-- What the cells show of the instance's values is what the history knows.
use Rattle.std.proofs.Common.{[], subst, sym, ◌∙◌}
use Rattle.std.specs.Prelude.{MatchOption}
use Rattle.std.specs.List.{zip}
use Rattle.std.proofs.lemmas.Option.{get_or_from_slice_get, slice_get_within}
use Rattle.bspl_types.specs.Adornment.{valued}
use Rattle.stamped_history.specs.Local.{KnowsOneValue}
use Rattle.local_store.specs.Reception.{AllAgree}
use Rattle.local_store.specs.State.{acts_of, key_at}
use Rattle.local_store.specs.inner.Difference.{NamesDifference, first_difference}
use Rattle.local_store.specs.inner.Grids.{cell_at}
use Rattle.local_store.proofs.DifferenceLemmas.{differs_or_agrees}
use Rattle.local_store.proofs.InstanceLemmas.{pair_exists}
use Rattle.local_store.proofs.KnownLemmas.{Reads, reads_cell}
use Rattle.local_store.proofs.store.Store.difference_at.Goals as goal

pub returns : goal.returns
returns c =
    let s = c.self.inside in
    let t = c.args.self.now in
    let i = c.args.i.now in
    let key = get_or_from_slice_get t.keys c.args.row i.key [] c.requires.row in
    let within = slice_get_within t.keys c.args.row i.key c.requires.row in
    let cell = cell_at s.cells.width s.cells.items c.args.row in
    let one = subst (λ u. KnowsOneValue u.protocol (acts_of u)) c.self.view_is c.self.invariant.0.local.one_value in
    let all = differs_or_agrees c.equal_values_are_one.ensures.values t.protocol (acts_of t) i one cell
    (λ d v among. subst (λ k. Reads t.protocol (acts_of t) k d.param (cell d.param)) key
    (subst (λ n. Reads t.protocol (acts_of t) (key_at t c.args.row) d.param (cell_at n s.cells.items c.args.row d.param)) (sym c.self.invariant.1.params)
    (reads_cell s.admitted s.role s.clock s.keys s.cells.items s.marks.items s.log t c.args.row d.param c.self.invariant.0 c.self.view_is within (pair_exists t.protocol i d v among)))) in
    subst (λ o. MatchOption o (AllAgree t.protocol (acts_of t) i) (NamesDifference t.protocol (acts_of t) i))
    (sym (c.first_difference.ensures ∙ (λ j. first_difference cell (zip (valued (c.carried-carried.ensures.carried j)) (c.as_slice.ensures.values j))))) all
