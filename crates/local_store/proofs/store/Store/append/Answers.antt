-- The row takes the values in, and the entry is the last one.
use Rattle.std.proofs.Common.{ap, sym, ◌∙◌}
use Rattle.std.specs.List.{zip}
use Rattle.std.proofs.lemmas.Option.{get_or_from_slice_get}
use Rattle.bspl_types.specs.Adornment.{valued}
use Rattle.bspl_types.specs.Expansion.{message_of, no_message}
use Rattle.local_store.specs.inner.Grids.{bound}
use Rattle.local_store.specs.State.{with_entry}
use Rattle.local_store.specs.inner.Acts.{event_as}
use Rattle.local_store.proofs.AppendLemmas.{Stored, stored}
use Rattle.local_store.proofs.store.Store.append.Goals as goal

now_stored : (c : goal.After-self-1) → Stored c.self.inside.admitted c.self.inside.role c.self.inside.keys c.bind_all.new.cells.items c.set.new.self.items c.push.new.self c.args.stamp (with_entry c.args.self.now (event_as c.args.kind c.args.i.now) c.args.stamp c.args.number)
now_stored c =
    let s = c.self.inside in
    let i = c.args.i.now in
    let message = get_or_from_slice_get c.expanded-x.result.now.messages i.message c.at.result.now no_message c.at.ensures in
    let carried_is = c.as_slice-carried.ensures ∙ sym (ap (λ m. m.carried) message) ∙ ap (λ x. (message_of x i.message).carried) c.expanded-x.ensures.same in
    stored c.answers_once.ensures.values s.admitted s.role s.clock s.keys s.cells.items c.bind_all.new.cells.items s.marks.items c.set.new.self.items
    s.cells.width s.cells.rows s.marks.width s.marks.rows c.args.row s.log c.push.new.self c.args.kind i c.args.stamp c.args.number c.args.self.now
    c.self.invariant.0 c.self.invariant.1 c.width-width.ensures.covers s.marks.covers c.self.view_is c.requires.key_is c.requires.fits c.requires.own c.requires.follows c.requires.agree
    (c.bind_all.ensures.items ∙ (λ j. bound s.cells.width c.args.row s.cells.items (zip (valued (carried_is j)) (c.as_slice.ensures.values j)))) c.set.ensures.items c.push.ensures

pub invariant_of-self : goal.invariant_of-self
invariant_of-self c = (
  (now_stored c).kept,
  record {
    params = c.bind_all.ensures.width ∙ c.self.invariant.1.params;
    messages = c.set.ensures.width ∙ c.self.invariant.1.messages;
    cells = rw c.bind_all.ensures.rows c.self.invariant.1.cells;
    marks = rw c.set.ensures.rows c.self.invariant.1.marks;
  },
)

pub returns : goal.returns
returns c = (now_stored c).state
