-- The clause's own watch gets the new link.
use Rattle.std.proofs.Common.{arith, subst, sym, refl, ◌∙◌}
use Rattle.std.proofs.lemmas.List.{get_or_default}
use Rattle.sat_trail.specs.declared.watch.Cell.{Cell}
use Rattle.sat_trail.specs.inner.Watches.{blank, watch, IsPut}
use Rattle.sat_trail.specs.inner.Walk.{at_cell}
use Rattle.sat_trail.proofs.watch_lists.WatchLists.set_link.Goals as goal

pub returns : goal.returns
returns c =
    at_cell (omega arith) refl c.put.result
    (subst (λ (cell : Cell). IsPut cell c.args.lit (watch c.args.lit c.args.next) c.put.result)
    (c.index-cell.ensures ∙ sym (get_or_default c.args.self.now.cells.items c.args.number blank c.index-cell.result.now c.requires.within)) c.put.ensures) refl
