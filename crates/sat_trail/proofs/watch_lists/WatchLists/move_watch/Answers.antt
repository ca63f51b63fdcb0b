-- The clause before takes over the link, and the clause becomes the first of the other list.
use Rattle.std.proofs.Common.{arith}
use Rattle.sat_trail.proofs.CellLemmas.{rank-within, link-turn}
use Rattle.sat_trail.proofs.MoveLemmas.{MovesWatch-moved}
use Rattle.sat_trail.proofs.watch_lists.WatchLists.move_watch.Goals as goal

pub returns : goal.returns
returns c =
    MovesWatch-moved _ _ c.set_link.new.self.cells.items _ _ c.set_link.new.self.heads.items _ _ _ _ _ _ c.requires.walk c.requires.others c.requires.to
    (omega (arith, rank-within c.args.vars c.args.lit c.requires.exists.1, c.requires.vars))
    (omega (arith, rank-within c.args.vars c.args.to c.requires.to.exists, c.requires.vars))
    (link-turn _ c.watches-next.result _ c.watches-next.ensures.turns c.watches-next.ensures.here)
    c.set_link.ensures c.put_front.ensures
