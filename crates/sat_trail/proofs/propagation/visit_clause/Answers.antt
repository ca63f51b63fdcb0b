-- The other watched literal is true, or the clause is not live, or another literal is not false, or
-- the other one is the last.
use Rattle.std.proofs.Common.{refl}
use Rattle.clause_core.specs.Numbering.{live}
use Rattle.sat_trail.proofs.GrowthLemmas.{HasWatches-extends, CanPropagate-once, number-last}
use Rattle.sat_trail.proofs.MovedLemmas.{AreWatched-moved, AreWatched-left}
use Rattle.sat_trail.proofs.NumberLemmas.{removed-none}
use Rattle.sat_trail.proofs.VisitLemmas.{IsVisited, visited-member, visited-given, visited-exists, visited-variables, visited-new, visited-replaced, visited-left, visited-stays}
use Rattle.sat_trail.proofs.propagation.visit_clause.Goals as goal

pub is_true-requires : goal.is_true-requires
is_true-requires c =
    let v : IsVisited c.args.store.now c.args.lists.now.cells.items c.args.lists.now.heads.items c.args.set.now c.args.level c.args.at c.watches-cell.result = record { can = c.requires; turns = c.watches-cell.ensures.turns; here = c.watches-cell.ensures.here } in
    (visited-exists c.args.store.now c.args.lists.now.cells.items c.args.lists.now.heads.items c.args.set.now c.args.level c.args.at c.watches-cell.result v)

pub returns-then-is_true-clause-visit : goal.returns-then-is_true-clause-visit
returns-then-is_true-clause-visit c =
    let v : IsVisited c.args.store.now c.args.lists.now.cells.items c.args.lists.now.heads.items c.args.set.now c.args.level c.args.at c.watches-cell.result = record { can = c.requires; turns = c.watches-cell.ensures.turns; here = c.watches-cell.ensures.here } in
    visited-stays c.args.store.now c.args.lists.now.cells.items c.args.lists.now.heads.items c.args.set.now c.args.level c.args.at c.watches-cell.result v (c.is_true.ensures.0 c.if-is_true.true)

pub is_live-requires : goal.is_live-requires
is_live-requires c =
    let v : IsVisited c.args.store.now c.args.lists.now.cells.items c.args.lists.now.heads.items c.args.set.now c.args.level c.args.at c.watches-cell.result = record { can = c.requires; turns = c.watches-cell.ensures.turns; here = c.watches-cell.ensures.here } in
    let given = visited-given c.args.store.now c.args.lists.now.cells.items c.args.lists.now.heads.items c.args.set.now c.args.level c.args.at c.watches-cell.result v in
    record { from_one = given.0; within = given.1 }

pub returns-then-not-is_live-clause-watched : goal.returns-then-not-is_live-clause-watched
returns-then-not-is_live-clause-watched c =
    let v : IsVisited c.args.store.now c.args.lists.now.cells.items c.args.lists.now.heads.items c.args.set.now c.args.level c.args.at c.watches-cell.result = record { can = c.requires; turns = c.watches-cell.ensures.turns; here = c.watches-cell.ensures.here } in
    AreWatched-left (live c.args.store.now) _ _ _ _ _ _ _ _ c.args.at.lit c.unlink.ensures.to _ c.args.at.number _ c.requires.exists.0 (visited-member c.args.store.now c.args.lists.now.cells.items c.args.lists.now.heads.items c.args.set.now c.args.level c.args.at c.watches-cell.result v).2
    (λ clause has. removed-none c.args.store.now c.args.at.number clause _ c.if-not-is_live.true c.is_live.ensures.1 has) c.unlink.ensures.moves c.requires.watched

pub not_false-requires : goal.not_false-requires
not_false-requires c = record { exist = visited-variables c.args.store.now c.args.set.now c.args.level c.args.at.number _ _ c.requires.fits c.lits.ensures refl }

pub move_watch-requires-clause-to : goal.move_watch-requires-clause-to
move_watch-requires-clause-to c =
    let v : IsVisited c.args.store.now c.args.lists.now.cells.items c.args.lists.now.heads.items c.args.set.now c.args.level c.args.at c.watches-cell.result = record { can = c.requires; turns = c.watches-cell.ensures.turns; here = c.watches-cell.ensures.here } in
    visited-new c.args.store.now c.args.lists.now.cells.items c.args.lists.now.heads.items c.args.set.now c.args.level c.args.at c.watches-cell.result _ _ _ _ c.vars-in-Some.ensures.same v c.lits.ensures refl c.in-Some.ensures.among c.in-Some.ensures.differs c.in-Some.ensures.found

pub force-requires-clause-left : goal.force-requires-clause-left
force-requires-clause-left c =
    let v : IsVisited c.args.store.now c.args.lists.now.cells.items c.args.lists.now.heads.items c.args.set.now c.args.level c.args.at c.watches-cell.result = record { can = c.requires; turns = c.watches-cell.ensures.turns; here = c.watches-cell.ensures.here } in
    visited-left c.args.store.now c.args.lists.now.cells.items c.args.lists.now.heads.items c.args.set.now c.args.level c.args.at c.watches-cell.result _ _ v c.lits.ensures refl c.in-None.ensures.none

pub returns-in-Some-clause-watched : goal.returns-in-Some-clause-watched
returns-in-Some-clause-watched c =
    let v : IsVisited c.args.store.now c.args.lists.now.cells.items c.args.lists.now.heads.items c.args.set.now c.args.level c.args.at c.watches-cell.result = record { can = c.requires; turns = c.watches-cell.ensures.turns; here = c.watches-cell.ensures.here } in
    AreWatched-moved _ _ c.vars-in-Some.result _ _ _ _ _ _ _ c.args.at.lit _ c.in-Some.to _ c.args.at.number _ (CanPropagate-once _ _ _ c.requires.fits) c.requires.fails c.requires.exists.0 (number-last c.args.store.now)
    (visited-replaced c.args.store.now c.args.lists.now.cells.items c.args.lists.now.heads.items c.args.set.now c.args.level c.args.at c.watches-cell.result _ _ _ v c.lits.ensures refl c.in-Some.ensures.among c.in-Some.ensures.differs c.in-Some.ensures.found)
    c.move_watch.ensures c.requires.watched

pub returns-then-force-clause-watched : goal.returns-then-force-clause-watched
returns-then-force-clause-watched c = HasWatches-extends _ _ c.args.set.now _ _ _ _ c.force.ensures.extends c.requires.watched

pub returns-else-force-clause-watched : goal.returns-else-force-clause-watched
returns-else-force-clause-watched c = HasWatches-extends _ _ c.args.set.now _ _ _ _ c.force.ensures.extends c.requires.watched
