-- The clause is a given one, or one that was added.
use Rattle.std.proofs.Common.{◌++◌, length-append, ◌∙◌, arith}
use Rattle.std.proofs.lemmas.List.{get_or_append_left, get_or_default}
use Rattle.sat_trail.proofs.StoreLemmas.{live-within, live-clause, right-item}
use Rattle.sat_trail.proofs.clause_store.ClauseStore.clause.Goals as goal

pub returns-then-index-self : goal.returns-then-index-self
returns-then-index-self c = rw (← c.self.view_is)
    (live-clause _ _ c.args.number _ c.self.invariant (rw (← c.self.view_is) at c.requires)
    (get_or_append_left c.self.inside.given.now c.self.inside.added _ _ c.if-index-self.true
    ∙ get_or_default c.self.inside.given.now _ _ c.index-self-index.result c.if-index-self.true))

pub at-requires : goal.at-requires
at-requires c =
    omega (arith, live-within c.self.inside.flat (c.self.inside.given.now ++ c.self.inside.added) c.args.number c.self.invariant (rw (← c.self.view_is) at c.requires), c.if-index-self.false, length-append c.self.inside.given.now c.self.inside.added)

pub returns : goal.returns
returns c = rw (← c.self.view_is)
    (live-clause _ _ c.args.number _ c.self.invariant (rw (← c.self.view_is) at c.requires)
    (right-item c.self.inside.given.now c.self.inside.added _ _ c.if-index-self.false c.at.ensures))
