-- The variable of a false literal exists, and the literal is in at the end.
use Rattle.std.proofs.Common.{rules, ◌≤◌, sym, subst}
use Rattle.std.proofs.lemmas.Bool.{iff_false}
use Rattle.sat_solver.specs.inner.LiteralSet.{LiteralSet}
use Rattle.sat_solver.specs.inner.Gathered.{AddsLiteral}
use Rattle.sat_solver.proofs.GatheringLemmas.{false-exists, AddsLiteral-push, AddsLiteral-held, held}
use Rattle.sat_solver.proofs.false_lits.FalseLits.insert.Goals as goal

pub insert-requires : goal.insert-requires
insert-requires c =
    let exists = false-exists c.args.trail.now c.args.lit c.is_trail.ensures c.requires.fails in record {
      from_one = exists.0;
      exists = subst (λ n. c.args.lit.var ≤ n) (sym c.requires.are_false.vars) exists.1;
      alone = search rules;
    }

pub is_current-requires-clause-from_one : goal.is_current-requires-clause-from_one
is_current-requires-clause-from_one c = (false-exists c.args.trail.now c.args.lit c.is_trail.ensures c.requires.fails).0

pub is_current-requires-clause-exists : goal.is_current-requires-clause-exists
is_current-requires-clause-exists c = (false-exists c.args.trail.now c.args.lit c.is_trail.ensures c.requires.fails).1

pub returns-then-insert-clause-inserted : goal.returns-then-insert-clause-inserted
returns-then-insert-clause-inserted c =
    subst (λ (s : LiteralSet). AddsLiteral c.args.self.now.set.lits c.args.lit s.lits) (sym c.if-insert.ensures.pushed) (AddsLiteral-push c.args.self.now.set.lits c.args.lit)

pub returns-else-insert-clause-inserted : goal.returns-else-insert-clause-inserted
returns-else-insert-clause-inserted c =
    subst (λ (s : LiteralSet). AddsLiteral c.args.self.now.set.lits c.args.lit s.lits) (sym c.if-insert.ensures.same)
    (AddsLiteral-held c.args.self.now.set.lits c.args.lit (held c.args.self.now.set.lits c.args.lit (iff_false c.insert.ensures.new c.if-insert.false)))
