-- The last of the list goes in each turn, and with it its mark.
use Rattle.std.proofs.Common.{◌≡◌, length, refl, ◌++◌, ◌∷◌, [], rules}
use Rattle.std.proofs.lemmas.Result.{IfOk-weaker}
use Rattle.clause_core.specs.Clause.{VariablesExist, HasExactly}
use Rattle.log_checker.specs.inner.Marks.{Marks}
use Rattle.log_checker.proofs.TakingLemmas.{IsTaking-next, IsTaking-pass, Marks-taken, exist-taken}
use Rattle.log_checker.proofs.mark_table.MarkTable.take_clause.Goals as goal

pub loop-lit-preserved-in-Continue-1 : goal.loop-lit-preserved-in-Continue-1
loop-lit-preserved-in-Continue-1 c =
    IsTaking-next c.args.self.now (record { vars = c.loop-lit.self-inside.vars; cells = c.loop-lit.self-inside.cells.items }) _ _ _ _ c.in-Some.lit _ c.index.result.now
    c.in-Some.ensures.items c.rank-index.ensures c.index.ensures c.if-index.true c.in_ok-push.ensures.items c.loop-lit.invariant

pub invariant_of-self : goal.invariant_of-self
invariant_of-self c =
    (IsTaking-next c.args.self.now (record { vars = c.loop-lit.self-inside.vars; cells = c.loop-lit.self-inside.cells.items }) _ _ _ (c.loop-lit.lits.items ++ c.in-Some.lit ∷ []) c.in-Some.lit _ c.index.result.now
    c.in-Some.ensures.items c.rank-index.ensures c.index.ensures c.if-index.true refl c.loop-lit.invariant).table

pub loop-lit-preserved : goal.loop-lit-preserved
loop-lit-preserved c =
    IsTaking-pass c.args.self.now (record { vars = c.loop-lit.self-inside.vars; cells = c.loop-lit.self-inside.cells.items }) _ _ _ c.in-Some.lit _ c.index.result.now
    c.in-Some.ensures.items c.rank-index.ensures c.index.ensures c.if-index.false c.loop-lit.invariant

pub returns-clause-clause : goal.returns-clause-clause
returns-clause-clause c =
    let empty : length c.loop-lit.self-inside.touched.items ≡ 0 = search rules in
    IfOk-weaker c.of.result (λ clause. HasExactly clause c.as_slice.result.now) (Marks c.args.self.now)
    (λ clause exactly. Marks-taken c.args.self.now _ _ _ clause empty c.loop-lit.invariant (rw c.as_slice.ensures.value at exactly)) c.of.ensures

pub returns-clause-exist : goal.returns-clause-exist
returns-clause-exist c =
    IfOk-weaker c.of.result (λ clause. HasExactly clause c.as_slice.result.now) (VariablesExist c.args.self.now.vars)
    (λ clause exactly. exist-taken c.args.self.now.vars _ clause c.loop-lit.invariant.exist (rw c.as_slice.ensures.value at exactly)) c.of.ensures
