-- The pivot has no mark, and the other literals of the clause are marked one by one.
use Rattle.std.proofs.Common.{◌≡◌, ◌↔◌, IsTrue, false, get_or, sym, ◌∙◌, rules}
use Rattle.std.proofs.lemmas.Bool.{iff_false}
use Rattle.clause_core.specs.declared.literal.Lit.{Lit}
use Rattle.log_checker.proofs.MarkLemmas.{ResolvesMarks-none, ResolvesMarks-pass, ResolvesMarks-more}
use Rattle.log_checker.proofs.mark_table.MarkTable.resolve.Goals as goal

-- the literal that a read past the end would give
abbrev blank : Lit
blank = record { var = 0; positive = false }

pub loop-lit-init : goal.loop-lit-init
loop-lit-init c = ResolvesMarks-none c.args.self.now c.remove.new.self c.args.pivot c.remove.ensures

pub loop-lit-preserved-then-eq : goal.loop-lit-preserved-then-eq
loop-lit-preserved-then-eq c =
    let test : IsTrue c.eq.result ↔ (get_or c.args.clause.now c.loop-lit.lit-index blank ≡ c.negation-negation.result) = search rules in
    ResolvesMarks-pass c.args.self.now c.loop-lit.self c.args.pivot c.args.clause.now _ blank c.loop-lit-test.true (test.0 c.if-eq.true ∙ c.negation-negation.ensures.exact) c.loop-lit.invariant

pub loop-lit-preserved : goal.loop-lit-preserved
loop-lit-preserved c =
    let test : IsTrue c.eq.result ↔ (get_or c.args.clause.now c.loop-lit.lit-index blank ≡ c.negation-negation.result) = search rules in
    ResolvesMarks-more c.args.self.now c.loop-lit.self c.insert.new.self c.args.pivot c.args.clause.now _ blank c.loop-lit-test.true
    (λ same. iff_false test c.if-eq.false (same ∙ sym c.negation-negation.ensures.exact)) c.loop-lit.invariant c.in_ok-insert.ensures
