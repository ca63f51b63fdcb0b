-- Each turn learns one clause, and each ending follows from what is learned so far.
use Rattle.std.proofs.Common.{◌+◌, ◌<◌, length, ap, ◌∙◌, arith, length-append}
use Rattle.sat_solver.proofs.SolvingLemmas.{IsLearning-start, IsLearning-search, IsLearning-learn, Spends-learned, Refutes-by, satisfies-formula, few-learned}
use Rattle.sat_solver.proofs.solver.search_within.Goals as goal

pub learning-init : goal.learning-init
learning-init c = (IsLearning-start c.args.f.now c.args.learner.now c.requires.none c.requires.new, ap length c.requires.new.steps, omega arith)

pub returns-in-Finished : goal.returns-in-Finished
returns-in-Finished c =
    let known = IsLearning-search c.args.f.now c.learning.learner c.search.new.self c.learning.invariant.0 c.in_ok-found.ensures.keeps c.search.ensures.steps in
    record {
      whole = c.in_ok-model-in-Finished.ensures.whole ∙ known.vars;
      satisfies = satisfies-formula c.args.f.now c.search.new.self.trail c.search.new.self.steps _ known c.in_ok-model-in-Finished.ensures.satisfies;
    }

pub returns-then-level-eq0 : goal.returns-then-level-eq0
returns-then-level-eq0 c = λ log plain.
    let known = IsLearning-search c.args.f.now c.learning.learner c.search.new.self c.learning.invariant.0 c.in_ok-found.ensures.keeps c.search.ensures.steps in
    Refutes-by (record { live = c.plain_resolves.ensures.live; containing = c.plain_resolves.ensures.containing })
    c.args.f.now c.search.new.self c.refute.new.self log c.args.budget c.in-Falsified.number
    c.step_appends.ensures c.new_clause_appends.ensures known
    (omega (arith, ap length c.search.ensures.steps, c.learning.invariant.1, c.if-learned-budget.false, c.learning.invariant.2))
    c.in_ok-refute.ensures plain

pub learn-requires-clause-few : goal.learn-requires-clause-few
learn-requires-clause-few c =
    let known = IsLearning-search c.args.f.now c.learning.learner c.search.new.self c.learning.invariant.0 c.in_ok-found.ensures.keeps c.search.ensures.steps in
    few-learned c.args.f.now c.search.new.self.trail c.search.new.self.steps c.args.budget known
    (omega (arith, ap length c.search.ensures.steps, c.learning.invariant.1, c.if-learned-budget.false, c.learning.invariant.2)) c.requires.few

pub learning-preserved : goal.learning-preserved
learning-preserved c =
    let known = IsLearning-search c.args.f.now c.learning.learner c.search.new.self c.learning.invariant.0 c.in_ok-found.ensures.keeps c.search.ensures.steps in
    let above : 0 < c.search.new.self.trail.level = omega (arith, c.level.ensures.same, c.if-level-eq0.false) in (
      IsLearning-learn c.args.f.now c.search.new.self c.learn.new.self c.step_appends.ensures c.new_clause_appends.ensures known above c.in_ok-learn.ensures,
      ap length c.in_ok-learn.ensures.steps ∙ length-append c.search.new.self.steps _ ∙ ap (λ s. length s + 1) c.search.ensures.steps ∙ ap (λ n. n + 1) c.learning.invariant.1,
      omega (arith, c.if-learned-budget.false, c.learning.invariant.2),
    )

pub returns-then-learned-budget : goal.returns-then-learned-budget
returns-then-learned-budget c = λ log plain.
    let known = IsLearning-search c.args.f.now c.learning.learner c.search.new.self c.learning.invariant.0 c.in_ok-found.ensures.keeps c.search.ensures.steps in
    Spends-learned (record { live = c.plain_resolves.ensures.live; containing = c.plain_resolves.ensures.containing })
    c.args.f.now c.search.new.self.trail c.search.new.self.steps log c.args.budget plain known
    (omega (arith, ap length c.search.ensures.steps, c.learning.invariant.1, c.if-learned-budget.true))
