-- A model that does not meet the condition is passed over.
use Rattle.std.proofs.Common.{Bool, List, length, All, sym, subst}
use Rattle.std.proofs.lemmas.Bool.{iff_false}
use Rattle.std.proofs.lemmas.List.{take_all}
use Rattle.std.proofs.lemmas.List.Elements.{All-more}
use Rattle.circuit_clauses.specs.Condition.{IsOver, Meets, condition_of}
use Rattle.clause_core.specs.Assignment.{valuation}
use Rattle.question_answer.proofs.known_run.first_met.Goals as goal

pub is_met-requires : goal.is_met-requires
is_met-requires c =
    let model = c.model-item.result in
    subst (λ (m : List Bool). IsOver (length m) (condition_of c.args.c.now)) (sym c.model-item.is)
    (c.requires c.loop-model.model-index model c.loop-model-test.true)

pub loop-model-preserved : goal.loop-model-preserved
loop-model-preserved c =
    let IsPassed = λ (m : List Bool). ¬ Meets (valuation m) (condition_of c.args.c.now) in
    All-more IsPassed c.args.models.now c.loop-model.model-index c.model-item.result c.loop-model-test.true c.loop-model.invariant
    (subst IsPassed c.model-item.is (iff_false c.is_met.ensures c.if-is_met.false))

pub returns : goal.returns
returns c =
    let IsPassed = λ (m : List Bool). ¬ Meets (valuation m) (condition_of c.args.c.now) in
    subst (All IsPassed) (take_all c.loop-model.model-index c.args.models.now c.loop-model-test.false) c.loop-model.invariant
