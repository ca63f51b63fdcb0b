-- The law on the variables of a condition, from its lemma.
use Rattle.std.proofs.Common.{refl, arith}
use Rattle.bspl_types.specs.declared.expanded.Expanded.{Expanded}
use Rattle.clause_encoding.specs.Formula.{plain_variables}
use Rattle.clause_encoding.specs.Variables.{IsSmall}
use Rattle.question_formula.proofs.OverLemmas.{asked_over}
use Rattle.question_formula.proofs.laws.condition_variables_exist.Goals as goal

-- the variables of a question's formula are few
plain_is_small : (x : Expanded) → IsSmall (plain_variables x)
plain_is_small x =
    let few = x.shape.counts.few_messages in
    record { few_kinds = omega (arith, few); occurrences_first = omega arith; few_others = omega (arith, few) }

pub returns : goal.returns
returns c x q about =
    asked_over x (plain_variables x) (plain_is_small x) c.carriers_are_kinds.ensures refl c.order_variables_exist.ensures q about
