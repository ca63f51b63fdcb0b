-- What each of two parts appends.
use Rattle.std.proofs.Common.{rules, ◌≡◌, ◌++◌, sym, ap, ◌∙◌}
use Rattle.std.proofs.lemmas.Result.{on_ok_weaker}
use Rattle.clause_core.specs.Literal.{negated}
use Rattle.circuit_clauses.specs.Asserted.{part_lits}
use Rattle.circuit_clauses.specs.Condition.{Both, Either, condition_of}
use Rattle.circuit_clauses.proofs.AppendLemmas.{asserted_in_turn, disjunction_in_turn, part_in_turn, parts_in_turn}
use Rattle.circuit_clauses.proofs.asserted.+assert.Goals as goal

pub push_asserted-returns-in_ok-next-in-Both-clause-clauses :
    goal.push_asserted-returns-in_ok-next-in-Both-clause-clauses
push_asserted-returns-in_ok-next-in-Both-clause-clauses t c =
    let last = c.push_asserted-in-Both in
    let left = c.deref.result.now in
    let right = c.deref-in-Both.result.now in
    let is : condition_of c.args.c.now ≡ Both (condition_of left) (condition_of right) =
    ap condition_of c.in-Both.is
    ∙ ap (λ l. Both (condition_of l) (condition_of c.in-Both.right.value)) (sym c.deref.ensures)
    ∙ ap (λ r. Both (condition_of left) (condition_of r)) (sym c.deref-in-Both.ensures) in
    on_ok_weaker last.result
    (asserted_in_turn c.args.clauses.now c.push_asserted.new.clauses last.new.clauses c.args.first c.in_ok-next-in-Both.next c.args.guard.now (condition_of left) (condition_of right) (condition_of c.args.c.now)
    is c.in_ok-next-in-Both.ensures.next c.in_ok-next-in-Both.ensures.clauses)
    last.ensures.clauses

pub push_asserted-returns-in_ok-push_part-in-Either-clause-clauses :
    goal.push_asserted-returns-in_ok-push_part-in-Either-clause-clauses
push_asserted-returns-in_ok-push_part-in-Either-clause-clauses t c =
    let last = c.push_part-in-Either in
    let left = c.in-Either.left.value in
    let right = c.in-Either.right.value in
    let lits : c.as_slice-in-Either.result.now ≡ (c.args.guard.now ++ part_lits c.args.first (condition_of left)) ++ part_lits c.in_ok-next-in-Either.next (condition_of right) = search rules in
    on_ok_weaker last.result
    (disjunction_in_turn c.args.clauses.now c.push_clause-in-Either.new.clauses c.push_part.new.clauses last.new.clauses c.args.first c.in_ok-next-in-Either.next c.args.guard.now c.as_slice-in-Either.result.now (condition_of left) (condition_of right) (condition_of c.args.c.now)
    (ap condition_of c.in-Either.is) (search rules) lits c.in_ok-push_clause-in-Either.ensures (search rules))
    (search rules)

pub push_part-returns-in_ok-next-in-Both-clause-clauses :
    goal.push_part-returns-in_ok-next-in-Both-clause-clauses
push_part-returns-in_ok-next-in-Both-clause-clauses t c =
    let last = c.push_asserted-in-Both in
    let left = c.deref.result.now in
    let right = c.deref-in-Both.result.now in
    let is : condition_of c.args.c.now ≡ Both (condition_of left) (condition_of right) =
    ap condition_of c.in-Both.is
    ∙ ap (λ l. Both (condition_of l) (condition_of c.in-Both.right.value)) (sym c.deref.ensures)
    ∙ ap (λ r. Both (condition_of left) (condition_of r)) (sym c.deref-in-Both.ensures) in
    on_ok_weaker last.result
    (part_in_turn c.args.clauses.now c.push_asserted.new.clauses last.new.clauses c.args.first c.in_ok-next-in-Both.next c.negation.result (condition_of left) (condition_of right) (condition_of c.args.c.now)
    is (c.negation.ensures.exact ∙ ap negated c.positive.ensures) c.in_ok-next-in-Both.ensures.next c.in_ok-next-in-Both.ensures.clauses)
    last.ensures.clauses

pub push_part-returns-in_ok-next-in-Either-clause-clauses :
    goal.push_part-returns-in_ok-next-in-Either-clause-clauses
push_part-returns-in_ok-next-in-Either-clause-clauses t c =
    let last = c.push_part-in-Either in
    let left = c.deref-in-Either.result.now in
    let right = c.deref-in-Either-2.result.now in
    let is : condition_of c.args.c.now ≡ Either (condition_of left) (condition_of right) =
    ap condition_of c.in-Either.is
    ∙ ap (λ l. Either (condition_of l) (condition_of c.in-Either.right.value)) (sym c.deref-in-Either.ensures)
    ∙ ap (λ r. Either (condition_of left) (condition_of r)) (sym c.deref-in-Either-2.ensures) in
    on_ok_weaker last.result
    (parts_in_turn c.args.clauses.now c.push_part.new.clauses last.new.clauses c.args.first c.in_ok-next-in-Either.next (condition_of left) (condition_of right) (condition_of c.args.c.now)
    is c.in_ok-next-in-Either.ensures.next c.in_ok-next-in-Either.ensures.clauses)
    last.ensures.clauses
