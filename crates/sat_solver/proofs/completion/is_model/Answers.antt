-- The clauses of the order hold by the places.
use Rattle.std.proofs.Common.{◌≡◌, length, arith}
use Rattle.sat_solver.proofs.CompletionLemmas.{IsModel-by_places}
use Rattle.sat_solver.proofs.completion.is_model.Goals as goal

pub returns-then-satisfies_stored : goal.returns-then-satisfies_stored
returns-then-satisfies_stored c = λ placed.
    let all : length c.args.assignment.now ≡ c.args.f.now.stored.vars = omega arith in
    IsModel-by_places c.clauses_forbid_cycles.ensures c.args.f.now c.args.assignment.now c.args.places.now all
    (c.satisfies_stored.ensures c.if-satisfies_stored.true) (c.is_by_places.ensures placed)
