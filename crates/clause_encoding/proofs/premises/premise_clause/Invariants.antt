-- What the loop over the kinds has appended.
use Rattle.std.specs.Prelude.{◌≡◌, ◌∷◌, map, take}
use Rattle.clause_core.specs.Literal.{negated}
use Rattle.clause_encoding.specs.Variables.{occurs, sent, stands_before}
use Rattle.clause_encoding.proofs.premises.premise_clause.Given as goal

-- the literals of the kinds before the index
abbrev pub invariant-loop-carrier : goal.invariant-loop-carrier
invariant-loop-carrier l = l.lits ≡ negated (occurs (sent l.m)) ∷ map (λ kind. stands_before l.vars kind (sent l.m)) (take l.carrier-index l.carrier-items)
