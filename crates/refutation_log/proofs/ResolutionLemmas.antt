-- A log grows at its end.
use Rattle.std.proofs.Common.{List, [], ◌∷◌, ◌++◌, refl, append_assoc, append-nil}
use Rattle.clause_core.specs.declared.literal.Lit.{Lit}
use Rattle.clause_core.specs.Numbering.{numbered}
use Rattle.refutation_log.specs.declared.refutation.Chain.{Chain}
use Rattle.refutation_log.specs.Resolution.{Derives, DerivesAll, IsNewClause, AreNewClauses}

-- one more step
pub derives_more : (clauses derived : List (List Lit)) (steps : List Chain) (chain : Chain) (clause : List Lit) → DerivesAll clauses steps derived → Derives (numbered (clauses ++ derived)) chain clause → DerivesAll clauses (steps ++ chain ∷ []) (derived ++ clause ∷ [])
derives_more clauses derived [] chain clause none next =
    rw none (rw (none, append-nil) at next, refl)
derives_more clauses [] (step ∷ steps) chain clause derives next = absurd derives
derives_more clauses (first ∷ derived) (step ∷ steps) chain clause derives next =
    (derives.0, derives_more (clauses ++ first ∷ []) derived steps chain clause derives.1 (rw append_assoc next))

-- one more new clause
pub new_more : (earlier derived : List (List Lit)) (clause : List Lit) → AreNewClauses earlier derived → IsNewClause (earlier ++ derived) clause → AreNewClauses earlier (derived ++ clause ∷ [])
new_more earlier [] clause new next = (rw append-nil at next, tt)
new_more earlier (first ∷ derived) clause new next =
    (new.0, new_more (earlier ++ first ∷ []) derived clause new.1 (rw append_assoc next))
