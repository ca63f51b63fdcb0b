-- The empty clause of a formula.
use Rattle.std.proofs.Common.{◌≡◌, inl, inr, List, [], ◌∷◌, Contains, refl, subst}
use Rattle.list_base.proofs.Members.{cons_cases, here, here_same, nowhere, there}
use Rattle.clause_core.specs.declared.literal.Lit.{Lit}
use Rattle.clause_core.specs.Clause.{IsClauseOf}
use Rattle.clause_core.specs.Written.{Written, AreClausesOf}

-- the clause of no literals is empty
empty_clause : (lits clause : List Lit) → lits ≡ [] → IsClauseOf lits clause → clause ≡ []
empty_clause lits [] none is = refl
empty_clause lits (l ∷ clause) none is =
    absurd (nowhere l (subst (λ (ls : List Lit). Contains ls l) none ((is.exactly l).0 (here l clause))))

-- a formula has an empty clause if one is written
pub has_empty : (written : List Written) (clauses : List (List Lit)) → AreClausesOf written clauses → Contains written [] → Contains clauses []
has_empty [] clauses are among = absurd (nowhere [] among)
has_empty (lits ∷ written) [] are among = absurd are
has_empty (lits ∷ written) (clause ∷ clauses) are among = elim (cons_cases lits written [] among) [
  | inl none ↦ here_same clause clauses [] (empty_clause lits clause none are.0)
  | inr later ↦ there clause clauses [] (has_empty written clauses are.1 later)
]
