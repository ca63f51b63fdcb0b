-- What it is that the clause is appended which says that a message is sent.
use Rattle.std.specs.Prelude.{◌≡◌, ℕ}
use Rattle.clause_core.specs.declared.formula.Formula.{Formula}
use Rattle.clause_core.specs.Written.{AppendsClauses}
use Rattle.enactability.specs.EnactFormula.{sent_clause}

-- the new formula is the old one with this clause
pub record AlsoSends (m : ℕ) (old new : Formula) : Type 0 where
  pub vars : new.vars ≡ old.vars
  pub clauses : AppendsClauses old.clauses new.clauses (sent_clause m)
