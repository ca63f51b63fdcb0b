-- Where the literals of a lent clause are.
use Rattle.std.specs.Prelude.{List}
use Rattle.clause_core.specs.declared.literal.Lit.{Lit}
use Rattle.order_axioms.specs.declared.lent_clause.ClauseSource.{ClauseSource}
use Rattle.order_axioms.specs.declared.lent_clause.ClauseSource.TheVariants.{Stored, Made}

-- the literals of the clause
abbrev pub source_lits : ClauseSource → List Lit
source_lits (Stored clause) = clause.now
source_lits (Made lits) = lits
