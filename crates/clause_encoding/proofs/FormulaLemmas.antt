-- The clauses of what is written: as many, with the same variables, and satisfied with it.
use Rattle.std.proofs.Common.{◌≡◌, ◌↔◌, ℕ, Bool, List, [], ◌∷◌, length, suc, Contains, refl, ap, sym, subst}
use Rattle.std.specs.List.{All}
use Rattle.std.proofs.lemmas.List.Elements.{All-cons, All-contains, All-contains_itself, All-head, All-nil, All-tail, All-weaker}
use Rattle.clause_core.specs.declared.literal.Lit.{Lit}
use Rattle.clause_core.specs.Clause.{ClausesAreSets, HasExactly, IsClauseOf, Satisfies, SatisfiesAll, VariablesExist}
use Rattle.clause_encoding.specs.declared.variables.Variables.{Variables}
use Rattle.clause_encoding.specs.Variables.{variable_count}
use Rattle.clause_core.specs.Written.{AppendsClauses, Written, AreClausesOf}
use Rattle.clause_encoding.proofs.ExistenceLemmas.{ClauseExists}
use Rattle.clause_encoding.proofs.VariableLemmas.{LitExists}

-- what is appended to nothing is all
pub all_appended : (clauses : List (List Lit)) (written : List Written) → AppendsClauses [] clauses written → AreClausesOf written clauses
all_appended clauses written appends = subst (AreClausesOf written) (sym appends.follows) appends.are

-- there is a clause for each that is written
pub as_many : (written : List Written) (clauses : List (List Lit)) → AreClausesOf written clauses → length clauses ≡ length written
as_many [] [] are = refl
as_many [] (clause ∷ clauses) are = absurd are
as_many (lits ∷ written) [] are = absurd are
as_many (lits ∷ written) (clause ∷ clauses) are = ap suc (as_many written clauses are.1)

-- a clause has the variables that are written
clause_exists : (vars : Variables) (lits clause : List Lit) → IsClauseOf lits clause → ClauseExists vars lits → ClauseExists vars clause
clause_exists vars lits clause is exist =
    All-weaker (Contains clause) (LitExists vars) (λ l among. All-contains (LitExists vars) lits l exist ((is.exactly l).0 among)) clause (All-contains_itself clause)

-- so have all clauses
clauses_exist : (vars : Variables) (written : List Written) (clauses : List (List Lit)) → AreClausesOf written clauses → All (ClauseExists vars) written → All (ClauseExists vars) clauses
clauses_exist vars [] [] are exist = All-nil (ClauseExists vars)
clauses_exist vars [] (clause ∷ clauses) are exist = absurd are
clauses_exist vars (lits ∷ written) [] are exist = absurd are
clauses_exist vars (lits ∷ written) (clause ∷ clauses) are exist =
    All-cons (ClauseExists vars) clause clauses
    (clause_exists vars lits clause are.0 (All-head (ClauseExists vars) lits written exist))
    (clauses_exist vars written clauses are.1 (All-tail (ClauseExists vars) lits written exist))

-- so have those that are appended to nothing
pub appended_exist : (vars : Variables) (written : List Written) (clauses : List (List Lit)) → AppendsClauses [] clauses written → All (ClauseExists vars) written → All (VariablesExist (variable_count vars)) clauses
appended_exist vars written clauses appends = clauses_exist vars written clauses (all_appended clauses written appends)

-- and they are as many
pub appended_count : (written : List Written) (clauses : List (List Lit)) → AppendsClauses [] clauses written → length clauses ≡ length written
appended_count written clauses appends = as_many written clauses (all_appended clauses written appends)

-- what satisfies the literals as written satisfies their clause
clause_satisfied : (v : ℕ → Bool) (lits clause : List Lit) → IsClauseOf lits clause → Satisfies v lits → Satisfies v clause
clause_satisfied v lits clause is (k, l, within, at, holds) =
    let (place, inside, same) = (is.exactly l).1 (k, within, at) in
    (place, l, inside, same, holds)

-- and the other way
lits_satisfied : (v : ℕ → Bool) (lits clause : List Lit) → IsClauseOf lits clause → Satisfies v clause → Satisfies v lits
lits_satisfied v lits clause is (k, l, within, at, holds) =
    let (place, inside, same) = (is.exactly l).0 (k, within, at) in
    (place, l, inside, same, holds)

-- so it is with each of a list
written_satisfied : (v : ℕ → Bool) (written : List Written) (clauses : List (List Lit)) → AreClausesOf written clauses → SatisfiesAll v clauses → SatisfiesAll v written
written_satisfied v [] [] are all = All-nil (Satisfies v)
written_satisfied v [] (clause ∷ clauses) are all = absurd are
written_satisfied v (lits ∷ written) [] are all = absurd are
written_satisfied v (lits ∷ written) (clause ∷ clauses) are all =
    All-cons (Satisfies v) lits written
    (lits_satisfied v lits clause are.0 (All-head (Satisfies v) clause clauses all))
    (written_satisfied v written clauses are.1 (All-tail (Satisfies v) clause clauses all))

clauses_satisfied : (v : ℕ → Bool) (written : List Written) (clauses : List (List Lit)) → AreClausesOf written clauses → SatisfiesAll v written → SatisfiesAll v clauses
clauses_satisfied v [] [] are all = All-nil (Satisfies v)
clauses_satisfied v [] (clause ∷ clauses) are all = absurd are
clauses_satisfied v (lits ∷ written) [] are all = absurd are
clauses_satisfied v (lits ∷ written) (clause ∷ clauses) are all =
    All-cons (Satisfies v) clause clauses
    (clause_satisfied v lits clause are.0 (All-head (Satisfies v) lits written all))
    (clauses_satisfied v written clauses are.1 (All-tail (Satisfies v) lits written all))

pub satisfied_exactly : (v : ℕ → Bool) (written : List Written) (clauses : List (List Lit)) → AreClausesOf written clauses → (SatisfiesAll v clauses ↔ SatisfiesAll v written)
satisfied_exactly v written clauses are = (written_satisfied v written clauses are, clauses_satisfied v written clauses are)

-- two clauses of the same literals
same_clause : ClausesAreSets → (lits c d : List Lit) → IsClauseOf lits c → IsClauseOf lits d → c ≡ d
same_clause sets lits c d one other =
    let same : HasExactly c d = λ l. (λ among. (other.exactly l).1 ((one.exactly l).0 among), λ among. (one.exactly l).1 ((other.exactly l).0 among)) in
    sets c d one.ascending other.ascending same

-- and two lists of clauses
pub same_clauses : ClausesAreSets → (written : List Written) (cs ds : List (List Lit)) → AreClausesOf written cs → AreClausesOf written ds → cs ≡ ds
same_clauses sets [] [] [] one other = refl
same_clauses sets [] [] (d ∷ ds) one other = absurd other
same_clauses sets [] (c ∷ cs) ds one other = absurd one
same_clauses sets (lits ∷ written) [] ds one other = absurd one
same_clauses sets (lits ∷ written) (c ∷ cs) [] one other = absurd other
same_clauses sets (lits ∷ written) (c ∷ cs) (d ∷ ds) one other =
    let first = same_clause sets lits c d one.0 other.0 in
    let rest = same_clauses sets written cs ds one.1 other.1 in
    λ i. first i ∷ rest i
