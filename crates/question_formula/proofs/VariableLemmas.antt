-- The variables of a question's clauses are among those of its formula.
use Rattle.std.proofs.Common.{◌≡◌, ℕ, ◌+◌, ◌<◌, ◌≤◌, List, [], ◌∷◌, ◌++◌, ap, sym, ◌∙◌, subst, arith, Contains}
use Rattle.std.specs.List.{All}
use Rattle.std.proofs.lemmas.List.Elements.{All-append, All-cons, All-contains, All-contains_itself, All-head, All-nil, All-tail, All-weaker}
use Rattle.circuit_clauses.specs.Asserted.{asserted, asserted_count, part_clauses, part_count, part_lits}
use Rattle.circuit_clauses.specs.Condition.{Condition, Literal, Both, Either, Always, Never, IsBelow, IsOver}
use Rattle.circuit_clauses.specs.Laws.{VariablesAreFurther}
use Rattle.clause_core.specs.declared.literal.Lit.{Lit}
use Rattle.clause_core.specs.Clause.{IsClauseOf, VariablesExist}
use Rattle.clause_core.specs.Literal.{negated, positive}
use Rattle.clause_core.specs.Written.{AppendsClauses, Written, AreClausesOf}

-- a condition whose variables are up to a number is below the next one
pub over_below : (n : ℕ) (c : Condition) → IsOver n c → IsBelow (n + 1) c
over_below n (Literal l) over = let up_to = over.1 in omega (arith, up_to)
over_below n (Both c d) over = (over_below n c over.0, over_below n d over.1)
over_below n (Either c d) over = (over_below n c over.0, over_below n d over.1)
over_below n Always over = tt
over_below n Never over = tt

-- a literal has a number of a variable
abbrev pub IsNumbered : Lit → Type 0
IsNumbered l = 0 < l.var

abbrev pub AreNumbered : List Lit → Type 0
AreNumbered lits = All IsNumbered lits

one_numbered : (l : Lit) → IsNumbered l → AreNumbered (l ∷ [])
one_numbered l is = All-cons IsNumbered l [] is (All-nil IsNumbered)

-- the literals of a part
part_lits_numbered : (n m : ℕ) (c : Condition) → 0 < n → IsOver m c → AreNumbered (part_lits n c)
part_lits_numbered n m (Literal l) some over = one_numbered l over.0
part_lits_numbered n m (Both c d) some over = one_numbered (positive n) some
part_lits_numbered n m (Either c d) some over =
    All-append IsNumbered (part_lits n c) (part_lits (n + part_count c) d)
    (part_lits_numbered n m c some over.0) (part_lits_numbered (n + part_count c) m d (omega (arith, some)) over.1)
part_lits_numbered n m Always some over = one_numbered (positive n) some
part_lits_numbered n m Never some over = All-nil IsNumbered

-- the clauses of a condition, and of a part
record HasNumbered (c : Condition) : Type 0 where
  whole : (n : ℕ) (guard : List Lit) → 0 < n → AreNumbered guard → All AreNumbered (asserted n guard c)
  part : (n : ℕ) → 0 < n → All AreNumbered (part_clauses n c)

two_wholes : (n : ℕ) (guard : List Lit) (c d : Condition) → HasNumbered c → HasNumbered d → 0 < n → AreNumbered guard → All AreNumbered (asserted n guard c ++ asserted (n + asserted_count c) guard d)
two_wholes n guard c d left right some guarded =
    All-append AreNumbered (asserted n guard c) (asserted (n + asserted_count c) guard d)
    (left.whole n guard some guarded) (right.whole (n + asserted_count c) guard (omega (arith, some)) guarded)

two_parts : (n : ℕ) (c d : Condition) → HasNumbered c → HasNumbered d → 0 < n → All AreNumbered (part_clauses n c ++ part_clauses (n + part_count c) d)
two_parts n c d left right some =
    All-append AreNumbered (part_clauses n c) (part_clauses (n + part_count c) d)
    (left.part n some) (right.part (n + part_count c) (omega (arith, some)))

numbered : (m : ℕ) (c : Condition) → IsOver m c → HasNumbered c
numbered m (Literal l) over = record {
  whole = λ n guard some guarded.
      All-cons AreNumbered (guard ++ l ∷ []) [] (All-append IsNumbered guard (l ∷ []) guarded (one_numbered l over.0)) (All-nil AreNumbered);
  part = λ n some. All-nil AreNumbered;
}
numbered m (Both c d) over = record {
  whole = λ n guard some guarded. two_wholes n guard c d (numbered m c over.0) (numbered m d over.1) some guarded;
  part = λ n some. two_wholes (n + 1) (negated (positive n) ∷ []) c d (numbered m c over.0) (numbered m d over.1) (omega arith) (one_numbered (negated (positive n)) some);
}
numbered m (Either c d) over = record {
  whole = λ n guard some guarded.
      let lits = part_lits n c ++ part_lits (n + part_count c) d in
      All-cons AreNumbered (guard ++ lits) (part_clauses n c ++ part_clauses (n + part_count c) d)
      (All-append IsNumbered guard lits guarded (part_lits_numbered n m (Either c d) some over))
      (two_parts n c d (numbered m c over.0) (numbered m d over.1) some);
  part = λ n some. two_parts n c d (numbered m c over.0) (numbered m d over.1) some;
}
numbered m Always over = record { whole = λ n guard some guarded. All-nil AreNumbered; part = λ n some. All-nil AreNumbered }
numbered m Never over = record {
  whole = λ n guard some guarded. All-cons AreNumbered guard [] guarded (All-nil AreNumbered);
  part = λ n some. All-nil AreNumbered;
}

-- what is written has variables up to a number
abbrev pub LitIsUpTo : ℕ → Lit → Type 0
LitIsUpTo n l = (0 < l.var) × (l.var ≤ n)

-- numbered literals below the next number
lits_up_to : (n : ℕ) (lits : List Lit) → AreNumbered lits → All (λ l. l.var < n + 1) lits → All (LitIsUpTo n) lits
lits_up_to n lits some below k d within = let less = below k d within in (some k d within, omega (arith, less))

all_up_to : (n : ℕ) (written : List Written) → All AreNumbered written → All (All (λ l. l.var < n + 1)) written → All (All (LitIsUpTo n)) written
all_up_to n written some below k d within = lits_up_to n _ (some k d within) (below k d within)

-- so have the clauses that the condition is met, over its variables and the further ones
pub asserted_up_to : VariablesAreFurther → (n : ℕ) (c : Condition) → IsOver n c → All (All (LitIsUpTo (n + asserted_count c))) (asserted (n + 1) [] c)
asserted_up_to further n c over =
    let written = asserted (n + 1) [] c in
    all_up_to (n + asserted_count c) written
    ((numbered n c over).whole (n + 1) [] (omega arith) (All-nil IsNumbered))
    (subst (λ (m : ℕ). All (All (λ (l : Lit). l.var < m)) written) (let same : n + 1 + asserted_count c ≡ n + asserted_count c + 1 = omega arith in same) (further (n + 1) c (over_below n c over)))

-- a clause of such literals
clause_up_to : (n : ℕ) (lits clause : List Lit) → IsClauseOf lits clause → All (LitIsUpTo n) lits → VariablesExist n clause
clause_up_to n lits clause is all =
    All-weaker (Contains clause) (LitIsUpTo n) (λ l among. All-contains (LitIsUpTo n) lits l all ((is.exactly l).0 among)) clause (All-contains_itself clause)

pub clauses_up_to : (n : ℕ) (written : List Written) (clauses : List (List Lit)) → AreClausesOf written clauses → All (All (LitIsUpTo n)) written → All (VariablesExist n) clauses
clauses_up_to n [] [] are all = All-nil (VariablesExist n)
clauses_up_to n [] (clause ∷ clauses) are all = absurd are
clauses_up_to n (lits ∷ written) [] are all = absurd are
clauses_up_to n (lits ∷ written) (clause ∷ clauses) are all =
    All-cons (VariablesExist n) clause clauses
    (clause_up_to n lits clause are.0 (All-head (All (LitIsUpTo n)) lits written all))
    (clauses_up_to n written clauses are.1 (All-tail (All (LitIsUpTo n)) lits written all))

-- clauses with variables up to a number have them up to a later one
pub up_to_later : (n m : ℕ) (clauses : List (List Lit)) → n ≤ m → All (VariablesExist n) clauses → All (VariablesExist m) clauses
up_to_later n m clauses later =
    All-weaker (VariablesExist n) (VariablesExist m)
    (λ clause. All-weaker (LitIsUpTo n) (LitIsUpTo m) (λ l is. let up_to = is.1 in (is.0, omega (arith, later, up_to))) clause) clauses

-- so have the clauses that a condition is met
pub asserted_exist : VariablesAreFurther → (n : ℕ) (start new : List (List Lit)) (c : Condition) (vars : ℕ) → start ≡ [] → vars ≡ n + asserted_count c → IsOver n c → AppendsClauses start new (asserted (n + 1) [] c) → All (VariablesExist vars) new
asserted_exist further n start new c vars none are over appends =
    let same : new ≡ appends.added = appends.follows ∙ ap (λ (clauses : List (List Lit)). clauses ++ appends.added) none in
    subst (λ (m : ℕ). All (VariablesExist m) new) (sym are)
    (subst (λ (clauses : List (List Lit)). All (VariablesExist (n + asserted_count c)) clauses) (sym same)
    (clauses_up_to (n + asserted_count c) (asserted (n + 1) [] c) appends.added appends.are (asserted_up_to further n c over)))
