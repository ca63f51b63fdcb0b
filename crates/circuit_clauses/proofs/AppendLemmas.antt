-- What two steps append.
use Rattle.std.proofs.Common.{◌≡◌, ℕ, ◌+◌, List, [], ◌∷◌, ◌++◌, sym, ap, subst, ◌∙◌, append-nil, append_assoc}
use Rattle.clause_core.specs.declared.literal.Lit.{Lit}
use Rattle.clause_core.specs.Literal.{negated, positive}
use Rattle.clause_core.specs.Written.{AppendsClauses, AreClausesOf, Written}
use Rattle.circuit_clauses.specs.Asserted.{asserted, asserted_count, part_clauses, part_count, part_lits}
use Rattle.circuit_clauses.specs.Condition.{Condition, Both, Either}

-- clauses of one list and then of another
joined : (written others : List Written) (clauses more : List (List Lit)) → AreClausesOf written clauses → AreClausesOf others more → AreClausesOf (written ++ others) (clauses ++ more)
joined [] others [] more are also = also
joined [] others (clause ∷ clauses) more are also = absurd are
joined (lits ∷ written) others [] more are also = absurd are
joined (lits ∷ written) others (clause ∷ clauses) more are also = (are.0, joined written others clauses more are.1 also)

-- nothing is appended
pub appends_nothing : (old : List (List Lit)) → AppendsClauses old old []
appends_nothing old = record { added = []; follows = sym (append-nil old); are = tt }

-- two steps
pub appends_both : (old mid new : List (List Lit)) (written others : List Written) → AppendsClauses old mid written → AppendsClauses mid new others → AppendsClauses old new (written ++ others)
appends_both old mid new written others first second =
    record {
      added = first.added ++ second.added;
      follows = second.follows ∙ ap (λ clauses. clauses ++ second.added) first.follows ∙ append_assoc old first.added second.added;
      are = joined written others first.added second.added first.are second.are;
    }

-- one clause, and then two steps
pub appends_first : (old one mid new : List (List Lit)) (lits : List Lit) (written others : List Written) → AppendsClauses old one (lits ∷ []) → AppendsClauses one mid written → AppendsClauses mid new others → AppendsClauses old new (lits ∷ (written ++ others))
appends_first old one mid new lits written others first second third =
    appends_both old one new (lits ∷ []) (written ++ others) first (appends_both one mid new written others second third)

-- both of two conditions are asserted, one after the other
pub asserted_in_turn : (old mid new : List (List Lit)) (n m : ℕ) (guard : List Lit) (c d : Condition) (x : Condition) → x ≡ Both c d → m ≡ n + asserted_count c → AppendsClauses old mid (asserted n guard c) → AppendsClauses mid new (asserted m guard d) → AppendsClauses old new (asserted n guard x)
asserted_in_turn old mid new n m guard c d x is next first second =
    subst (λ (y : Condition). AppendsClauses old new (asserted n guard y)) (sym is)
    (appends_both old mid new (asserted n guard c) (asserted (n + asserted_count c) guard d) first
    (subst (λ (k : ℕ). AppendsClauses mid new (asserted k guard d)) next second))

-- the clause of a disjunction, and the clauses of its parts
pub disjunction_in_turn : (old one mid new : List (List Lit)) (n m : ℕ) (guard lits : List Lit) (c d : Condition) (x : Condition) → x ≡ Either c d → m ≡ n + part_count c → lits ≡ (guard ++ part_lits n c) ++ part_lits m d → AppendsClauses old one (lits ∷ []) → AppendsClauses one mid (part_clauses n c) → AppendsClauses mid new (part_clauses m d) → AppendsClauses old new (asserted n guard x)
disjunction_in_turn old one mid new n m guard lits c d x is next literals first second third =
    let same = literals ∙ ap (λ k. (guard ++ part_lits n c) ++ part_lits k d) next ∙ append_assoc guard (part_lits n c) (part_lits (n + part_count c) d) in
    subst (λ (y : Condition). AppendsClauses old new (asserted n guard y)) (sym is)
    (appends_first old one mid new (guard ++ (part_lits n c ++ part_lits (n + part_count c) d)) (part_clauses n c) (part_clauses (n + part_count c) d)
    (subst (λ (ls : List Lit). AppendsClauses old one (ls ∷ [])) same first) second
    (subst (λ (k : ℕ). AppendsClauses mid new (part_clauses k d)) next third))

-- the clauses of a part that has a variable
pub part_in_turn : (old mid new : List (List Lit)) (n m : ℕ) (off : Lit) (c d : Condition) (x : Condition) → x ≡ Both c d → off ≡ negated (positive n) → m ≡ n + 1 + asserted_count c → AppendsClauses old mid (asserted (n + 1) (off ∷ []) c) → AppendsClauses mid new (asserted m (off ∷ []) d) → AppendsClauses old new (part_clauses n x)
part_in_turn old mid new n m off c d x is guards next first second =
    let guard = negated (positive n) ∷ [] in
    subst (λ (y : Condition). AppendsClauses old new (part_clauses n y)) (sym is)
    (appends_both old mid new (asserted (n + 1) guard c) (asserted (n + 1 + asserted_count c) guard d)
    (subst (λ (l : Lit). AppendsClauses old mid (asserted (n + 1) (l ∷ []) c)) guards first)
    (subst (λ (l : Lit). AppendsClauses mid new (asserted (n + 1 + asserted_count c) (l ∷ []) d)) guards
    (subst (λ (k : ℕ). AppendsClauses mid new (asserted k (off ∷ []) d)) next second)))

-- those of a part that is a disjunction
pub parts_in_turn : (old mid new : List (List Lit)) (n m : ℕ) (c d : Condition) (x : Condition) → x ≡ Either c d → m ≡ n + part_count c → AppendsClauses old mid (part_clauses n c) → AppendsClauses mid new (part_clauses m d) → AppendsClauses old new (part_clauses n x)
parts_in_turn old mid new n m c d x is next first second =
    subst (λ (y : Condition). AppendsClauses old new (part_clauses n y)) (sym is)
    (appends_both old mid new (part_clauses n c) (part_clauses (n + part_count c) d) first
    (subst (λ (k : ℕ). AppendsClauses mid new (part_clauses k d)) next second))
