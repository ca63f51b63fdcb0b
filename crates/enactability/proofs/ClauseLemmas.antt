-- The formula of a message: the shared clauses, and that it is sent.
use Rattle.std.proofs.Common.{◌≡◌, ℕ, ◌<◌, ◌≤◌, List, [], ◌∷◌, ◌++◌, length, sym, ap, ◌∙◌, subst, arith, append_assoc, length-append, All, Contains}
use Rattle.std.proofs.lemmas.List.Elements.{All-contains_itself, All-push, All-weaker}
use Rattle.list_base.proofs.Members.{only}
use Rattle.bspl_types.specs.declared.expanded.Expanded.{Expanded}
use Rattle.clause_core.specs.declared.formula.Formula.{Formula}
use Rattle.clause_core.specs.declared.literal.Lit.{Lit}
use Rattle.clause_core.specs.Clause.{IsClauseOf, VariablesExist}
use Rattle.clause_core.specs.Written.{AppendsClauses, Written, AreClausesOf}
use Rattle.clause_encoding.specs.Families.{shared_clauses}
use Rattle.clause_encoding.specs.Formula.{safety_variables}
use Rattle.clause_encoding.specs.Laws.{ClausesAreAsMany, SafetyClausesAreFew}
use Rattle.clause_encoding.specs.Ordered.{IsSharedFormula}
use Rattle.clause_encoding.specs.Rivals.{rival_clauses}
use Rattle.clause_encoding.specs.Variables.{occurs, sent}
use Rattle.order_axioms.specs.declared.ordered_formula.OrderedFormula.{OrderedFormula}
use Rattle.order_axioms.specs.Order.{order_list}
use Rattle.enactability.specs.EnactFormula.{IsEnactFormula, enact_clauses, sent_clause}
use Rattle.enactability.specs.Laws.{EnactClausesAreFew}
use Rattle.enactability.specs.inner.Sent.{AlsoSends}

-- clauses of one list and then of another
joined : (written others : List Written) (clauses more : List (List Lit)) → AreClausesOf written clauses → AreClausesOf others more → AreClausesOf (written ++ others) (clauses ++ more)
joined [] others [] more are also = also
joined [] others (clause ∷ clauses) more are also = absurd are
joined (lits ∷ written) others [] more are also = absurd are
joined (lits ∷ written) others (clause ∷ clauses) more are also = (are.0, joined written others clauses more are.1 also)

-- the clause that the message is sent makes the shared formula that of the message
pub sent_too : (x : Expanded) (m : ℕ) (f g : Formula) → IsSharedFormula x (safety_variables x) f → AlsoSends m f g → IsEnactFormula x m g
sent_too x m f g is also = record {
  vars = also.vars ∙ is.vars;
  clauses = subst (AreClausesOf (enact_clauses x m)) (sym also.clauses.follows) (joined (shared_clauses x (safety_variables x)) (sent_clause m) f.clauses also.clauses.added is.clauses also.clauses.are);
}

-- what is appended is appended also after other clauses
pub appended_after : (first old new : List (List Lit)) (written : List Written) → AppendsClauses old new written → AppendsClauses (first ++ old) (first ++ new) written
appended_after first old new written appends = record {
  added = appends.added;
  follows = ap (λ (clauses : List (List Lit)). first ++ clauses) appends.follows ∙ sym (append_assoc first old appends.added);
  are = appends.are;
}

-- the clause of one literal has its variable
one_exists : (vars : ℕ) (l : Lit) (clause : List Lit) → IsClauseOf (l ∷ []) clause → 0 < l.var → l.var ≤ vars → VariablesExist vars clause
one_exists vars l clause is from_one up_to =
    All-weaker (Contains clause) (λ (k : Lit). (0 < k.var) × (k.var ≤ vars))
    (λ k among. subst (λ (other : Lit). (0 < other.var) × (other.var ≤ vars)) (only l k ((is.exactly k).0 among)) (from_one, up_to))
    clause (All-contains_itself clause)

-- so the variables of all clauses exist
pub still_exist : (vars m : ℕ) (old new : List (List Lit)) → All (VariablesExist vars) old → sent m ≤ vars → AppendsClauses old new (sent_clause m) → All (VariablesExist vars) new
still_exist vars m old new all exists appends = by_added appends.added appends.follows appends.are
  where
    by_added : (added : List (List Lit)) → new ≡ old ++ added → AreClausesOf (sent_clause m) added → All (VariablesExist vars) new
    by_added [] follows are = absurd are
    by_added (clause ∷ []) follows are =
        subst (λ (clauses : List (List Lit)). All (VariablesExist vars) clauses) (sym follows)
        (All-push (VariablesExist vars) old clause all (one_exists vars (occurs (sent m)) clause are.0 (omega arith) exists))
    by_added (clause ∷ next ∷ added) follows are = absurd are.1

pub whole_exist : (old : OrderedFormula) (m : ℕ) (new : List (List Lit)) → sent m ≤ old.stored.vars → AppendsClauses old.stored.clauses new (sent_clause m) → All (VariablesExist old.stored.vars) (order_list old.order ++ new)
whole_exist old m new exists appends =
    let order = order_list old.order in
    still_exist old.stored.vars m (order ++ old.stored.clauses) (order ++ new) old.variables_exist exists (appended_after order old.stored.clauses new (sent_clause m) appends)

-- the clauses are few
pub enact_few : SafetyClausesAreFew → EnactClausesAreFew
enact_few few x m =
    let shared = shared_clauses x (safety_variables x) in
    omega (arith, few x, length-append shared (rival_clauses x), length-append shared (sent_clause m))

-- so are those of the formula
pub formula_few : ClausesAreAsMany → EnactClausesAreFew → (x : Expanded) (m : ℕ) (f : Formula) → IsEnactFormula x m f → length f.clauses ≤ 8000001
formula_few as_many few x m f is = omega (arith, as_many (enact_clauses x m) f.clauses is.clauses, few x m)

-- the message has its variable, whose number is small
pub message_few : (x : Expanded) (m : ℕ) → m < length x.messages → m < 64
message_few x m known = let few = x.shape.counts.few_messages in omega (arith, known, few)

pub variable_exists : (x : Expanded) (m : ℕ) (f : Formula) → IsSharedFormula x (safety_variables x) f → m < length x.messages → sent m ≤ f.vars
variable_exists x m f is known = omega (arith, is.vars, known)
