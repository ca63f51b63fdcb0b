-- The ledger of a list of clauses and of the marks of those that are live.
use Rattle.std.proofs.Common.{◌≡◌, ◌↔◌, ℕ, zero, suc, ◌-◌, ◌<◌, Bool, true, false, cond, IsTrue, List, [], ◌∷◌, ◌++◌, length, get_or, Some, None, slice_get, slice_set, replicate, refl, sym, ap, subst, ◌∙◌, arith, rules}
use Rattle.std.proofs.lemmas.Bool.{cond-false, ne_eqb}
use Rattle.std.proofs.lemmas.List.{append_assoc, append-nil}
use Rattle.clause_core.specs.declared.literal.Lit.{Lit}
use Rattle.clause_core.specs.Numbering.{numbered, HasNumber, live}
use Rattle.refutation_log.specs.Ledger.{Ledger, all_live, IsLive}
use Rattle.log_checker.specs.ChainFailure.{HasNoClause}
use Rattle.log_checker.specs.inner.Table.{ledger_of}
use Rattle.log_checker.proofs.Folding.{names_one}

-- at first all are live
pub ledger_start : (clauses : List (List Lit)) → ledger_of clauses (replicate (length clauses) true) ≡ all_live clauses
ledger_start [] = refl
ledger_start (clause ∷ clauses) = ap (λ ledger. Some clause ∷ ledger) (ledger_start clauses)

-- one clause more, which is live
pub ledger_push : (clauses : List (List Lit)) (marks : List Bool) (clause : List Lit) → length marks ≡ length clauses → ledger_of (clauses ++ clause ∷ []) (marks ++ true ∷ []) ≡ ledger_of clauses marks ++ Some clause ∷ []
ledger_push [] [] clause same = refl
ledger_push [] (mark ∷ marks) clause same = absurd (omega (arith, same))
ledger_push (first ∷ clauses) [] clause same = absurd (omega (arith, same))
ledger_push (first ∷ clauses) (mark ∷ marks) clause same = ap (λ ledger. cond mark (Some first) None ∷ ledger) (ledger_push clauses marks clause (omega (arith, same)))

pub ledger_more : (formula derived : List (List Lit)) (marks : List Bool) (clause : List Lit) → length marks ≡ length (formula ++ derived) → ledger_of (formula ++ (derived ++ clause ∷ [])) (marks ++ true ∷ []) ≡ ledger_of (formula ++ derived) marks ++ Some clause ∷ []
ledger_more formula derived marks clause same = rw (← append_assoc) (ledger_push (formula ++ derived) marks clause same)

pub ledger_first : (formula : List (List Lit)) → ledger_of (formula ++ []) (replicate (length formula) true) ≡ all_live formula
ledger_first formula = rw append-nil (ledger_start formula)

-- a mark that is cleared
pub ledger_clear : (clauses : List (List Lit)) (marks : List Bool) (index : ℕ) → ledger_of clauses (slice_set marks index false) ≡ slice_set (ledger_of clauses marks) index None
ledger_clear [] marks index = refl
ledger_clear (clause ∷ clauses) [] index = refl
ledger_clear (clause ∷ clauses) (mark ∷ marks) zero = refl
ledger_clear (clause ∷ clauses) (mark ∷ marks) (suc index) = ap (λ ledger. cond mark (Some clause) None ∷ ledger) (ledger_clear clauses marks index)

-- what is there is the clause there, and its mark is set
record IsThere (clauses : List (List Lit)) (marks : List Bool) (index : ℕ) (clause : List Lit) : Type 0 where
  marked : get_or marks index false ≡ true
  clause_there : slice_get clauses index ≡ Some clause

there : (clauses : List (List Lit)) (marks : List Bool) (index : ℕ) (clause : List Lit) → get_or (ledger_of clauses marks) index None ≡ Some clause → IsThere clauses marks index clause
there [] marks index clause is = absurd (let none : None ≡ Some clause = is in cc)
there (first ∷ clauses) [] index clause is = absurd (let none : None ≡ Some clause = is in cc)
there (first ∷ clauses) (true ∷ marks) zero clause is = record { marked = refl; clause_there = is }
there (first ∷ clauses) (false ∷ marks) zero clause is = absurd (let none : None ≡ Some clause = is in cc)
there (first ∷ clauses) (mark ∷ marks) (suc index) clause is =
    let rest = there clauses marks index clause is in
    record { marked = rest.marked; clause_there = rest.clause_there }

marked_there : (clauses : List (List Lit)) (marks : List Bool) (index : ℕ) → length marks ≡ length clauses → get_or marks index false ≡ true → (clause : List Lit) × (get_or (ledger_of clauses marks) index None ≡ Some clause)
marked_there [] [] index same marked = absurd (cc)
marked_there [] (mark ∷ marks) index same marked = absurd (omega (arith, same))
marked_there (first ∷ clauses) [] index same marked = absurd (cc)
marked_there (first ∷ clauses) (mark ∷ marks) zero same marked = (first, ap (λ m. cond m (Some first) None) marked)
marked_there (first ∷ clauses) (mark ∷ marks) (suc index) same marked = marked_there clauses marks index (omega (arith, same)) marked

at_number : (ledger : Ledger) (number : ℕ) (clause : List Lit) → HasNumber (live ledger) number clause → (0 < number) × (get_or ledger (number - 1) None ≡ Some clause)
at_number ledger zero clause named = absurd (let none : None ≡ Some clause = named.there in cc)
at_number ledger (suc n) clause named = (omega arith, sym (cond-false _ _ _ (ne_eqb (suc n) 0 (λ is. omega arith))) ∙ named.there)

number_at : (ledger : Ledger) (number : ℕ) (clause : List Lit) → 0 < number → get_or ledger (number - 1) None ≡ Some clause → HasNumber (live ledger) number clause
number_at ledger zero clause some is = absurd (omega (arith, some))
number_at ledger (suc n) clause some is = record { there = cond-false _ _ _ (ne_eqb (suc n) 0 (λ e. omega arith)) ∙ is }

numbered_at : (clauses : List (List Lit)) (number : ℕ) (clause : List Lit) → 0 < number → slice_get clauses (number - 1) ≡ Some clause → HasNumber (numbered clauses) number clause
numbered_at clauses zero clause some is = absurd (omega (arith, some))
numbered_at clauses (suc n) clause some is = record { there = cond-false _ _ _ (ne_eqb (suc n) 0 (λ e. omega arith)) ∙ is }

-- a number is live where its mark is set
pub live_marked : (clauses : List (List Lit)) (marks : List Bool) (number : ℕ) → 0 < number → length marks ≡ length clauses → get_or marks (number - 1) false ≡ true → IsLive (ledger_of clauses marks) number
live_marked clauses marks number some same marked =
    let found = marked_there clauses marks (number - 1) same marked in
    record { clause = found.0; named = number_at (ledger_of clauses marks) number found.0 some found.1 }

pub marked_live : (clauses : List (List Lit)) (marks : List Bool) (number : ℕ) → IsLive (ledger_of clauses marks) number → (0 < number) × (get_or marks (number - 1) false ≡ true)
marked_live clauses marks number is =
    let found = at_number (ledger_of clauses marks) number is.clause is.named in
    (found.0, (there clauses marks (number - 1) is.clause found.1).marked)

-- the live clause of a number is the clause of the number
pub numbered_live : (clauses : List (List Lit)) (marks : List Bool) (number : ℕ) (clause : List Lit) → HasNumber (live (ledger_of clauses marks)) number clause → HasNumber (numbered clauses) number clause
numbered_live clauses marks number clause named =
    let found = at_number (ledger_of clauses marks) number clause named in
    numbered_at clauses number clause found.0 (there clauses marks (number - 1) clause found.1).clause_there

pub live_numbered : (clauses : List (List Lit)) (marks : List Bool) (number : ℕ) (clause : List Lit) → IsLive (ledger_of clauses marks) number → HasNumber (numbered clauses) number clause → HasNumber (live (ledger_of clauses marks)) number clause
live_numbered clauses marks number clause is named =
    let same = names_one (numbered clauses) number is.clause clause (numbered_live clauses marks number is.clause is.named) named in
    rw same at is.named

pub none_numbered : (clauses : List (List Lit)) (marks : List Bool) (number : ℕ) → HasNoClause (numbered clauses) number → HasNoClause (live (ledger_of clauses marks)) number
none_numbered clauses marks number none clause named = none clause (numbered_live clauses marks number clause named)

pub none_live : (ledger : Ledger) (number : ℕ) → (IsLive ledger number → ⊥) → HasNoClause (live ledger) number
none_live ledger number none clause named = none (record { clause = clause; named = named })

-- the mark of a number says whether it is live
pub live_iff : (clauses : List (List Lit)) (marks : List Bool) (ledger : Ledger) (number : ℕ) (mark : Bool) → ledger_of clauses marks ≡ ledger → 0 < number → length marks ≡ length clauses → mark ≡ get_or marks (number - 1) false → IsTrue mark ↔ IsLive ledger number
live_iff clauses marks ledger number mark table some same is = (
  λ set. subst (λ (led : Ledger). IsLive led number) table (live_marked clauses marks number some same (sym is ∙ mark_true mark set)),
  λ live. true_mark mark (is ∙ (marked_live clauses marks number (subst (λ (led : Ledger). IsLive led number) (sym table) live)).1),
)
  where
    mark_true : (m : Bool) → IsTrue m → m ≡ true
    mark_true m set = search rules

    true_mark : (m : Bool) → m ≡ true → IsTrue m
    true_mark m set = search rules
