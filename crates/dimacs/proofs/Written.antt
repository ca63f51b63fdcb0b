-- Clauses satisfy what the written ones do, and a formula of a text has a verdict.
use Rattle.std.proofs.Common.{ℕ, ◌+◌, ◌^◌, ◌≤◌, Bool, List, [], ◌∷◌, length, Contains, sym, subst}
use Rattle.std.proofs.lemmas.List.Elements.{All-cons, All-head, All-tail}
use Rattle.clause_core.specs.declared.literal.Lit.{Lit}
use Rattle.clause_core.specs.Assignment.{valuation}
use Rattle.clause_core.specs.declared.formula.Formula.{Formula}
use Rattle.clause_core.specs.Clause.{Satisfies, SatisfiesAll, IsUnsatisfiable}
use Rattle.refutation_log.specs.declared.refutation.Log.{Log}
use Rattle.sat_solver.specs.Outcome.{IsModel, Refutes}
use Rattle.lrat_text.specs.Proof.{IsProofOf}
use Rattle.dimacs.specs.Dimacs.{IsDimacs, clause_limit}
use Rattle.dimacs.specs.Verdict.{HaveExactly, IsFormulaOf, IsProved, IsRefutedText, IsSatisfied}
use Rattle.dimacs.specs.Refusal.{HasTooMany}
use Rattle.dimacs.proofs.TokenLemmas.{exactly_as_many}

-- a clause is satisfied where one is whose literals it has
satisfied_moves : (v : ℕ → Bool) (c w : List Lit) → ((l : Lit) → Contains c l → Contains w l) → Satisfies v c → Satisfies v w
satisfied_moves v c w kept (k, l, within, is, makes) =
    let among = kept l (k, within, is) in
    (among.0, l, among.1, among.2, makes)

-- the written clauses are satisfied where the clauses are
pub written_satisfied : (v : ℕ → Bool) (clauses written : List (List Lit)) → HaveExactly clauses written → SatisfiesAll v clauses → SatisfiesAll v written
written_satisfied v [] [] same all = all
written_satisfied v [] (w ∷ ws) same all = absurd same
written_satisfied v (c ∷ cs) [] same all = absurd same
written_satisfied v (c ∷ cs) (w ∷ ws) same all =
    All-cons (Satisfies v) w ws (satisfied_moves v c w (λ l. (same.0 l).0) (All-head (Satisfies v) c cs all)) (written_satisfied v cs ws same.1 (All-tail (Satisfies v) c cs all))

-- and the other way
pub clauses_satisfied : (v : ℕ → Bool) (clauses written : List (List Lit)) → HaveExactly clauses written → SatisfiesAll v written → SatisfiesAll v clauses
clauses_satisfied v [] [] same all = all
clauses_satisfied v [] (w ∷ ws) same all = absurd same
clauses_satisfied v (c ∷ cs) [] same all = absurd same
clauses_satisfied v (c ∷ cs) (w ∷ ws) same all =
    All-cons (Satisfies v) c cs (satisfied_moves v w c (λ l. (same.0 l).1) (All-head (Satisfies v) w ws all)) (clauses_satisfied v cs ws same.1 (All-tail (Satisfies v) w ws all))

-- its formula has no more clauses than a header may say
pub few_clauses : (text : List ℕ) (f : Formula) → IsFormulaOf text f → length f.clauses ≤ clause_limit
few_clauses text f read =
    subst (λ n. n ≤ clause_limit) (sym (exactly_as_many f.clauses read.written read.same)) read.read.header.header.few_clauses

-- what satisfies the formula of a text, and has its variables, satisfies the text
pub read_satisfied : (text : List ℕ) (f : Formula) (assignment : List Bool) → IsFormulaOf text f → IsModel f assignment → IsSatisfied text assignment
read_satisfied text f assignment is_formula model = record {
  written = is_formula.written;
  read = subst (λ n. IsDimacs text n is_formula.written) (sym model.whole) is_formula.read;
  satisfies = written_satisfied (valuation assignment) f.clauses is_formula.written is_formula.same model.satisfies;
}

-- a log within the budget refutes the formula, so that nothing satisfies what is written
pub read_refuted : (text : List ℕ) (f : Formula) (budget : ℕ) (log : Log) (is_formula : IsFormulaOf text f) → Refutes f budget log → IsUnsatisfiable f.clauses → IsRefutedText text budget
read_refuted text f budget log is_formula refutes none = record {
  formula = f;
  read = is_formula;
  log = log;
  refutes = refutes;
  none = λ v all. none v (clauses_satisfied v f.clauses is_formula.written is_formula.same all);
}

-- and a proof by that log is one of the formula
pub read_proved : (text : List ℕ) (f : Formula) (budget : ℕ) (log : Log) (proof : List ℕ) → IsFormulaOf text f → Refutes f budget log → IsUnsatisfiable f.clauses → IsProofOf f log proof → IsProved text budget proof
unfolding read_refuted
read_proved text f budget log proof is_formula refutes none proves = record {
  refuted = read_refuted text f budget log is_formula refutes none;
  proves = proves;
}

-- a formula whose clauses and the budget are too many
pub read_too_many : (text : List ℕ) (f : Formula) (budget : ℕ) → IsFormulaOf text f → 2 ^ 32 ≤ length f.clauses + budget → HasTooMany text budget
read_too_many text f budget is_formula many = record {
  vars = f.vars;
  written = is_formula.written;
  read = is_formula.read;
  many = subst (λ n. 2 ^ 32 ≤ n + budget) (exactly_as_many f.clauses is_formula.written is_formula.same) many;
}
