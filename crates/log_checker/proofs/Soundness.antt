-- What is accepted has no solution.
use Rattle.std.proofs.Common.{◌≡◌, zero, suc, Option, Some, None, sym, subst, ◌∙◌, get_or, ℕ, ◌-◌, Bool, List, [], ◌∷◌, ◌++◌, arith, slice_set}
use Rattle.std.specs.List.{AllByRecursion}
use Rattle.std.proofs.lemmas.Bool.{cond-false, ne_eqb}
use Rattle.std.proofs.lemmas.List.Elements.{All-contains, All-append, All-from_recursion, recursion_from_All}
use Rattle.clause_core.specs.declared.literal.Lit.{Lit}
use Rattle.clause_core.specs.declared.formula.Formula.{Formula}
use Rattle.clause_core.specs.Clause.{Satisfies, IsUnsatisfiable}
use Rattle.clause_core.specs.Numbering.{HasNumber, live}
use Rattle.clause_core.specs.Resolvent.{ResolventsFollow}
use Rattle.refutation_log.specs.declared.refutation.Link.{Link}
use Rattle.refutation_log.specs.declared.refutation.Chain.{Chain}
use Rattle.refutation_log.specs.declared.refutation.Entry.{Entry}
use Rattle.refutation_log.specs.declared.refutation.Entry.TheVariants.{Step, Drop}
use Rattle.refutation_log.specs.declared.refutation.Log.{Log}
use Rattle.refutation_log.specs.Entries.{entries}
use Rattle.refutation_log.specs.Ledger.{Ledger, all_live, without, without_all, IsLive}
use Rattle.refutation_log.specs.Resolution.{Folds, Derives, Runs, Accepts}

-- the clause is satisfied, if there is one
abbrev Holds : (ℕ → Bool) → Option (List Lit) → Type 0
Holds v None = Unit {0}
Holds v (Some clause) = Satisfies v clause

abbrev HoldAll : (ℕ → Bool) → Ledger → Type 0
HoldAll v ledger = AllByRecursion (Holds v) ledger

hold_start : (v : ℕ → Bool) (clauses : List (List Lit)) → AllByRecursion (Satisfies v) clauses → HoldAll v (all_live clauses)
hold_start v [] all = tt
hold_start v (clause ∷ clauses) all = (all.0, hold_start v clauses all.1)

hold_push : (v : ℕ → Bool) (ledger : Ledger) (clause : List Lit) → HoldAll v ledger → Satisfies v clause → HoldAll v (ledger ++ Some clause ∷ [])
hold_push v [] clause all holds = (holds, tt)
hold_push v (first ∷ ledger) clause all holds = (all.0, hold_push v ledger clause all.1 holds)

hold_without : (v : ℕ → Bool) (ledger : Ledger) (index : ℕ) → HoldAll v ledger → HoldAll v (slice_set ledger index None)
hold_without v [] index all = tt
hold_without v (first ∷ ledger) zero all = (tt, all.1)
hold_without v (first ∷ ledger) (suc index) all = (all.0, hold_without v ledger index all.1)

hold_without_all : (v : ℕ → Bool) (ledger : Ledger) (numbers : List ℕ) → HoldAll v ledger → HoldAll v (without_all ledger numbers)
hold_without_all v ledger [] all = all
hold_without_all v ledger (number ∷ numbers) all = hold_without_all v (without ledger number) numbers (hold_without v ledger (number - 1) all)

hold_at : (v : ℕ → Bool) (ledger : Ledger) (index : ℕ) (clause : List Lit) → HoldAll v ledger → get_or ledger index None ≡ Some clause → Satisfies v clause
hold_at v [] index clause all there = absurd (let none : None ≡ Some clause = there in cc)
hold_at v (first ∷ ledger) zero clause all there = subst (Holds v) there all.0
hold_at v (first ∷ ledger) (suc index) clause all there = hold_at v ledger index clause all.1 there

-- the clause of a number is the item before that number
live_there : (ledger : Ledger) (number : ℕ) (clause : List Lit) → HasNumber (live ledger) number clause → get_or ledger (number - 1) None ≡ Some clause
live_there ledger zero clause named = absurd (let none : None ≡ Some clause = named.there in cc)
live_there ledger (suc n) clause named = sym (cond-false _ _ _ (ne_eqb (suc n) 0 (λ is. omega arith))) ∙ named.there

named_satisfied : (v : ℕ → Bool) (ledger : Ledger) (number : ℕ) (clause : List Lit) → HoldAll v ledger → HasNumber (live ledger) number clause → Satisfies v clause
named_satisfied v ledger number clause all named = hold_at v ledger (number - 1) clause all (live_there ledger number clause named)

folded_satisfied : ResolventsFollow → (v : ℕ → Bool) (ledger : Ledger) (start : List Lit) (links : List Link) (r : List Lit) → HoldAll v ledger → Satisfies v start → Folds (live ledger) start links r → Satisfies v r
folded_satisfied follows v ledger start [] r all holds folds = rw folds at holds
folded_satisfied follows v ledger start (link ∷ links) r all holds folds =
    let other = named_satisfied v ledger link.clause folds.other all folds.named in
    let next = follows start folds.other folds.resolvent link.pivot folds.resolves v holds other in
    folded_satisfied follows v ledger folds.resolvent links r all next folds.continues

derived_satisfied : ResolventsFollow → (v : ℕ → Bool) (ledger : Ledger) (chain : Chain) (clause : List Lit) → HoldAll v ledger → Derives (live ledger) chain clause → Satisfies v clause
derived_satisfied follows v ledger chain clause all derives =
    folded_satisfied follows v ledger derives.start chain.links clause all (named_satisfied v ledger chain.first derives.start all derives.named) derives.folds

-- what satisfies the live clauses satisfies each derived clause
all_satisfied : ResolventsFollow → (v : ℕ → Bool) (ledger last : Ledger) (log : List Entry) (derived : List (List Lit)) → HoldAll v ledger → Runs IsLive ledger log derived last → AllByRecursion (Satisfies v) derived
all_satisfied follows v ledger last [] derived all runs = subst (AllByRecursion (Satisfies v)) (sym runs.0) tt
all_satisfied follows v ledger last (Step chain ∷ log) [] all runs = absurd runs
all_satisfied follows v ledger last (Step chain ∷ log) (clause ∷ derived) all runs =
    let holds = derived_satisfied follows v ledger chain clause all runs.0 in
    (holds, all_satisfied follows v (ledger ++ Some clause ∷ []) last log derived (hold_push v ledger clause all holds) runs.1)
all_satisfied follows v ledger last (Drop numbers ∷ log) derived all runs = all_satisfied follows v (without_all ledger numbers) last log derived (hold_without_all v ledger numbers all) runs.1

empty_not_satisfied : (v : ℕ → Bool) → ¬ Satisfies v []
empty_not_satisfied v holds = absurd (omega (arith, holds.2))

-- no valuation satisfies a formula for which a log is accepted
pub accepted_unsatisfiable : ResolventsFollow → (f : Formula) (log : Log) → Accepts f log → IsUnsatisfiable f.clauses
accepted_unsatisfiable follows f log accepts v all =
    let start = hold_start v f.clauses (recursion_from_All (Satisfies v) f.clauses all) in
    let derived = all_satisfied follows v (all_live f.clauses) accepts.resolves.ledger (entries log) accepts.derived start accepts.resolves.runs in
    let both = All-append (Satisfies v) f.clauses accepts.derived all (All-from_recursion (Satisfies v) accepts.derived derived) in
    empty_not_satisfied v (All-contains (Satisfies v) (f.clauses ++ accepts.derived) [] both accepts.empty)
