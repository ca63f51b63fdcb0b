-- What the entries of a log lead to, one after the other.
use Rattle.std.proofs.Common.{◌≡◌, ◌↔◌, ℕ, zero, suc, ◌-◌, eqb, cond, List, [], ◌∷◌, ◌++◌, length, get_or, map, Some, None, slice_get, refl, sym, ap, ◌∙◌}
use Rattle.std.proofs.lemmas.List.{append_assoc, append-nil, map-append}
use Rattle.clause_core.specs.declared.literal.Lit.{Lit}
use Rattle.clause_core.specs.declared.formula.Formula.{Formula}
use Rattle.clause_core.specs.Numbering.{Numbering, numbered, HasNumber, live}
use Rattle.refutation_log.specs.declared.refutation.Chain.{Chain}
use Rattle.refutation_log.specs.declared.refutation.Link.{Link}
use Rattle.refutation_log.specs.declared.refutation.Entry.{Entry}
use Rattle.refutation_log.specs.declared.refutation.Entry.TheVariants.{Step, Drop}
use Rattle.refutation_log.specs.declared.refutation.Log.{Log}
use Rattle.refutation_log.specs.Entries.{entries, entries_after, steps_of}
use Rattle.refutation_log.specs.Ledger.{Ledger, all_live, without, without_all, AllRemoved, IsLive, IsContaining}
use Rattle.refutation_log.specs.Resolution.{Folds, Derives, DerivesAll, Runs, ResolvesBy, LogResolves, IsNew}
use Rattle.refutation_log.proofs.LogLemmas.{log_steps}

-- entries after entries
pub runs_append : (MayEnd : Ledger → ℕ → Type 0) (first middle last : Ledger) (before after : List Entry) (derived more : List (List Lit)) → Runs MayEnd first before derived middle → Runs MayEnd middle after more last → Runs MayEnd first (before ++ after) (derived ++ more) last
runs_append MayEnd first middle last [] after derived more runs on = rw (runs.0, ← runs.1) on
runs_append MayEnd first middle last (Step chain ∷ before) after [] more runs on = absurd runs
runs_append MayEnd first middle last (Step chain ∷ before) after (clause ∷ derived) more runs on =
    (runs.0, runs_append MayEnd (first ++ Some clause ∷ []) middle last before after derived more runs.1 on)
runs_append MayEnd first middle last (Drop numbers ∷ before) after derived more runs on =
    (runs.0, runs_append MayEnd (without_all first numbers) middle last before after derived more runs.1 on)

-- what may be removed by one rule may be by another
removed_weaker : (May Other : Ledger → ℕ → Type 0) → ((ledger : Ledger) (number : ℕ) → May ledger number → Other ledger number) → (ledger : Ledger) (numbers : List ℕ) → AllRemoved May ledger numbers → AllRemoved Other ledger numbers
removed_weaker May Other weaker ledger [] removed = tt
removed_weaker May Other weaker ledger (number ∷ numbers) removed = (weaker ledger number removed.0, removed_weaker May Other weaker (without ledger number) numbers removed.1)

runs_weaker : (May Other : Ledger → ℕ → Type 0) → ((ledger : Ledger) (number : ℕ) → May ledger number → Other ledger number) → (first last : Ledger) (log : List Entry) (derived : List (List Lit)) → Runs May first log derived last → Runs Other first log derived last
runs_weaker May Other weaker first last [] derived runs = runs
runs_weaker May Other weaker first last (Step chain ∷ log) [] runs = absurd runs
runs_weaker May Other weaker first last (Step chain ∷ log) (clause ∷ derived) runs = (runs.0, runs_weaker May Other weaker (first ++ Some clause ∷ []) last log derived runs.1)
runs_weaker May Other weaker first last (Drop numbers ∷ log) derived runs =
    (removed_weaker May Other weaker first numbers runs.0, runs_weaker May Other weaker (without_all first numbers) last log derived runs.1)

pub new_log_resolves : (f : Formula) (log : Log) (new : IsNew f log) → LogResolves f log new.derived
new_log_resolves f log new = record {
  ledger = new.resolves.ledger;
  runs = runs_weaker IsContaining IsLive (λ ledger number has. record { clause = has.clause; named = has.named }) (all_live f.clauses) new.resolves.ledger (entries log) new.derived new.resolves.runs;
}

-- each step has a clause
pub runs_count : (May : Ledger → ℕ → Type 0) (first last : Ledger) (log : List Entry) (derived : List (List Lit)) → Runs May first log derived last → length derived ≡ length (steps_of log)
runs_count May first last [] derived runs = ap length runs.0
runs_count May first last (Step chain ∷ log) [] runs = absurd runs
runs_count May first last (Step chain ∷ log) (clause ∷ derived) runs = ap suc (runs_count May (first ++ Some clause ∷ []) last log derived runs.1)
runs_count May first last (Drop numbers ∷ log) derived runs = runs_count May (without_all first numbers) last log derived runs.1

pub log_count : (f : Formula) (log : Log) (derived : List (List Lit)) → LogResolves f log derived → length derived ≡ length log.steps
log_count f log derived resolves = runs_count IsLive (all_live f.clauses) resolves.ledger (entries log) derived resolves.runs ∙ ap length (log_steps log)

-- ---- a log without removals

live_at : (clauses : List (List Lit)) (index : ℕ) → get_or (map Some clauses) index None ≡ slice_get clauses index
live_at [] index = refl
live_at (clause ∷ clauses) zero = refl
live_at (clause ∷ clauses) (suc index) = live_at clauses index

pub all_live_numbered : (clauses : List (List Lit)) (number : ℕ) → live (all_live clauses) number ≡ numbered clauses number
all_live_numbered clauses number = ap (λ found. cond (eqb number 0) None found) (live_at clauses (number - 1))

same_number : (first second : Numbering) → ((n : ℕ) → first n ≡ second n) → (number : ℕ) (clause : List Lit) → HasNumber first number clause → HasNumber second number clause
same_number first second same number clause has = record { there = sym (same number) ∙ has.there }

same_folds : (first second : Numbering) → ((n : ℕ) → first n ≡ second n) → (start : List Lit) (links : List Link) (r : List Lit) → Folds first start links r → Folds second start links r
same_folds first second same start [] r folds = folds
same_folds first second same start (link ∷ links) r folds = record {
  other = folds.other;
  named = same_number first second same link.clause folds.other folds.named;
  resolvent = folds.resolvent;
  resolves = folds.resolves;
  continues = same_folds first second same folds.resolvent links r folds.continues;
}

-- a chain derives the same from equal numberings
pub same_derives : (first second : Numbering) → ((n : ℕ) → first n ≡ second n) → (chain : Chain) (clause : List Lit) → Derives first chain clause → Derives second chain clause
same_derives first second same chain clause derives = record {
  start = derives.start;
  named = same_number first second same chain.first derives.start derives.named;
  folds = same_folds first second same derives.start chain.links clause derives.folds;
}

live_push : (clauses : List (List Lit)) (clause : List Lit) → all_live (clauses ++ clause ∷ []) ≡ all_live clauses ++ Some clause ∷ []
live_push clauses clause = map-append Some clauses (clause ∷ [])

steps_run : (May : Ledger → ℕ → Type 0) (clauses : List (List Lit)) (steps : List Chain) (derived : List (List Lit)) → DerivesAll clauses steps derived → Runs May (all_live clauses) (map Step steps) derived (all_live (clauses ++ derived))
steps_run May clauses [] derived none = (none, rw (none, append-nil) refl)
steps_run May clauses (step ∷ steps) [] derives = absurd derives
steps_run May clauses (step ∷ steps) (clause ∷ derived) derives =
    let rest = steps_run May (clauses ++ clause ∷ []) steps derived derives.1 in
    (same_derives (numbered clauses) (live (all_live clauses)) (λ n. sym (all_live_numbered clauses n)) step clause derives.0, rw (live_push clauses clause, append_assoc) at rest)

run_steps : (May : Ledger → ℕ → Type 0) (clauses : List (List Lit)) (steps : List Chain) (derived : List (List Lit)) (last : Ledger) → Runs May (all_live clauses) (map Step steps) derived last → DerivesAll clauses steps derived
run_steps May clauses [] derived last runs = runs.0
run_steps May clauses (step ∷ steps) [] last runs = absurd runs
run_steps May clauses (step ∷ steps) (clause ∷ derived) last runs = (
  same_derives (live (all_live clauses)) (numbered clauses) (λ n. all_live_numbered clauses n) step clause runs.0,
  run_steps May (clauses ++ clause ∷ []) steps derived last (rw (live_push clauses clause) runs.1),
)

pub plain_log : (May : Ledger → ℕ → Type 0) (clauses derived : List (List Lit)) (log : Log) → log.removals ≡ [] → ResolvesBy May clauses log derived ↔ DerivesAll clauses log.steps derived
plain_log May clauses derived log plain =
    let same : entries log ≡ map Step log.steps = ap (entries_after 0 log.steps) plain in (
      λ resolves. run_steps May clauses log.steps derived resolves.ledger (rw same at resolves.runs),
      λ derives. record { ledger = all_live (clauses ++ derived); runs = rw same (steps_run May clauses log.steps derived derives) },
    )
