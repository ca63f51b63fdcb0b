-- A log that fails at an entry leads nowhere beyond it, and fails at that entry alone.
use Rattle.std.proofs.Common.{◌≡◌, ◌≢◌, ℕ, ◌+◌, ◌<◌, inl, inr, List, [], ◌∷◌, ◌++◌, length, take, refl, sym, ap, ap₂, subst, ◌∙◌, arith, take_all}
use Rattle.std.proofs.lemmas.Bool.{cases_order}
use Rattle.clause_core.specs.declared.literal.Lit.{Lit}
use Rattle.clause_core.specs.Resolvent.{ResolventsAgree}
use Rattle.refutation_log.specs.declared.refutation.Entry.{Entry}
use Rattle.refutation_log.specs.declared.refutation.Entry.TheVariants.{Step, Drop}
use Rattle.clause_core.specs.Numbering.{live}
use Rattle.refutation_log.specs.Ledger.{Ledger, all_live, AllRemoved, IsLive}
use Rattle.refutation_log.specs.Resolution.{Runs}
use Rattle.log_checker.specs.declared.refusal.Reject.{Reject}
use Rattle.log_checker.specs.declared.refusal.Reject.TheVariants.{NoClause, NoPivot, NoDrop, NotEmpty, NoMemory}
use Rattle.log_checker.specs.FirstFailure.{LacksLive, FailsAt}
use Rattle.log_checker.specs.inner.Stops.{EntryStops}
use Rattle.log_checker.proofs.Failing.{clause_lacking, pivot_lacking, pivot_once, clause_or_pivot}
use Rattle.log_checker.proofs.Running.{runs_one, runs_split, removed_pass, overlap, same_cut}

-- ---- a removal

item_blocks : (ledger : Ledger) (numbers : List ℕ) (item : ℕ) (at : LacksLive ledger numbers item) (n : ℕ) → at.index < n → AllRemoved IsLive ledger (take n numbers) → ⊥
item_blocks ledger numbers item at n before all =
    let found = removed_pass ledger numbers n at.index at.number before at.next all in
    at.lacks found.clause found.named

item_lacking : (ledger : Ledger) (numbers : List ℕ) (item : ℕ) → LacksLive ledger numbers item → ¬ AllRemoved IsLive ledger numbers
item_lacking ledger numbers item at all =
    let n = at.index + length numbers + 1 in
    item_blocks ledger numbers item at n (omega arith) (rw (take_all n numbers (omega arith)) all)

item_once : (ledger : Ledger) (numbers : List ℕ) (i j : ℕ) → LacksLive ledger numbers i → LacksLive ledger numbers j → i ≡ j
item_once ledger numbers i j at other =
    elim (cases_order at.index other.index) [
      | inl same ↦ omega (arith, at.counted, other.counted, same)
      | inr apart ↦ absurd (elim apart [
        | inl before ↦ item_blocks ledger numbers i at other.index before other.before
        | inr after ↦ item_blocks ledger numbers j other at.index after at.before
      ])
    ]

-- ---- an entry

-- why the entry stops, as it depends on what comes before
abbrev pub Stops : Reject → ℕ → Ledger → Entry → Type 0
Stops reject done ledger entry = EntryStops done ledger entry reject

-- an entry that stops leads to no ledger
stops_block : ResolventsAgree → (reject : Reject) → reject ≢ NoMemory → (done : ℕ) (ledger next : Ledger) (entry : Entry) (more : List (List Lit)) → Stops reject done ledger entry → ¬ Runs IsLive ledger (entry ∷ []) more next
stops_block agree (NoClause step) memory done ledger next (Step chain) [] stops runs = runs
stops_block agree (NoClause step) memory done ledger next (Step chain) (clause ∷ more) stops runs = clause_lacking agree (live ledger) chain clause stops.1 runs.0
stops_block agree (NoClause step) memory done ledger next (Drop numbers) more stops runs = stops
stops_block agree (NoPivot step link) memory done ledger next (Step chain) [] stops runs = runs
stops_block agree (NoPivot step link) memory done ledger next (Step chain) (clause ∷ more) stops runs = pivot_lacking agree link (live ledger) chain clause stops.1 runs.0
stops_block agree (NoPivot step link) memory done ledger next (Drop numbers) more stops runs = stops
stops_block agree (NoDrop after item) memory done ledger next (Step chain) more stops runs = stops
stops_block agree (NoDrop after item) memory done ledger next (Drop numbers) more stops runs = item_lacking ledger numbers item stops.1 runs.0
stops_block agree NotEmpty memory done ledger next entry more stops runs = stops
stops_block agree NoMemory memory done ledger next entry more stops runs = memory refl

-- an entry stops for one thing
stops_once : ResolventsAgree → (done : ℕ) (ledger : Ledger) (entry : Entry) (first second : Reject) → first ≢ NoMemory → second ≢ NoMemory → Stops first done ledger entry → Stops second done ledger entry → first ≡ second
stops_once agree done ledger (Step chain) (NoClause m) (NoClause n) some other one two = ap NoClause (one.0 ∙ sym two.0)
stops_once agree done ledger (Step chain) (NoClause m) (NoPivot n k) some other one two = absurd (clause_or_pivot agree k (live ledger) chain one.1 two.1)
stops_once agree done ledger (Step chain) (NoPivot m j) (NoClause n) some other one two = absurd (clause_or_pivot agree j (live ledger) chain two.1 one.1)
stops_once agree done ledger (Step chain) (NoPivot m j) (NoPivot n k) some other one two = ap₂ NoPivot (one.0 ∙ sym two.0) (pivot_once agree j k (live ledger) chain one.1 two.1)
stops_once agree done ledger (Step chain) (NoDrop m i) second some other one two = absurd one
stops_once agree done ledger (Step chain) first (NoDrop n j) some other one two = absurd two
stops_once agree done ledger (Drop numbers) (NoDrop m i) (NoDrop n j) some other one two = ap₂ NoDrop (one.0 ∙ sym two.0) (item_once ledger numbers i j one.1 two.1)
stops_once agree done ledger (Drop numbers) (NoClause m) second some other one two = absurd one
stops_once agree done ledger (Drop numbers) (NoPivot m j) second some other one two = absurd one
stops_once agree done ledger (Drop numbers) first (NoClause n) some other one two = absurd two
stops_once agree done ledger (Drop numbers) first (NoPivot n k) some other one two = absurd two
stops_once agree done ledger entry NotEmpty second some other one two = absurd one
stops_once agree done ledger entry first NotEmpty some other one two = absurd two
stops_once agree done ledger entry NoMemory second some other one two = absurd (some refl)
stops_once agree done ledger entry first NoMemory some other one two = absurd (other refl)

-- ---- a log

next_blocks : ResolventsAgree → (reject : Reject) → reject ≢ NoMemory → (done : ℕ) (ledger middle last : Ledger) (entry : Entry) (after : List Entry) (rest : List (List Lit)) → Stops reject done ledger entry → middle ≡ ledger → Runs IsLive middle (entry ∷ after) rest last → ⊥
next_blocks agree reject memory done ledger middle last entry after rest stops same runs =
    let moved : Runs IsLive ledger (entry ∷ after) rest last = subst (λ (led : Ledger). Runs IsLive led (entry ∷ after) rest last) same runs in
    let next = runs_split ledger last (entry ∷ []) after rest moved in
    stops_block agree reject memory done ledger next.middle entry next.front stops next.runs_front

-- no entries lead beyond the one that fails
beyond_blocks : ResolventsAgree → (reject : Reject) → reject ≢ NoMemory → (formula : List (List Lit)) (log : List Entry) (at : FailsAt formula log (Stops reject)) (after : List Entry) (derived : List (List Lit)) (last : Ledger) → Runs IsLive (all_live formula) (at.before ++ at.entry ∷ after) derived last → ⊥
beyond_blocks agree reject memory formula log at after derived last runs =
    let split = runs_split (all_live formula) last at.before (at.entry ∷ after) derived runs in
    let same = runs_one agree (all_live formula) split.middle at.ledger at.before split.front at.derived split.runs_front at.runs in
    next_blocks agree reject memory (length at.derived) at.ledger split.middle last at.entry after split.rest at.fails same.1 split.runs_rest

pub failure_blocks : ResolventsAgree → (reject : Reject) → reject ≢ NoMemory → (formula : List (List Lit)) (log : List Entry) → FailsAt formula log (Stops reject) → (derived : List (List Lit)) (last : Ledger) → ¬ Runs IsLive (all_live formula) log derived last
failure_blocks agree reject memory formula log at derived last runs = beyond_blocks agree reject memory formula log at at.after derived last (rw at.entries at runs)

shorter_blocks : ResolventsAgree → (first second : Reject) → first ≢ NoMemory → (formula : List (List Lit)) (log : List Entry) (at : FailsAt formula log (Stops first)) (other : FailsAt formula log (Stops second)) → length at.before < length other.before → ⊥
shorter_blocks agree first second memory formula log at other short =
    let cut = overlap at.before (at.entry ∷ at.after) other.before (other.entry ∷ other.after) (sym at.entries ∙ other.entries) short in
    let same : cut.0 ≡ at.entry = cc (cut.3) in
    let longer : other.before ≡ at.before ++ at.entry ∷ cut.2 = cut.4 ∙ ap (λ entry. at.before ++ entry ∷ cut.2) same in
    beyond_blocks agree first memory formula log at cut.2 other.derived other.ledger (rw longer at other.runs)

-- a log fails for one thing
pub failures_meet : ResolventsAgree → (first second : Reject) → first ≢ NoMemory → second ≢ NoMemory → (formula : List (List Lit)) (log : List Entry) → FailsAt formula log (Stops first) → FailsAt formula log (Stops second) → first ≡ second
failures_meet agree first second some any formula log at other =
    elim (cases_order (length at.before) (length other.before)) [
      | inl same ↦
          let cut = same_cut at.before (at.entry ∷ at.after) other.before (other.entry ∷ other.after) (sym at.entries ∙ other.entries) same in
          let entry : at.entry ≡ other.entry = cc (cut.1) in
          let led = runs_one agree (all_live formula) at.ledger other.ledger other.before at.derived other.derived (rw cut.0 at at.runs) other.runs in
          stops_once agree (length other.derived) other.ledger other.entry first second some any (rw (entry, led.0, led.1) at at.fails) other.fails
      | inr apart ↦ absurd (elim apart [
        | inl less ↦ shorter_blocks agree first second some formula log at other less
        | inr more ↦ shorter_blocks agree second first any formula log other at more
      ])
    ]
