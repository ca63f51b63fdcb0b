-- How entries follow one another, and what forced entries add.
use Rattle.std.proofs.Common.{Option, ◌≡◌, ℕ, zero, suc, ◌<◌, ◌≤◌, Some, option_map, IsSome, List, [], ◌∷◌, ◌++◌, inl, inr, length, sym, ap, refl, ◌∙◌, subst, append_assoc, append-nil, arith, All, Contains}
use Rattle.std.proofs.lemmas.List.Elements.{All-append, All-contains}
use Rattle.clause_core.specs.declared.literal.Lit.{Lit}
use Rattle.clause_core.specs.Clause.{VariablesExist}
use Rattle.clause_core.specs.Propagation.{LeavesOnly}
use Rattle.sat_trail.specs.declared.entry.Entry.{Entry}
use Rattle.sat_trail.specs.Entry.{values_of, last_level}
use Rattle.clause_core.specs.Numbering.{Numbering, HasNumber, live}
use Rattle.sat_trail.specs.inner.Growth.{Grows}
use Rattle.sat_trail.specs.inner.Examination.{IsSettled}
use Rattle.sat_trail.specs.inner.Storage.{Assigned}
use Rattle.std.proofs.lemmas.Bool.{cases_lt}
use Rattle.sat_trail.specs.declared.watch.Cell.{Cell}
use Rattle.sat_trail.specs.inner.Excuse.{WatchesTwo}
use Rattle.sat_trail.specs.inner.Propagation.{CanPropagate, Extends, HasWatches}
use Rattle.sat_trail.specs.inner.Watches.{cell_of, Watches}
use Rattle.sat_trail.proofs.FactLemmas.{once-grown}
use Rattle.sat_trail.proofs.LevelLemmas.{IsTop-grown, IsTop-none}
use Rattle.sat_trail.proofs.ValueLemmas.{IsOnce}
use Rattle.sat_trail.proofs.WatchedLemmas.{AreWatched-more}
use Rattle.sat_trail.proofs.EntryLemmas.{entry_of-push_same, values_of-none}
use Rattle.sat_trail.proofs.StorageLemmas.{last_level-push}
use Rattle.sat_trail.proofs.NumberLemmas.{number_within}
use Rattle.sat_trail.proofs.SettledLemmas.{IsSettled-true}

-- the variables of a live clause exist
pub exists_in : (vars : ℕ) (clauses : List (Option (List Lit))) (number : ℕ) (clause : List Lit) (l : Lit) → ((n : ℕ) (c : List Lit) → HasNumber (live clauses) n c → VariablesExist vars c) → HasNumber (live clauses) number clause → Contains clause l → (0 < l.var) × (l.var ≤ vars)
exists_in vars clauses number clause l exist has among =
    All-contains (λ m. (0 < m.var) × (m.var ≤ vars)) clause l
    (exist number clause has) among

-- entries that follow, and those that follow them
pub Grows-append : (numbering : Numbering) (before xs ys : List Entry) → Grows numbering before xs → Grows numbering (before ++ xs) ys → Grows numbering before (xs ++ ys)
Grows-append numbering before [] ys first second = subst (λ es. Grows numbering es ys) (append-nil before) second
Grows-append numbering before (x ∷ xs) ys first second = (
  first.0,
  Grows-append numbering (before ++ x ∷ []) xs ys first.1
      (subst (λ es. Grows numbering es ys) (sym (append_assoc before (x ∷ []) xs)) second),
)

-- the entry that a clause forces
abbrev pub forced_entry : Lit → ℕ → ℕ → Entry
forced_entry l level number = record { lit = l; level = level; reason = Some number }

-- a clause with one literal left forces it
pub Extends-force : (clauses : List (Option (List Lit))) (level number : ℕ) (clause : List Lit) (l : Lit) (old new : Assigned) → last_level old.entries ≡ level → HasNumber (live clauses) number clause → LeavesOnly (values_of old.entries) clause l → (0 < l.var) × (l.var ≤ old.vars) → new ≡ record old { entries = old.entries ++ forced_entry l level number ∷ [] } → Extends clauses level old new
Extends-force clauses level number clause l old new reached has leaves exists grows = record {
  added = forced_entry l level number ∷ [];
  grows = grows;
  follow = (record { no_value = leaves.no_value; cause = inr (record { number = number; clause = clause; reason = refl; has_number = has; leaves = leaves; stays = sym reached }) }, tt);
  forced = λ k d within. one_forced k d within;
  exist = λ k d within. one_exists k d within;
  stays = ap (λ (s : Assigned). last_level s.entries) grows ∙ last_level-push old.entries (forced_entry l level number);
}
  where
    one_forced : All (λ e. (e.level ≡ level) × IsSome e.reason) (forced_entry l level number ∷ [])
    one_forced zero d within = (refl, refl)
    one_forced (suc k) d within = absurd (omega arith)

    one_exists : All (λ e. (0 < e.lit.var) × (e.lit.var ≤ old.vars)) (forced_entry l level number ∷ [])
    one_exists zero d within = exists
    one_exists (suc k) d within = absurd (omega arith)

-- the clause that forced a literal is settled by it
pub IsSettled-force : (clause : List Lit) (l : Lit) (level number : ℕ) (old new : Assigned) → LeavesOnly (values_of old.entries) clause l → new ≡ record old { entries = old.entries ++ forced_entry l level number ∷ [] } → IsSettled (values_of new.entries) (values_of new.entries) clause
IsSettled-force clause l level number old new leaves grows = rw grows
    (IsSettled-true (values_of (old.entries ++ forced_entry l level number ∷ [])) clause l leaves.among
    (ap (option_map (λ (e : Entry). e.lit.positive)) (entry_of-push_same old.entries (forced_entry l level number) (values_of-none old.entries l.var leaves.no_value))))

-- nothing was added
pub Extends-none : (clauses : List (Option (List Lit))) (level : ℕ) (set : Assigned) → last_level set.entries ≡ level → Extends clauses level set set
Extends-none clauses level set reached = record {
  added = [];
  grows = ap (λ es. let s : Assigned = record { vars = set.vars; entries = es } in s) (sym (append-nil set.entries));
  follow = tt;
  forced = λ k d within. absurd (omega arith);
  exist = λ k d within. absurd (omega arith);
  stays = reached;
}

-- more was added to what was added
pub Extends-more : (clauses : List (Option (List Lit))) (level : ℕ) (a b c : Assigned) → Extends clauses level a b → Extends clauses level b c → Extends clauses level a c
Extends-more clauses level a b c first second = record {
  added = first.added ++ second.added;
  grows = second.grows ∙ ap (λ (s : Assigned). record s { entries = s.entries ++ second.added }) first.grows
      ∙ ap (λ es. let s : Assigned = record { vars = a.vars; entries = es } in s) (append_assoc a.entries first.added second.added);
  follow = Grows-append (live clauses) a.entries first.added second.added first.follow
      (subst (λ (s : Assigned). Grows (live clauses) s.entries second.added) first.grows second.follow);
  forced = All-append (λ e. (e.level ≡ level) × IsSome e.reason) first.added second.added first.forced second.forced;
  exist = All-append (λ e. (0 < e.lit.var) × (e.lit.var ≤ a.vars)) first.added second.added first.exist
      (subst (λ (s : Assigned). All (λ e. (0 < e.lit.var) × (e.lit.var ≤ s.vars)) second.added) first.grows second.exist);
  stays = second.stays;
}

-- clauses fit entries that were added to
pub CanPropagate-extends : (clauses : List (Option (List Lit))) (old new : Assigned) (level : ℕ) → CanPropagate clauses old level → Extends clauses level old new → CanPropagate clauses new level
CanPropagate-extends clauses old new level fits extends = record {
  exist = subst (λ (s : Assigned). (n : ℕ) (c : List Lit) → HasNumber (live clauses) n c → VariablesExist s.vars c) (sym extends.grows) fits.exist;
  few = fits.few;
  reached = extends.stays;
  grown = subst (λ (s : Assigned). Grows (live clauses) [] s.entries) (sym extends.grows)
      (Grows-append (live clauses) [] old.entries extends.added fits.grown extends.follow);
}

-- the variables of a clause that fits exist among the entries' variables
pub CanPropagate-exists : (clauses : List (Option (List Lit))) (set : Assigned) (level number : ℕ) (clause : List Lit) (l : Lit) → CanPropagate clauses set level → HasNumber (live clauses) number clause → Contains clause l → (0 < l.var) × (l.var ≤ set.vars)
CanPropagate-exists clauses set level number clause l fits has among = exists_in set.vars clauses number clause l fits.exist has among

-- what a step of propagation keeps
pub record Runs (clauses : List (Option (List Lit))) (level : ℕ) (old now : Assigned) : Type 0 where
  pub extends : Extends clauses level old now
  pub fits : CanPropagate clauses now level

-- before the first step
pub Runs-none : (clauses : List (Option (List Lit))) (level : ℕ) (set : Assigned) → CanPropagate clauses set level → Runs clauses level set set
Runs-none clauses level set fits = record { extends = Extends-none clauses level set fits.reached; fits = fits }

-- one more step
pub Runs-more : (clauses : List (Option (List Lit))) (level : ℕ) (old now new : Assigned) → Runs clauses level old now → Extends clauses level now new → Runs clauses level old new
Runs-more clauses level old now new runs extends = record {
  extends = Extends-more clauses level old now new runs.extends extends;
  fits = CanPropagate-extends clauses now new level runs.fits extends;
}

-- entries that were added keep what clauses watch
pub HasWatches-extends : (clauses : List (Option (List Lit))) (cells : List Cell) (old new : Assigned) (level head examined : ℕ) → Extends clauses level old new → HasWatches clauses cells old level head examined → HasWatches clauses cells new level head examined
HasWatches-extends clauses cells old new level head examined extends watched =
    subst (λ (s : Assigned). HasWatches clauses cells s level head examined) (sym extends.grows)
    (AreWatched-more (live clauses) (length clauses) cells old.entries extends.added (record { level = level; head = head; examined = examined })
    (λ k d within. (extends.forced k d within).0) watched)

-- each variable is set once
pub CanPropagate-once : (clauses : List (Option (List Lit))) (set : Assigned) (level : ℕ) → CanPropagate clauses set level → IsOnce set.entries
CanPropagate-once clauses set level fits = once-grown (live clauses) [] set.entries fits.grown (λ i j d before within. absurd (omega arith))

-- no entry is above the level
pub CanPropagate-top : (clauses : List (Option (List Lit))) (set : Assigned) (level : ℕ) → CanPropagate clauses set level → All (λ e. e.level ≤ level) set.entries
CanPropagate-top clauses set level fits = subst (λ n. All (λ e. e.level ≤ n) set.entries) fits.reached (IsTop-grown (live clauses) [] set.entries fits.grown IsTop-none)

-- a number is at most the last one
pub number-last : (clauses : List (Option (List Lit))) (n : ℕ) (c : List Lit) → HasNumber (live clauses) n c → n ≤ length clauses
number-last clauses n c has = (number_within clauses n c has).1

-- the clause of a number that watches a literal
pub watched-number : (clauses : List (Option (List Lit))) (cells : List Cell) (set : Assigned) (level head examined n : ℕ) (l : Lit) → HasWatches clauses cells set level head examined → 0 < l.var → Watches (cell_of cells n) l → (0 < n) × (n ≤ length clauses)
watched-number clauses cells set level head examined n l watched from_one watches = watched.only n l from_one watches

-- a clause that watches a literal watches two
pub watched-two : (clauses : List (Option (List Lit))) (cells : List Cell) (set : Assigned) (level head examined n : ℕ) (c : List Lit) (l : Lit) → HasWatches clauses cells set level head examined → 0 < l.var → Watches (cell_of cells n) l → HasNumber (live clauses) n c → WatchesTwo set.entries (record { level = level; head = head; examined = examined }) n c (cell_of cells n)
watched-two clauses cells set level head examined n c l watched from_one watches has = elim (cases_lt (length c) 2) [
  | inl few ↦ absurd ((watched.short n c has few).none l from_one watches)
  | inr two ↦ watched.long n c has two
]
