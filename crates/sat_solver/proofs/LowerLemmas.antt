-- What the entries up to a level say of a literal.
use Rattle.std.proofs.Common.{◌≡◌, ℕ, suc, ◌<◌, ◌≤◌, true, not, Option, Some, None, option_map, List, [], ◌∷◌, ◌++◌, inl, inr, sym, ap, refl, ◌∙◌, subst, arith, All, AllPairs}
use Rattle.std.proofs.lemmas.Bool.{cases_lt, leb-true, le-leb, lt-leb}
use Rattle.std.proofs.lemmas.List.Elements.{All-contains, All-cons, All-head, All-tail, filter_passes}
use Rattle.std.specs.Prelude.{nat_le}
use Rattle.clause_core.specs.declared.literal.Lit.{Lit}
use Rattle.clause_core.specs.Propagation.{MakesFalse}
use Rattle.sat_trail.specs.declared.entry.Entry.{Entry}
use Rattle.sat_trail.specs.Entry.{entry_of, values_of, up_to}
use Rattle.sat_trail.specs.State.{State}
use Rattle.sat_trail.specs.Trail.{IsTrail}
use Rattle.sat_solver.proofs.EntryLemmas.{entry_of-kept, entry_of-missing, entry_of-member, entry_of-variable, value-entry}

-- the entries up to a level stand before those above it
pub record IsSplit (entries : List Entry) (level : ℕ) : Type 0 where
  pub dropped : List Entry
  pub whole : up_to level entries ++ dropped ≡ entries
  pub above : All (λ e. level < e.level) dropped

-- entries above the level all go
up_to-high : (level : ℕ) (entries : List Entry) → All (λ e. level < e.level) entries → up_to level entries ≡ []
up_to-high level [] high = refl
up_to-high level (e ∷ rest) high =
    rw (lt-leb e.level level (All-head (λ d. level < d.level) e rest high)) (up_to-high level rest (All-tail (λ d. level < d.level) e rest high))

-- entries whose levels never fall are split at each level
split-rising : (level : ℕ) (entries : List Entry) → AllPairs (λ d e. d.level ≤ e.level) entries → IsSplit entries level
split-rising level [] rising = record { dropped = []; whole = refl; above = λ k d within. absurd (omega arith) }
split-rising level (e ∷ rest) rising = elim (cases_lt level e.level) [
  | inl over ↦ record {
    dropped = e ∷ rest;
    whole = ap (λ es. es ++ e ∷ rest) (up_to-high level (e ∷ rest) (high over));
    above = high over;
  }
  | inr under ↦
      let later = split-rising level rest (λ i j d before within. rising (suc i) (suc j) d (omega arith) (omega arith)) in record {
        dropped = later.dropped;
        whole = rw (le-leb e.level level under) (ap (λ es. e ∷ es) later.whole);
        above = later.above;
      }
]
  where
    high : level < e.level → All (λ d. level < d.level) (e ∷ rest)
    high over = All-cons (λ d. level < d.level) e rest over (λ k d within. omega (arith, over, rising 0 (suc k) d (omega arith) (omega arith)))

-- a trail is split at each level
pub IsSplit-trail : (t : State) (level : ℕ) → IsTrail t → IsSplit t.entries level
IsSplit-trail t level trail = split-rising level t.entries trail.levels.rising

-- an entry up to the level is found among those
pub entry_of-low : (entries : List Entry) (level v : ℕ) (e : Entry) → IsSplit entries level → entry_of entries v ≡ Some e → e.level ≤ level → entry_of (up_to level entries) v ≡ Some e
entry_of-low entries level v e split found low = low-by (entry_of (up_to level entries) v) refl
  where
    low-by : (o : Option Entry) → entry_of (up_to level entries) v ≡ o → entry_of (up_to level entries) v ≡ Some e
    low-by (Some d) is =
        is ∙ sym (entry_of-kept (up_to level entries) split.dropped v d is) ∙ ap (λ es. entry_of es v) split.whole ∙ found
    low-by None is =
        let later : entry_of split.dropped v ≡ Some e = sym (entry_of-missing (up_to level entries) split.dropped v is) ∙ ap (λ es. entry_of es v) split.whole ∙ found in
        absurd (omega (arith, low, All-contains (λ d. level < d.level) split.dropped e split.above (entry_of-member split.dropped v e later)))

-- an entry above the level is not found among those up to it
pub entry_of-high : (entries : List Entry) (level v : ℕ) (e : Entry) → IsSplit entries level → entry_of entries v ≡ Some e → level < e.level → entry_of (up_to level entries) v ≡ None
entry_of-high entries level v e split found high = high-by (entry_of (up_to level entries) v) refl
  where
    high-by : (o : Option Entry) → entry_of (up_to level entries) v ≡ o → entry_of (up_to level entries) v ≡ None
    high-by None is = is
    high-by (Some d) is =
        let same : Some d ≡ Some e = sym (entry_of-kept (up_to level entries) split.dropped v d is) ∙ ap (λ es. entry_of es v) split.whole ∙ found in
        let one : d ≡ e = cc in
        let passes : nat_le d.level level ≡ true = All-contains (λ f. nat_le f.level level ≡ true) (up_to level entries) d (filter_passes (λ f. nat_le f.level level) entries) (entry_of-member (up_to level entries) v d is) in
        absurd (omega (arith, leb-true d.level level passes, high, ap (λ (f : Entry). f.level) one))

-- a literal that is false below the current level is false among the lower entries
pub fails-low : (t : State) (level : ℕ) (l : Lit) (e : Entry) → IsTrail t → entry_of t.entries l.var ≡ Some e → e.level ≤ level → MakesFalse (values_of t.entries) l → MakesFalse (values_of (up_to level t.entries)) l
fails-low t level l e trail found low fails =
    ap (option_map (λ (d : Entry). d.lit.positive)) (entry_of-low t.entries level l.var e (IsSplit-trail t level trail) found low ∙ sym found) ∙ fails

-- a literal above the level has no value among the lower entries
pub no_value-low : (t : State) (level : ℕ) (l : Lit) (e : Entry) → IsTrail t → entry_of t.entries l.var ≡ Some e → level < e.level → values_of (up_to level t.entries) l.var ≡ None
no_value-low t level l e trail found high =
    ap (option_map (λ (d : Entry). d.lit.positive)) (entry_of-high t.entries level l.var e (IsSplit-trail t level trail) found high)

-- a false literal has an entry, of no higher level than the current one
pub record IsSet (t : State) (l : Lit) : Type 0 where
  pub entry : Entry
  pub found : entry_of t.entries l.var ≡ Some entry
  pub reached : entry.level ≤ t.level
  pub exists : (0 < l.var) × (l.var ≤ t.vars)

-- its entry
pub IsSet-false : (t : State) (l : Lit) → IsTrail t → MakesFalse (values_of t.entries) l → IsSet t l
IsSet-false t l trail fails =
    let given = value-entry (entry_of t.entries l.var) (not l.positive) fails in
    record {
      entry = given.0;
      found = given.1;
      reached = All-contains (λ e. e.level ≤ t.level) t.entries given.0 trail.levels.highest (entry_of-member t.entries l.var given.0 given.1);
      exists = subst (λ v. (0 < v) × (v ≤ t.vars)) (entry_of-variable t.entries l.var given.0 given.1)
          (All-contains (λ e. (0 < e.lit.var) × (e.lit.var ≤ t.vars)) t.entries given.0 trail.exist (entry_of-member t.entries l.var given.0 given.1));
    }
