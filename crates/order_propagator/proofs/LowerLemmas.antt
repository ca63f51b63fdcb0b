-- What the entries up to a level say of a variable.
use Rattle.std.proofs.Common.{◌≡◌, ◌≢◌, ◌⊎◌, inl, inr, ℕ, suc, ◌-◌, ◌<◌, ◌≤◌, Bool, not, Option, Some, None, IfSome, option_map, List, [], ◌∷◌, ◌++◌, sym, ap, refl, ◌∙◌, subst, arith, All, AllPairs, Contains}
use Rattle.std.proofs.lemmas.Bool.{cases_Bool, cases_eq, cases_lt, le-leb, lt-leb}
use Rattle.std.proofs.lemmas.List.Elements.{All-contains, All-cons, All-head, All-tail}
use Rattle.std.proofs.lemmas.List.Folds.{find-append}
use Rattle.std.specs.Prelude.{◌==◌}
use Rattle.clause_core.specs.declared.literal.Lit.{Lit}
use Rattle.clause_core.specs.Propagation.{MakesFalse}
use Rattle.sat_trail.specs.declared.entry.Entry.{Entry}
use Rattle.sat_trail.specs.Entry.{entry_of, up_to, values_of}
use Rattle.sat_trail.specs.State.{State}
use Rattle.sat_trail.specs.Trail.{IsOpen, IsTrail}
use Rattle.order_propagator.specs.inner.Closed.{IsSetTrue}
use Rattle.order_propagator.proofs.LiteralLemmas.{cases_sign}

-- an entry that is found is one of the entries
found_member : (es : List Entry) (v : ℕ) (e : Entry) → entry_of es v ≡ Some e → Contains es e
found_member [] v e found = cc
found_member (d ∷ es) v e found =
    elim (cases_Bool (d.lit.var == v)) [
      | inl here ↦ let first : Some d ≡ Some e = rw here at found in (0, omega arith, (let same : d ≡ e = cc in same))
      | inr elsewhere ↦ let rest = found_member es v e (rw elsewhere at found) in (suc rest.0, omega (arith, rest.1), rest.2)
    ]

-- the entries up to a level stand before those above it
record IsSplit (entries : List Entry) (level : ℕ) : Type 0 where
  dropped : List Entry
  whole : up_to level entries ++ dropped ≡ entries
  above : All (λ e. level < e.level) dropped

-- entries above the level all go
all_go : (level : ℕ) (entries : List Entry) → All (λ e. level < e.level) entries → up_to level entries ≡ []
all_go level [] high = refl
all_go level (e ∷ rest) high =
    rw (lt-leb e.level level (All-head (λ d. level < d.level) e rest high)) (all_go level rest (All-tail (λ d. level < d.level) e rest high))

-- entries whose levels never fall are split at each level
split : (level : ℕ) (entries : List Entry) → AllPairs (λ d e. d.level ≤ e.level) entries → IsSplit entries level
split level [] rising = record { dropped = []; whole = refl; above = λ k d within. absurd (omega arith) }
split level (e ∷ rest) rising = elim (cases_lt level e.level) [
  | inl over ↦ record {
    dropped = e ∷ rest;
    whole = ap (λ es. es ++ e ∷ rest) (all_go level (e ∷ rest) (high over));
    above = high over;
  }
  | inr under ↦
      let later = split level rest (λ i j d before within. rising (suc i) (suc j) d (omega arith) (omega arith)) in record {
        dropped = later.dropped;
        whole = rw (le-leb e.level level under) (ap (λ es. e ∷ es) later.whole);
        above = later.above;
      }
]
  where
    high : level < e.level → All (λ d. level < d.level) (e ∷ rest)
    high over = All-cons (λ d. level < d.level) e rest over (λ k d within. omega (arith, over, rising 0 (suc k) d (omega arith) (omega arith)))

-- what was found stays found when more entries follow, and what was not is found among these
found_more : (es more : List Entry) (v : ℕ) (e : Entry) → entry_of es v ≡ Some e → entry_of (es ++ more) v ≡ Some e
found_more es more v e found = rw (find-append (λ (d : Entry). d.lit.var == v) es more, found) refl

missing_more : (es more : List Entry) (v : ℕ) → entry_of es v ≡ None → entry_of (es ++ more) v ≡ entry_of more v
missing_more es more v missing = rw (find-append (λ (d : Entry). d.lit.var == v) es more, missing) refl

-- a value comes from an entry
value_entry : (o : Option Entry) (b : Bool) → option_map (λ (e : Entry). e.lit.positive) o ≡ Some b → (e : Entry) × (o ≡ Some e) × (e.lit.positive ≡ b)
value_entry None b given = cc
value_entry (Some e) b given = (e, refl, (let same : e.lit.positive ≡ b = cc in same))

-- more entries keep each value
pub value_more : (es more : List Entry) (v : ℕ) (b : Bool) → values_of es v ≡ Some b → values_of (es ++ more) v ≡ Some b
value_more es more v b given =
    let entry = value_entry (entry_of es v) b given in
    ap (option_map (λ (e : Entry). e.lit.positive)) (found_more es more v entry.0 entry.1) ∙ ap Some entry.2

-- so what is true up to a level is true
pub true_low : (t : State) (level : ℕ) (l : Lit) → IsTrail t → IsSetTrue (values_of (up_to level t.entries)) l → IsSetTrue (values_of t.entries) l
true_low t level l trail holds =
    let parts = split level t.entries trail.levels.rising in
    subst (λ (es : List Entry). IsSetTrue (values_of es) l) parts.whole (value_more (up_to level t.entries) parts.dropped l.var l.positive holds)

-- an entry up to the level is found among those
found_low : (entries : List Entry) (level v : ℕ) (e : Entry) → IsSplit entries level → entry_of entries v ≡ Some e → e.level ≤ level → entry_of (up_to level entries) v ≡ Some e
found_low entries level v e parts found low = low_by (entry_of (up_to level entries) v) refl
  where
    low_by : (o : Option Entry) → entry_of (up_to level entries) v ≡ o → entry_of (up_to level entries) v ≡ Some e
    low_by (Some d) is =
        is ∙ sym (found_more (up_to level entries) parts.dropped v d is) ∙ ap (λ es. entry_of es v) parts.whole ∙ found
    low_by None is =
        let later : entry_of parts.dropped v ≡ Some e = sym (missing_more (up_to level entries) parts.dropped v is) ∙ ap (λ es. entry_of es v) parts.whole ∙ found in
        absurd (omega (arith, low, All-contains (λ d. level < d.level) parts.dropped e parts.above (found_member parts.dropped v e later)))

-- a literal that is set and not true is false
set_false : (l : Lit) (b : Bool) → Some b ≢ Some l.positive → Some b ≡ Some (not l.positive)
set_false l b untrue = elim (cases_sign b l.positive) [
  | inl same ↦ absurd (untrue (ap Some same))
  | inr opposite ↦ ap Some opposite
]

-- a literal that is not true is open, or false up to a lower level
pub open_or_low : (t : State) (l : Lit) → IsTrail t → 0 < t.level → ¬ IsSetTrue (values_of t.entries) l → IsOpen t.entries t.level l ⊎ MakesFalse (values_of (up_to (t.level - 1) t.entries)) l
open_or_low t l trail above untrue = by (entry_of t.entries l.var) refl
  where
    by : (o : Option Entry) → entry_of t.entries l.var ≡ o → IsOpen t.entries t.level l ⊎ MakesFalse (values_of (up_to (t.level - 1) t.entries)) l
    by None is = inl (subst (λ (o : Option Entry). IfSome o (λ (e : Entry). e.level ≡ t.level)) (sym is) tt)
    by (Some e) is = elim (cases_eq e.level t.level) [
      | inl current ↦ inl (subst (λ (o : Option Entry). IfSome o (λ (d : Entry). d.level ≡ t.level)) (sym is) current)
      | inr lower ↦
          let reached : e.level ≤ t.level = All-contains (λ d. d.level ≤ t.level) t.entries e trail.levels.highest (found_member t.entries l.var e is) in
          let low = found_low t.entries (t.level - 1) l.var e (split (t.level - 1) t.entries trail.levels.rising) is (omega (arith, reached, lower, above)) in
          let value : values_of t.entries l.var ≡ Some e.lit.positive = ap (option_map (λ (d : Entry). d.lit.positive)) is in
          inr (ap (option_map (λ (d : Entry). d.lit.positive)) low ∙ set_false l e.lit.positive (λ same. untrue (value ∙ same)))
    ]
