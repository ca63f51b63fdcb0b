-- Entries whose reasons have other names, and the values that entries give.
use Rattle.std.proofs.Common.{◌≡◌, ℕ, ◌<◌, ◌≤◌, Bool, false, Option, Some, None, option_map, option_and_then, List, [], ◌∷◌, ◌++◌, inl, inr, map, take, drop, ap, refl, ◌∙◌, subst, take-append-drop, append-nil, arith, All}
use Rattle.std.specs.Prelude.{◌==◌, nat_le}
use Rattle.std.proofs.lemmas.Bool.{cases_Bool, le-leb, lt-leb, leb-false}
use Rattle.std.proofs.lemmas.List.Elements.{All-head, All-tail, filter-append}
use Rattle.std.proofs.lemmas.List.Folds.{find-append}
use Rattle.sat_trail.specs.declared.entry.Entry.{Entry}
use Rattle.sat_trail.specs.Entry.{entry_of, values_of, reason_of, level_of, last_level, up_to}
use Rattle.order_propagator.specs.inner.Names.{name_of}
use Rattle.order_propagator.specs.inner.Whole.{renamed}

-- the entry of a variable is renamed
pub entry_of-renamed : (names : List ℕ) (es : List Entry) (v : ℕ) → entry_of (map (renamed names) es) v ≡ option_map (renamed names) (entry_of es v)
entry_of-renamed names [] v = refl
entry_of-renamed names (e ∷ es) v = elim (cases_Bool (e.lit.var == v)) [
  | inl here ↦ rw here refl
  | inr elsewhere ↦ rw elsewhere (entry_of-renamed names es v)
]

-- the values are those of the entries
pub value-renamed : (names : List ℕ) (es : List Entry) (v : ℕ) → values_of (map (renamed names) es) v ≡ values_of es v
value-renamed names es v = ap (option_map (λ (e : Entry). e.lit.positive)) (entry_of-renamed names es v) ∙ twice (entry_of es v)
  where
    twice : (o : Option Entry) → option_map (λ (e : Entry). e.lit.positive) (option_map (renamed names) o) ≡ option_map (λ (e : Entry). e.lit.positive) o
    twice None = refl
    twice (Some e) = refl

-- the same of all variables at once
pub values-renamed : (names : List ℕ) (es : List Entry) → values_of (map (renamed names) es) ≡ values_of es
values-renamed names es = λ i v. value-renamed names es v i

-- the levels are those of the entries
pub level_of-renamed : (names : List ℕ) (es : List Entry) (v : ℕ) → level_of (map (renamed names) es) v ≡ level_of es v
level_of-renamed names es v = ap (option_map (λ (e : Entry). e.level)) (entry_of-renamed names es v) ∙ twice (entry_of es v)
  where
    twice : (o : Option Entry) → option_map (λ (e : Entry). e.level) (option_map (renamed names) o) ≡ option_map (λ (e : Entry). e.level) o
    twice None = refl
    twice (Some e) = refl

-- the last level is that of the entries
pub last_level-renamed : (names : List ℕ) (es : List Entry) → last_level (map (renamed names) es) ≡ last_level es
last_level-renamed names [] = refl
last_level-renamed names (e ∷ []) = refl
last_level-renamed names (e ∷ (f ∷ rest)) = last_level-renamed names (f ∷ rest)

-- the entries up to a level are renamed
pub up_to-renamed : (names : List ℕ) (level : ℕ) (es : List Entry) → up_to level (map (renamed names) es) ≡ map (renamed names) (up_to level es)
up_to-renamed names level [] = refl
up_to-renamed names level (e ∷ es) = elim (cases_Bool (nat_le e.level level)) [
  | inl low ↦ rw low (ap (λ xs. renamed names e ∷ xs) (up_to-renamed names level es))
  | inr high ↦ rw high (up_to-renamed names level es)
]

-- an entry that is found is found among more entries
pub entry_of-kept : (es more : List Entry) (v : ℕ) (e : Entry) → entry_of es v ≡ Some e → entry_of (es ++ more) v ≡ Some e
entry_of-kept es more v e found = rw (find-append (λ (d : Entry). d.lit.var == v) es more, found) refl

-- more entries keep each value
pub value-kept : (es more : List Entry) (v : ℕ) (b : Bool) → values_of es v ≡ Some b → values_of (es ++ more) v ≡ Some b
value-kept es more v b given = found (entry_of es v) refl given
  where
    found : (o : Option Entry) → entry_of es v ≡ o → option_map (λ (e : Entry). e.lit.positive) o ≡ Some b → values_of (es ++ more) v ≡ Some b
    found None is none = cc
    found (Some e) is some = ap (option_map (λ (d : Entry). d.lit.positive)) (entry_of-kept es more v e is) ∙ some

-- a value of the first entries is one of all
pub value-prefix : (n : ℕ) (es : List Entry) (v : ℕ) (b : Bool) → values_of (take n es) v ≡ Some b → values_of es v ≡ Some b
value-prefix n es v b given = subst (λ xs. values_of xs v ≡ Some b) (take-append-drop n es) (value-kept (take n es) (drop n es) v b given)

-- entries up to the level all stay
pub up_to-low : (level : ℕ) (es : List Entry) → All (λ e. e.level ≤ level) es → up_to level es ≡ es
up_to-low level [] low = refl
up_to-low level (e ∷ rest) low =
    rw (le-leb e.level level (All-head (λ d. d.level ≤ level) e rest low)) (ap (λ es. e ∷ es) (up_to-low level rest (All-tail (λ d. d.level ≤ level) e rest low)))

-- entries above the level all go
pub up_to-high : (level : ℕ) (es : List Entry) → All (λ e. level < e.level) es → up_to level es ≡ []
up_to-high level [] high = refl
up_to-high level (e ∷ rest) high =
    rw (lt-leb e.level level (All-head (λ d. level < d.level) e rest high)) (up_to-high level rest (All-tail (λ d. level < d.level) e rest high))

-- of entries up to the level and entries above it the first stay
pub up_to-both : (level : ℕ) (kept dropped : List Entry) → All (λ e. e.level ≤ level) kept → All (λ e. level < e.level) dropped → up_to level (kept ++ dropped) ≡ kept
up_to-both level kept dropped low high =
    filter-append (λ e. nat_le e.level level) kept dropped ∙ ap (λ es. es ++ up_to level dropped) (up_to-low level kept low)
    ∙ ap (λ es. kept ++ es) (up_to-high level dropped high) ∙ append-nil kept

-- more entries above the level change nothing below it
pub up_to-more : (level : ℕ) (es more : List Entry) → All (λ e. level < e.level) more → up_to level (es ++ more) ≡ up_to level es
up_to-more level es more high =
    filter-append (λ e. nat_le e.level level) es more ∙ ap (λ xs. up_to level es ++ xs) (up_to-high level more high) ∙ append-nil (up_to level es)

-- of the entries up to a level those up to a lower one are the same
pub up_to-twice : (low high : ℕ) (es : List Entry) → low ≤ high → up_to low (up_to high es) ≡ up_to low es
up_to-twice low high [] below = refl
up_to-twice low high (e ∷ es) below = elim (cases_Bool (nat_le e.level high)) [
  | inl under ↦ rw under (elim (cases_Bool (nat_le e.level low)) [
    | inl lower ↦ rw lower (ap (λ xs. e ∷ xs) (up_to-twice low high es below))
    | inr above ↦ rw above (up_to-twice low high es below)
  ])
  | inr over ↦
      let above : nat_le e.level low ≡ false = lt-leb e.level low (omega (arith, leb-false e.level high over, below)) in
      rw (over, above) (up_to-twice low high es below)
]

-- the literals are those of the entries
pub lits-renamed : (names : List ℕ) (es : List Entry) → map (λ (e : Entry). e.lit) (map (renamed names) es) ≡ map (λ (e : Entry). e.lit) es
lits-renamed names [] = refl
lits-renamed names (e ∷ es) = ap (λ ls. e.lit ∷ ls) (lits-renamed names es)

-- the reasons are the names of those of the entries
pub reason_of-renamed : (names : List ℕ) (es : List Entry) (v : ℕ) → reason_of (map (renamed names) es) v ≡ option_map (name_of names) (reason_of es v)
reason_of-renamed names es v = ap (option_and_then (λ (e : Entry). e.reason)) (entry_of-renamed names es v) ∙ twice (entry_of es v)
  where
    twice : (o : Option Entry) → option_and_then (λ (e : Entry). e.reason) (option_map (renamed names) o) ≡ option_map (name_of names) (option_and_then (λ (e : Entry). e.reason) o)
    twice None = refl
    twice (Some e) = refl
