-- How the levels rise along a trail.
use Rattle.std.proofs.Common.{◌≡◌, ℕ, ◌+◌, ◌<◌, ◌≤◌, List, [], ◌∷◌, ◌++◌, inl, inr, length, sym, ap, refl, ◌∙◌, subst, append_assoc, append-nil, arith, All, length-append}
use Rattle.std.proofs.lemmas.Bool.{le-leb, lt-leb}
use Rattle.std.proofs.lemmas.List.Elements.{All-head, All-tail, All-weaker, All-push, filter-append}
use Rattle.std.specs.Prelude.{nat_le}
use Rattle.clause_core.specs.Propagation.{IsPropagated}
use Rattle.sat_trail.specs.declared.entry.Entry.{Entry}
use Rattle.sat_trail.specs.Entry.{values_of, last_level, up_to}
use Rattle.clause_core.specs.Numbering.{Numbering}
use Rattle.sat_trail.specs.Growth.{MayBeSet}
use Rattle.sat_trail.specs.inner.Growth.{Grows}
use Rattle.sat_trail.proofs.StorageLemmas.{last_level-push}

-- an entry is of the level before it or of the next one
pub level-step : (numbering : Numbering) (before : List Entry) (e : Entry) → MayBeSet numbering before e → (last_level before ≤ e.level) × (e.level ≤ last_level before + 1)
level-step numbering before e follows = elim follows.cause [
  | inl decision ↦ (omega (arith, decision.raises), omega (arith, decision.raises))
  | inr forced ↦ (omega (arith, forced.stays), omega (arith, forced.stays))
]

-- one entry moved from those that follow to those before
pub moved : (before : List Entry) (e : Entry) (rest : List Entry) → (before ++ e ∷ []) ++ rest ≡ before ++ e ∷ rest
moved before e rest = append_assoc before (e ∷ []) rest

-- levels never fall
pub levels-rise : (numbering : Numbering) (before rest : List Entry) → Grows numbering before rest → last_level before ≤ last_level (before ++ rest)
levels-rise numbering before [] follows = rw (append-nil before) (omega arith)
levels-rise numbering before (e ∷ rest) follows =
    let later : last_level (before ++ e ∷ []) ≤ last_level ((before ++ e ∷ []) ++ rest) = levels-rise numbering (before ++ e ∷ []) rest follows.1 in
    let step : last_level before ≤ e.level = (level-step numbering before e follows.0).0 in
    omega (arith, later, step, last_level-push before e, ap last_level (moved before e rest))

-- there are no more levels than entries
pub levels-few : (numbering : Numbering) (before rest : List Entry) → Grows numbering before rest → last_level before ≤ length before → last_level (before ++ rest) ≤ length (before ++ rest)
levels-few numbering before [] follows few = rw (append-nil before) few
levels-few numbering before (e ∷ rest) follows few =
    let next : last_level (before ++ e ∷ []) ≤ length (before ++ e ∷ []) = omega (arith, few, (level-step numbering before e follows.0).1, last_level-push before e, length-append before (e ∷ [])) in
    subst (λ es. last_level es ≤ length es) (moved before e rest) (levels-few numbering (before ++ e ∷ []) rest follows.1 next)

-- no entry is above the last level
abbrev pub IsTop : List Entry → Type 0
IsTop entries = All (λ e. e.level ≤ last_level entries) entries

-- one more entry leaves none above the last level
pub IsTop-push : (numbering : Numbering) (before : List Entry) (e : Entry) → MayBeSet numbering before e → IsTop before → IsTop (before ++ e ∷ [])
IsTop-push numbering before e follows top = rw (last_level-push before e)
    (All-push (λ d. d.level ≤ e.level) before e
    (All-weaker (λ d. d.level ≤ last_level before) (λ d. d.level ≤ e.level) (λ d low. omega (arith, low, (level-step numbering before e follows).0)) before top)
    (omega arith))

-- the last level is the highest
pub IsTop-grown : (numbering : Numbering) (before rest : List Entry) → Grows numbering before rest → IsTop before → IsTop (before ++ rest)
IsTop-grown numbering before [] follows top = subst IsTop (sym (append-nil before)) top
IsTop-grown numbering before (e ∷ rest) follows top =
    subst IsTop (moved before e rest) (IsTop-grown numbering (before ++ e ∷ []) rest follows.1 (IsTop-push numbering before e follows.0 top))

-- no entry is above the last level of nothing
pub IsTop-none : IsTop []
IsTop-none = λ k d within. absurd (omega arith)

-- entries up to the level all stay
pub up_to-low : (level : ℕ) (entries : List Entry) → All (λ e. e.level ≤ level) entries → up_to level entries ≡ entries
up_to-low level [] low = refl
up_to-low level (e ∷ rest) low =
    rw (le-leb e.level level (All-head (λ d. d.level ≤ level) e rest low)) (ap (λ es. e ∷ es) (up_to-low level rest (All-tail (λ d. d.level ≤ level) e rest low)))

-- entries above the level all go
pub up_to-high : (level : ℕ) (entries : List Entry) → All (λ e. level < e.level) entries → up_to level entries ≡ []
up_to-high level [] high = refl
up_to-high level (e ∷ rest) high =
    rw (lt-leb e.level level (All-head (λ d. level < d.level) e rest high)) (up_to-high level rest (All-tail (λ d. level < d.level) e rest high))

-- of entries up to the level and entries above it the first stay
pub up_to-both : (level : ℕ) (kept dropped : List Entry) → All (λ e. e.level ≤ level) kept → All (λ e. level < e.level) dropped → up_to level (kept ++ dropped) ≡ kept
up_to-both level kept dropped low high =
    filter-append (λ e. nat_le e.level level) kept dropped ∙ ap (λ es. es ++ up_to level dropped) (up_to-low level kept low)
    ∙ ap (λ es. kept ++ es) (up_to-high level dropped high) ∙ append-nil kept

-- entries that follow, in two parts
pub Grows-split : (numbering : Numbering) (before xs ys : List Entry) → Grows numbering before (xs ++ ys) → Grows numbering before xs × Grows numbering (before ++ xs) ys
Grows-split numbering before [] ys follows = (tt, subst (λ es. Grows numbering es ys) (sym (append-nil before)) follows)
Grows-split numbering before (x ∷ xs) ys follows =
    let rest = Grows-split numbering (before ++ x ∷ []) xs ys follows.1 in
    ((follows.0, rest.0), subst (λ es. Grows numbering es ys) (moved before x xs) rest.1)

-- an entry that rises above a level is a decision, made where propagation had nothing to do
pub decision-above : (numbering : Numbering) (before : List Entry) (e : Entry) (level : ℕ) → MayBeSet numbering before e → last_level before ≤ level → level < e.level → (last_level before ≡ level) × IsPropagated (values_of before) numbering
decision-above numbering before e level follows low high = elim follows.cause [
  | inl decision ↦ (omega (arith, decision.raises), decision.propagated)
  | inr forced ↦ absurd (omega (arith, forced.stays))
]
