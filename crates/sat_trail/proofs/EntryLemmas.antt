-- Entries found by their variables, and how more entries change what is found.
use Rattle.std.proofs.Common.{◌≡◌, ◌≢◌, ℕ, zero, suc, ◌<◌, false, Some, None, List, [], ◌∷◌, ◌++◌, inl, inr, length, get_or, ap, refl, ◌∙◌, arith, Contains, option_map}
use Rattle.std.proofs.lemmas.Bool.{cases_Bool, eqb-true, eqb-false, eq-eqb, ne_eqb}
use Rattle.std.specs.Prelude.{◌==◌}
use Rattle.std.proofs.lemmas.List.Folds.{find-append}
use Rattle.sat_trail.specs.declared.entry.Entry.{Entry}
use Rattle.sat_trail.specs.Entry.{entry_of, values_of}

-- an entry that is found has the variable
pub entry_of-variable : (es : List Entry) (v : ℕ) (e : Entry) → entry_of es v ≡ Some e → e.lit.var ≡ v
entry_of-variable [] v e found = cc
entry_of-variable (d ∷ es) v e found =
    elim (cases_Bool (d.lit.var == v)) [
      | inl here ↦ let first : Some d ≡ Some e = rw here at found in ap (λ (o : Entry). o.lit.var) (let same : e ≡ d = cc in same) ∙ eqb-true _ _ here
      | inr elsewhere ↦ entry_of-variable es v e (rw elsewhere at found)
    ]

-- an entry that is found is one of the entries
pub entry_of-member : (es : List Entry) (v : ℕ) (e : Entry) → entry_of es v ≡ Some e → Contains es e
entry_of-member [] v e found = cc
entry_of-member (d ∷ es) v e found =
    elim (cases_Bool (d.lit.var == v)) [
      | inl here ↦ let first : Some d ≡ Some e = rw here at found in (0, omega arith, (let same : d ≡ e = cc in same))
      | inr elsewhere ↦ let rest = entry_of-member es v e (rw elsewhere at found) in (suc rest.0, omega (arith, rest.1), rest.2)
    ]

-- what was found stays found when more entries follow
pub entry_of-kept : (es more : List Entry) (v : ℕ) (e : Entry) → entry_of es v ≡ Some e → entry_of (es ++ more) v ≡ Some e
entry_of-kept es more v e found = rw (find-append (λ (d : Entry). d.lit.var == v) es more, found) refl

-- what was not found is found among the entries that follow
pub entry_of-missing : (es more : List Entry) (v : ℕ) → entry_of es v ≡ None → entry_of (es ++ more) v ≡ entry_of more v
entry_of-missing es more v missing = rw (find-append (λ (d : Entry). d.lit.var == v) es more, missing) refl

-- an entry for another variable changes nothing
pub entry_of-push_other : (es : List Entry) (e : Entry) (v : ℕ) → e.lit.var ≢ v → entry_of (es ++ e ∷ []) v ≡ entry_of es v
entry_of-push_other [] e v other = rw (ne_eqb e.lit.var v other) refl
entry_of-push_other (d ∷ es) e v other =
    elim (cases_Bool (d.lit.var == v)) [
      | inl here ↦ rw here refl
      | inr elsewhere ↦ rw elsewhere (entry_of-push_other es e v other)
    ]

-- the new entry is found where its variable had none
pub entry_of-push_same : (es : List Entry) (e : Entry) → entry_of es e.lit.var ≡ None → entry_of (es ++ e ∷ []) e.lit.var ≡ Some e
entry_of-push_same es e missing =
    entry_of-missing es (e ∷ []) e.lit.var missing ∙ rw (eq-eqb e.lit.var e.lit.var refl) refl

-- a variable without a value has no entry
pub values_of-none : (es : List Entry) (v : ℕ) → values_of es v ≡ None → entry_of es v ≡ None
values_of-none es v none = elim (entry_of es v) as (λ o. option_map (λ (e : Entry). e.lit.positive) o ≡ None → o ≡ None) [ None ↦ λ _. refl | Some e ↦ λ h. cc ] none

-- an entry at the head, and those after it, are for other variables
distinct_step : (e : Entry) (es : List Entry) (v : ℕ) → (e.lit.var == v) ≡ false → ((k : ℕ) (d : Entry) → k < length es → (get_or es k d).lit.var ≢ v) → (k : ℕ) (d : Entry) → k < length (e ∷ es) → (get_or (e ∷ es) k d).lit.var ≢ v
distinct_step e es v elsewhere rest zero d within = eqb-false _ _ elsewhere
distinct_step e es v elsewhere rest (suc k) d within = rest k d (omega arith)

-- if a variable is not found, no entry sets it
pub entry_of-distinct : (es : List Entry) (v : ℕ) → entry_of es v ≡ None → (k : ℕ) (d : Entry) → k < length es → (get_or es k d).lit.var ≢ v
entry_of-distinct [] v missing k d within = absurd (omega arith)
entry_of-distinct (e ∷ es) v missing k d within =
    elim (cases_Bool (e.lit.var == v)) [
      | inl here ↦ let found : Some e ≡ None = rw here at missing in cc
      | inr elsewhere ↦ distinct_step e es v elsewhere (entry_of-distinct es v (rw elsewhere at missing)) k d within
    ]

-- a variable that differs from those of all entries is not found
pub entry_of-absent : (es : List Entry) (v : ℕ) → ((k : ℕ) (d : Entry) → k < length es → (get_or es k d).lit.var ≢ v) → entry_of es v ≡ None
entry_of-absent [] v differs = refl
entry_of-absent (e ∷ es) v differs =
    rw (ne_eqb e.lit.var v (differs 0 e (omega arith))) (entry_of-absent es v (λ k d within. differs (suc k) d (omega arith)))
