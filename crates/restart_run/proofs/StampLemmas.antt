-- The last stamp of a history is its highest.
use Rattle.std.proofs.Common.{◌≡◌, ℕ, zero, suc, ◌<◌, ◌≤◌, inl, inr, Some, List, [], ◌∷◌, length, refl, sym, ap, subst, arith}
use Rattle.std.specs.Prelude.{slice_get}
use Rattle.std.proofs.lemmas.Bool.{cases_lt}
use Rattle.std.proofs.lemmas.List.{get_or_past}
use Rattle.std.proofs.lemmas.Option.{slice_get_within}
use Rattle.bspl_types.specs.declared.expanded.Expanded.{Expanded}
use Rattle.stamped_history.specs.declared.entry.Entry.{Entry}
use Rattle.stamped_history.specs.Entries.{StampsRise, last_stamp}
use Rattle.stamped_history.specs.Explained.{AreLocal, history_at}
use Rattle.stamped_history.specs.Laws.{LocalStampsRise}

-- the stamps of all but the first entry rise
rise_rest : (e : Entry) (entries : List Entry) → StampsRise (e ∷ entries) → StampsRise entries
rise_rest e entries rises = λ i j d before within. rises (suc i) (suc j) d (omega (arith, before)) (omega (arith, within))

-- no stamp is above the last one
pub stamp_below : (entries : List Entry) (k : ℕ) (e : Entry) → StampsRise entries → slice_get entries k ≡ Some e → e.stamp ≤ last_stamp entries
stamp_below [] k e rises at = absurd (cc)
stamp_below (f ∷ []) zero e rises at = let same : f ≡ e = cc in omega (arith, ap (λ (g : Entry). g.stamp) same)
stamp_below (f ∷ []) (suc k) e rises at = absurd (cc)
stamp_below (f ∷ (g ∷ rest)) zero e rises at =
    let same : f ≡ e = cc in
    let next : g.stamp ≤ last_stamp (g ∷ rest) = stamp_below (g ∷ rest) 0 g (rise_rest f (g ∷ rest) rises) refl in
    omega (arith, next, rises 0 1 f (omega arith) (omega arith), ap (λ (h : Entry). h.stamp) same)
stamp_below (f ∷ (g ∷ rest)) (suc k) e rises at = stamp_below (g ∷ rest) k e (rise_rest f (g ∷ rest) rises) at

-- the stamps of each of local histories rise, and of those that are not there
pub all_rise : (x : Expanded) (histories : List (List Entry)) → LocalStampsRise → AreLocal x histories → (role : ℕ) → StampsRise (history_at histories role)
all_rise x histories law local role = elim (cases_lt role (length histories)) [
  | inl within ↦ law x role (history_at histories role) (local.each role within)
  | inr past ↦ subst StampsRise (sym (get_or_past histories role [] past)) (λ i j d before within. absurd (omega (arith, within)))
]

-- so no stamp of the histories is above the highest last one
pub all_below : (x : Expanded) (histories : List (List Entry)) (last : ℕ) → LocalStampsRise → AreLocal x histories → ((role : ℕ) → role < length x.roles → last_stamp (history_at histories role) ≤ last) → (role k : ℕ) (e : Entry) → slice_get (history_at histories role) k ≡ Some e → e.stamp ≤ last
all_below x histories last law local highest role k e at = elim (cases_lt role (length histories)) [
  | inl within ↦ omega (arith, stamp_below (history_at histories role) k e (law x role (history_at histories role) (local.each role within)) at, highest role (omega (arith, within, local.count)))
  | inr past ↦ absurd (omega (arith, slice_get_within (history_at histories role) k e at, ap length (get_or_past histories role [] past)))
]
