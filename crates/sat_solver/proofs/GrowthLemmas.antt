-- What is set stays set while a trail grows.
use Rattle.std.proofs.Common.{◌≡◌, ℕ, Option, Some, None, IsSome, option_map, List, ◌++◌, refl}
use Rattle.sat_trail.specs.declared.entry.Entry.{Entry}
use Rattle.sat_trail.specs.Entry.{entry_of, values_of}
use Rattle.sat_trail.specs.State.{State}
use Rattle.sat_solver.specs.inner.Choice.{AreSetUpTo}
use Rattle.sat_solver.proofs.EntryLemmas.{entry_of-kept}

-- a variable that was found stays set
set-kept : (es more : List Entry) (v : ℕ) (o : Option Entry) → entry_of es v ≡ o → IsSome (option_map (λ (e : Entry). e.lit.positive) o) → IsSome (values_of (es ++ more) v)
set-kept es more v None is some = absurd cc
set-kept es more v (Some e) is some = rw (entry_of-kept es more v e is) refl

-- the first variables stay set
pub AreSetUpTo-more : (old new : State) (more : List Entry) (last : ℕ) → new.entries ≡ old.entries ++ more → AreSetUpTo old last → AreSetUpTo new last
AreSetUpTo-more old new more last grows set v from_one within = rw grows (set-kept old.entries more v (entry_of old.entries v) refl (set v from_one within))
