-- What every trail keeps, through each of its calls.
use Rattle.std.proofs.Common.{◌≡◌, ℕ, ◌<◌, ◌≤◌, Bool, true, false, not, Option, Some, None, IsTrue, is_some, IfNone, List, [], length, sym, ap, refl, ◌∙◌, subst, All}
use Rattle.std.proofs.lemmas.List.Elements.{All-append}
use Rattle.clause_core.specs.declared.literal.Lit.{Lit}
use Rattle.clause_core.specs.Propagation.{IsPropagated}
use Rattle.sat_trail.specs.Entry.{values_of}
use Rattle.clause_core.specs.Numbering.{live}
use Rattle.sat_trail.specs.inner.Growth.{Grows, IsGrown}
use Rattle.sat_trail.specs.inner.Storage.{Assigned}
use Rattle.sat_trail.specs.Trail.{Propagates, ClausesExist}
use Rattle.sat_trail.specs.inner.Propagation.{CanPropagate, Extends, HasWatches, IsKept, state_of}
use Rattle.sat_trail.proofs.LiteralLemmas.{not-not}
use Rattle.sat_trail.proofs.GrowthLemmas.{Grows-append}
use Rattle.sat_trail.specs.declared.watch.Cell.{Cell}
use Rattle.sat_trail.specs.inner.Watches.{AreLinked}
use Rattle.sat_trail.proofs.GrowthLemmas.{CanPropagate-once, CanPropagate-extends, Extends-more, number-last}
use Rattle.sat_trail.proofs.WatchedLemmas.{AreWatched-propagated}

-- a fact for nothing found
pub when_none : (o : Option ℕ) (P : Type 0) → is_some o ≡ false → IfNone o P → P
when_none None P none fact = fact
when_none (Some n) P none fact = cc

-- forced entries keep a trail
pub IsGrown-extends : (clauses : List (Option (List Lit))) (old new : Assigned) (level : ℕ) (before now : Bool) → IsGrown (state_of clauses old level before) → Extends clauses level old new → (IsTrue now → IsPropagated (values_of new.entries) (live clauses)) → IsGrown (state_of clauses new level now)
IsGrown-extends clauses old new level before now trail extends propagated = record {
  grown = subst (λ (s : Assigned). Grows (live clauses) [] s.entries) (sym extends.grows) (Grows-append (live clauses) [] old.entries extends.added trail.grown extends.follow);
  level = extends.stays;
  exist = subst (λ (s : Assigned). All (λ e. (0 < e.lit.var) × (e.lit.var ≤ s.vars)) s.entries) (sym extends.grows)
      (All-append (λ e. (0 < e.lit.var) × (e.lit.var ≤ old.vars)) old.entries extends.added trail.exist extends.exist);
  clauses_exist = subst (λ (s : Assigned). ClausesExist (state_of clauses s level now)) (sym extends.grows) trail.clauses_exist;
  ready_propagated = propagated;
}

-- what propagation has passed is propagated
pub HasWatches-propagated : (clauses : List (Option (List Lit))) (cells : List Cell) (set : Assigned) (level : ℕ) → CanPropagate clauses set level → HasWatches clauses cells set level (length set.entries) (length clauses) → IsPropagated (values_of set.entries) (live clauses)
HasWatches-propagated clauses cells set level fits watched =
    AreWatched-propagated (live clauses) (length clauses) cells set.entries (record { level = level; head = length set.entries; examined = length clauses }) (CanPropagate-once clauses set level fits) refl refl (number-last clauses) watched

-- a propagation that stopped at a clause keeps a trail
pub IsKept-stopped : (clauses : List (Option (List Lit))) (cells new_cells : List Cell) (heads new_heads : List ℕ) (old new : Assigned) (level head head' examined examined' : ℕ) (before : Bool) → IsKept clauses cells heads old level head examined before → Extends clauses level old new → AreLinked old.vars new_cells new_heads → HasWatches clauses new_cells new level head' examined' → IsKept clauses new_cells new_heads new level head' examined' false
IsKept-stopped clauses cells new_cells heads new_heads old new level head head' examined examined' before kept extends linked watched = record {
  few = kept.few;
  trail = IsGrown-extends clauses old new level before false kept.trail extends (λ impossible. cc);
  linked = subst (λ vars. AreLinked vars new_cells new_heads) (sym (ap (λ (s : Assigned). s.vars) extends.grows)) linked;
  watched = watched;
  complete = λ impossible. cc;
}

-- a propagation that found nothing false has passed all
pub IsKept-finished : (clauses : List (Option (List Lit))) (cells new_cells : List Cell) (heads new_heads : List ℕ) (old new : Assigned) (level head head' examined : ℕ) (before ready : Bool) (found : Option ℕ) → IsKept clauses cells heads old level head examined before → Extends clauses level old new → CanPropagate clauses new level → AreLinked old.vars new_cells new_heads → HasWatches clauses new_cells new level head' (length clauses) → not ready ≡ is_some found → IfNone found (head' ≡ length new.entries) → IsKept clauses new_cells new_heads new level head' (length clauses) ready
IsKept-finished clauses cells new_cells heads new_heads old new level head head' examined before ready (Some n) kept extends fits linked watched is_ready all =
    rw (sym (not-not ready) ∙ ap not is_ready) (IsKept-stopped clauses cells new_cells heads new_heads old new level head head' examined (length clauses) before kept extends linked watched)
IsKept-finished clauses cells new_cells heads new_heads old new level head head' examined before ready None kept extends fits linked watched is_ready all =
    rw (sym (not-not ready) ∙ ap not is_ready) (record {
      few = kept.few;
      trail = IsGrown-extends clauses old new level before true kept.trail extends (λ _. HasWatches-propagated clauses new_cells new level fits (subst (λ n. HasWatches clauses new_cells new level n (length clauses)) all watched));
      linked = subst (λ vars. AreLinked vars new_cells new_heads) (sym (ap (λ (s : Assigned). s.vars) extends.grows)) linked;
      watched = watched;
      complete = λ _. (all, refl);
    })

-- what a propagation did
pub Propagates-extends : (clauses : List (Option (List Lit))) (old new : Assigned) (level : ℕ) (before now : Bool) → Extends clauses level old new → Propagates (state_of clauses old level before) (state_of clauses new level now)
Propagates-extends clauses old new level before now extends = record {
  added = extends.added;
  forced = extends.forced;
  grows = ap (λ (s : Assigned). state_of clauses s level now) extends.grows;
}

-- nothing found means that nothing is left
pub propagated-found : (clauses : List (Option (List Lit))) (cells : List Cell) (set : Assigned) (level head : ℕ) (found : Option ℕ) → CanPropagate clauses set level → HasWatches clauses cells set level head (length clauses) → IfNone found (head ≡ length set.entries) → IfNone found (IsPropagated (values_of set.entries) (live clauses))
propagated-found clauses cells set level head None fits watched all = HasWatches-propagated clauses cells set level fits (subst (λ n. HasWatches clauses cells set level n (length clauses)) all watched)
propagated-found clauses cells set level head (Some n) fits watched all = tt

-- the parts of a trail can be propagated
pub CanPropagate-kept : (clauses : List (Option (List Lit))) (cells : List Cell) (heads : List ℕ) (set : Assigned) (level head examined : ℕ) (ready : Bool) → IsKept clauses cells heads set level head examined ready → CanPropagate clauses set level
CanPropagate-kept clauses cells heads set level head examined ready kept = record {
  exist = kept.trail.clauses_exist;
  few = kept.few;
  reached = kept.trail.level;
  grown = kept.trail.grown;
}

-- the clauses are all examined
pub HasWatches-all : (clauses : List (Option (List Lit))) (cells : List Cell) (set : Assigned) (level head examined : ℕ) (found : Option ℕ) → false ≡ is_some found → IfNone found (examined ≡ length clauses) → HasWatches clauses cells set level head examined → HasWatches clauses cells set level head (length clauses)
HasWatches-all clauses cells set level head examined found none all watched =
    subst (λ n. HasWatches clauses cells set level head n) (when_none found (examined ≡ length clauses) (sym none) all) watched

-- the same where the first walk found nothing
pub IsKept-both : (clauses : List (Option (List Lit))) (cells new_cells : List Cell) (heads new_heads : List ℕ) (old now new : Assigned) (level head head' examined examined' : ℕ) (before ready : Bool) (first found : Option ℕ) → IsKept clauses cells heads old level head examined before → Extends clauses level old now → Extends clauses level now new → AreLinked now.vars new_cells new_heads → HasWatches clauses new_cells new level head' (length clauses) → false ≡ is_some first → IfNone first (examined' ≡ length clauses) → is_some found ≡ not ready → IfNone found (head' ≡ length new.entries) → IsKept clauses new_cells new_heads new level head' examined' ready
IsKept-both clauses cells new_cells heads new_heads old now new level head head' examined examined' before ready first found kept extends later linked watched none all_examined is_ready all =
    let whole = Extends-more clauses level old now new extends later in
    subst (λ n. IsKept clauses new_cells new_heads new level head' n ready) (sym (when_none first (examined' ≡ length clauses) (sym none) all_examined))
    (IsKept-finished clauses cells new_cells heads new_heads old new level head head' examined before ready found kept whole
    (CanPropagate-extends clauses old new level (CanPropagate-kept clauses cells heads old level head examined before kept) whole)
    (subst (λ vars. AreLinked vars new_cells new_heads) (ap (λ (s : Assigned). s.vars) extends.grows) linked) watched (sym is_ready) all)
