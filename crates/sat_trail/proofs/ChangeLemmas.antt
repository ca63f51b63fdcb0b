-- What a decision, a new clause and a backtrack keep of a trail.
use Rattle.std.proofs.Common.{◌≡◌, ℕ, zero, suc, ◌+◌, ◌<◌, ◌≤◌, Bool, false, Option, Some, None, option_map, IfSome, IsTrue, List, [], ◌∷◌, ◌++◌, ◌⊎◌, inl, inr, length, get_or, sym, ap, refl, ◌∙◌, subst, append-nil, arith, All, length-append}
use Rattle.std.proofs.lemmas.List.Elements.{All-contains, All-head, All-push}
use Rattle.std.proofs.lemmas.List.{get_or_append_left}
use Rattle.clause_core.specs.declared.literal.Lit.{Lit}
use Rattle.clause_core.specs.Clause.{VariablesExist}
use Rattle.clause_core.specs.Propagation.{Falsifies, LeavesOnly, IsPropagated}
use Rattle.sat_trail.specs.declared.entry.Entry.{Entry}
use Rattle.sat_trail.specs.Entry.{entry_of, values_of, last_level, up_to, decided}
use Rattle.clause_core.specs.Numbering.{Numbering, HasNumber, live}
use Rattle.sat_trail.specs.Growth.{IsDecision, IsForced}
use Rattle.sat_trail.specs.inner.Growth.{Grows, IsGrown}
use Rattle.sat_trail.specs.State.{State}
use Rattle.sat_trail.specs.inner.Examination.{IsSettled}
use Rattle.sat_trail.specs.inner.Storage.{Assigned, StartsWith}
use Rattle.sat_trail.specs.Trail.{HasTwoOpen, Adds}
use Rattle.sat_trail.specs.inner.Propagation.{IsKept}
use Rattle.sat_trail.proofs.StorageLemmas.{last_level-push}
use Rattle.sat_trail.proofs.NumberLemmas.{Widens, Widens-push, others_keep, added_last}
use Rattle.sat_trail.proofs.EntryLemmas.{entry_of-kept, entry_of-member}
use Rattle.sat_trail.proofs.SettledLemmas.{IsSettled-two, IsSettled-no_false, IsSettled-no_unit}
use Rattle.sat_trail.specs.declared.watch.Cell.{Cell}
use Rattle.sat_trail.specs.inner.Excuse.{AreWatched}
use Rattle.sat_trail.specs.inner.Watches.{AreLinked}
use Rattle.sat_trail.proofs.GrowthLemmas.{number-last}
use Rattle.sat_trail.proofs.WatchedLemmas.{AreWatched-more, AreWatched-rise, AreWatched-back}
use Rattle.sat_trail.proofs.GrowthLemmas.{Grows-append}
use Rattle.sat_trail.proofs.LevelLemmas.{levels-rise, levels-few, IsTop, IsTop-push, IsTop-grown, IsTop-none, moved, up_to-low, up_to-both, Grows-split, decision-above}
use Rattle.sat_trail.specs.inner.Propagation.{state_of}

-- a decision keeps a trail that is ready
pub IsGrown-decide : (clauses : List (Option (List Lit))) (set : Assigned) (level : ℕ) (l : Lit) (ready : Bool) → IsTrue ready → IsGrown (state_of clauses set level ready) → 0 < l.var → l.var ≤ set.vars → values_of set.entries l.var ≡ None → IsGrown (state_of clauses (record set { entries = set.entries ++ decided l (level + 1) ∷ [] }) (level + 1) false)
IsGrown-decide clauses set level l ready is_ready trail from_one exists none = record {
  grown = Grows-append (live clauses) [] set.entries (decided l (level + 1) ∷ []) trail.grown
      (record { no_value = none; cause = inl (record { no_reason = refl; raises = ap (λ n. n + 1) (sym trail.level); propagated = trail.ready_propagated is_ready }) }, tt);
  level = last_level-push set.entries (decided l (level + 1));
  exist = All-push (λ e. (0 < e.lit.var) × (e.lit.var ≤ set.vars)) set.entries (decided l (level + 1)) trail.exist (from_one, exists);
  clauses_exist = trail.clauses_exist;
  ready_propagated = λ impossible. cc;
}

-- the parts of a trail after a decision
pub IsKept-decide : (clauses : List (Option (List Lit))) (cells : List Cell) (heads : List ℕ) (set new : Assigned) (level head head' examined : ℕ) (l : Lit) (ready : Bool) → IsTrue ready → IsKept clauses cells heads set level head examined ready → 0 < l.var → l.var ≤ set.vars → values_of set.entries l.var ≡ None → new ≡ record set { entries = set.entries ++ decided l (level + 1) ∷ [] } → head' ≡ length set.entries → IsKept clauses cells heads new (level + 1) head' examined false
IsKept-decide clauses cells heads set new level head head' examined l ready is_ready kept from_one exists none grows at_end = rw (grows, at_end, (kept.complete is_ready).1) (record {
  few = kept.few;
  trail = IsGrown-decide clauses set level l ready is_ready kept.trail from_one exists none;
  linked = kept.linked;
  watched = AreWatched-more (live clauses) (length clauses) cells set.entries (decided l (level + 1) ∷ []) (record { level = level + 1; head = length set.entries; examined = length clauses })
      (All-one (λ e. e.level ≡ level + 1) (decided l (level + 1)) refl)
      (AreWatched-rise (live clauses) (length clauses) cells set.entries (record { level = level; head = head; examined = examined }) (level + 1) (kept.complete is_ready).0 (kept.complete is_ready).1 (number-last clauses) kept.watched);
  complete = λ impossible. cc;
})
  where
    All-one : (P : Entry → Type 0) (e : Entry) → P e → All P (e ∷ [])
    All-one P e holds zero d within = holds
    All-one P e holds (suc k) d within = absurd (omega arith)

-- the next level is still a number of 32 bits
pub level-fits : (clauses : List (Option (List Lit))) (set : Assigned) (level : ℕ) (ready : Bool) → IsGrown (state_of clauses set level ready) → level ≤ length set.entries
level-fits clauses set level ready trail = subst (λ n. n ≤ length set.entries) trail.level (levels-few (live clauses) [] set.entries trail.grown (omega arith))

-- a literal that is open at the last level had no value before the decision of that level
open-before : (before rest : List Entry) (e : Entry) (level : ℕ) (l : Lit) (o : Option Entry) → entry_of before l.var ≡ o → IsTop before → last_level before < level → IfSome (entry_of (before ++ e ∷ rest) l.var) (λ d. d.level ≡ level) → values_of before l.var ≡ None
open-before before rest e level l None is top low is_open = ap (option_map (λ (d : Entry). d.lit.positive)) is
open-before before rest e level l (Some d) is top low is_open =
    let at_level : d.level ≡ level = subst (λ o. IfSome o (λ f. f.level ≡ level)) (entry_of-kept before (e ∷ rest) l.var d is) is_open in
    let below : d.level ≤ last_level before = All-contains (λ f. f.level ≤ last_level before) before d top (entry_of-member before l.var d is) in
    absurd (omega arith)

-- one clause more leaves propagation nothing to do if the clause is settled
IsPropagated-widens : (values : ℕ → Option Bool) (old : Numbering) (clause : List Lit) (new : Numbering) → Widens old clause new → IsPropagated values old → IsSettled values values clause → IsPropagated values new
IsPropagated-widens values old clause new widens propagated settled = record {
  no_false = λ n c has. elim (widens.only n c has) [
    | inl before ↦ propagated.no_false n c before
    | inr same ↦ subst (λ d. ¬ Falsifies values d) same (IsSettled-no_false values clause settled)
  ];
  no_unit = λ n c l has. elim (widens.only n c has) [
    | inl before ↦ propagated.no_unit n c l before
    | inr same ↦ subst (λ d. ¬ LeavesOnly values d l) same (IsSettled-no_unit values clause l settled)
  ];
}

-- before a decision of the last level, or of an earlier one, propagation has nothing to do with the clause
decision-add : (old : Numbering) (clause : List Lit) (new : Numbering) (before rest : List Entry) (e : Entry) (level : ℕ) → Widens old clause new → IsTop before → last_level before < level → IsDecision old before e → HasTwoOpen (before ++ e ∷ rest) level clause → IsDecision new before e
decision-add old clause new before rest e level widens top low decision is_open = record {
  no_reason = decision.no_reason;
  raises = decision.raises;
  propagated = IsPropagated-widens (values_of before) old clause new widens decision.propagated
      (IsSettled-two (values_of before) clause is_open.one is_open.other is_open.differ is_open.one_among is_open.other_among
      (open-before before rest e level is_open.one (entry_of before is_open.one.var) refl top low is_open.one_open)
      (open-before before rest e level is_open.other (entry_of before is_open.other.var) refl top low is_open.other_open));
}

-- entries follow one another over one clause more that is open
Grows-add : (old : Numbering) (clause : List Lit) (new : Numbering) (before rest : List Entry) (level : ℕ) → Widens old clause new → Grows old before rest → IsTop before → last_level (before ++ rest) ≡ level → (level ≡ 0) ⊎ HasTwoOpen (before ++ rest) level clause → Grows new before rest
Grows-add old clause new before [] level widens follows top at_level is_open = tt
Grows-add old clause new before (e ∷ rest) level widens follows top at_level is_open = (
  record { no_value = follows.0.no_value; cause = cause-add follows.0.cause },
  Grows-add old clause new (before ++ e ∷ []) rest level widens follows.1 (IsTop-push old before e follows.0 top)
      (ap last_level (moved before e rest) ∙ at_level)
      (subst (λ es. (level ≡ 0) ⊎ HasTwoOpen es level clause) (sym (moved before e rest)) is_open),
)
  where
    reaches : e.level ≤ level
    reaches = omega (arith, levels-rise old (before ++ e ∷ []) rest follows.1, last_level-push before e, ap last_level (moved before e rest), at_level)

    decision-kept : IsDecision old before e → IsDecision new before e
    decision-kept decision = elim is_open [
      | inl low ↦ absurd (omega (arith, reaches, decision.raises, low))
      | inr held ↦ decision-add old clause new before rest e level widens top (omega (arith, reaches, decision.raises)) decision held
    ]

    forced-kept : IsForced old before e → IsForced new before e
    forced-kept forced = record {
      number = forced.number;
      clause = forced.clause;
      reason = forced.reason;
      has_number = widens.kept forced.number forced.clause forced.has_number;
      leaves = forced.leaves;
      stays = forced.stays;
    }

    cause-add : IsDecision old before e ⊎ IsForced old before e → IsDecision new before e ⊎ IsForced new before e
    cause-add cause = elim cause [
      | inl decision ↦ inl (decision-kept decision)
      | inr forced ↦ inr (forced-kept forced)
    ]

-- below the first entry that is taken out a level is complete, and propagation had nothing to do
back_to-parts : (clauses : List (Option (List Lit))) (old kept : List Entry) (first : Entry) (rest : List Entry) (level : ℕ) → Grows (live clauses) [] old → old ≡ kept ++ first ∷ rest → last_level kept ≤ level → level < first.level → (Grows (live clauses) [] kept) × (last_level kept ≡ level) × IsPropagated (values_of kept) (live clauses)
back_to-parts clauses old kept first rest level follows whole low high =
    let parts = Grows-split (live clauses) [] kept (first ∷ rest) (subst (Grows (live clauses) []) whole follows) in
    let last = decision-above (live clauses) kept first level parts.1.0 low high in
    (parts.0, last.0, last.1)

-- the parts of a trail after a backtrack, by what was taken out
IsKept-dropped : (clauses : List (Option (List Lit))) (cells : List Cell) (heads : List ℕ) (old new : Assigned) (level level' head examined : ℕ) (ready : Bool) (dropped : List Entry) → IsKept clauses cells heads old level head examined ready → level' < level → new.vars ≡ old.vars → old.entries ≡ new.entries ++ dropped → All (λ e. level' < e.level) dropped → last_level new.entries ≤ level' → IsKept clauses cells heads new level' (length new.entries) examined false
IsKept-dropped clauses cells heads old new level level' head examined ready [] kept lower vars whole above low =
    absurd (omega (arith, ap last_level (whole ∙ append-nil new.entries), kept.trail.level))
IsKept-dropped clauses cells heads old new level level' head examined ready (first ∷ rest) kept lower vars whole above low = record {
  few = kept.few;
  trail = record {
    grown = parts.0;
    level = parts.1;
    exist = λ k d within. subst (λ (e : Entry). (0 < e.lit.var) × (e.lit.var ≤ new.vars)) (get_or_append_left new.entries (first ∷ rest) d k within)
        (subst (λ n. (0 < (get_or (new.entries ++ first ∷ rest) k d).lit.var) × ((get_or (new.entries ++ first ∷ rest) k d).lit.var ≤ n)) (sym vars)
        (subst (λ es. All (λ e. (0 < e.lit.var) × (e.lit.var ≤ old.vars)) es) whole kept.trail.exist k d (omega (arith, within, length-append new.entries (first ∷ rest)))));
    clauses_exist = λ n c has. subst (λ v. VariablesExist v c) (sym vars) (kept.trail.clauses_exist n c has);
    ready_propagated = λ impossible. cc;
  };
  linked = subst (λ v. AreLinked v cells heads) (sym vars) kept.linked;
  watched = AreWatched-back (live clauses) (length clauses) cells new.entries (first ∷ rest) (record { level = level; head = head; examined = examined }) level' lower
      (subst (λ n. All (λ e. e.level ≤ n) new.entries) parts.1 (IsTop-grown (live clauses) [] new.entries parts.0 IsTop-none)) above
      (subst (λ es. AreWatched (live clauses) (length clauses) cells es (record { level = level; head = head; examined = examined })) whole kept.watched);
  complete = λ impossible. cc;
}
  where
    parts : (Grows (live clauses) [] new.entries) × (last_level new.entries ≡ level') × IsPropagated (values_of new.entries) (live clauses)
    parts = back_to-parts clauses old.entries new.entries first rest level' kept.trail.grown whole low (All-head (λ e. level' < e.level) first rest above)

-- the parts of a trail after a backtrack
pub IsKept-back : (clauses : List (Option (List Lit))) (cells : List Cell) (heads : List ℕ) (old new : Assigned) (level level' head head' examined : ℕ) (ready : Bool) → IsKept clauses cells heads old level head examined ready → level' < level → StartsWith level' old new → last_level new.entries ≤ level' → head' ≡ length new.entries → IsKept clauses cells heads new level' head' examined false
IsKept-back clauses cells heads old new level level' head head' examined ready kept lower begins low at_end =
    rw at_end (IsKept-dropped clauses cells heads old new level level' head examined ready begins.dropped kept lower begins.vars begins.whole begins.above low)

-- the entries after a backtrack are those up to the level
back_to-entries : (clauses : List (Option (List Lit))) (cells : List Cell) (heads : List ℕ) (old new : Assigned) (level' head' examined : ℕ) → IsKept clauses cells heads new level' head' examined false → StartsWith level' old new → up_to level' old.entries ≡ new.entries
back_to-entries clauses cells heads old new level' head' examined kept begins =
    ap (up_to level') begins.whole ∙ up_to-both level' new.entries begins.dropped
    (subst (λ n. All (λ e. e.level ≤ n) new.entries) kept.trail.level (IsTop-grown (live clauses) [] new.entries kept.trail.grown IsTop-none)) begins.above

-- no entry is above the last level
pub back_to-same : (clauses : List (Option (List Lit))) (set : Assigned) (level : ℕ) (ready : Bool) → IsGrown (state_of clauses set level ready) → up_to level set.entries ≡ set.entries
back_to-same clauses set level ready trail = up_to-low level set.entries
    (subst (λ n. All (λ e. e.level ≤ n) set.entries) trail.level (IsTop-grown (live clauses) [] set.entries trail.grown IsTop-none))

-- what contracts see after a backtrack
pub back_to-state : (clauses : List (Option (List Lit))) (cells : List Cell) (heads : List ℕ) (old new : Assigned) (level level' head' examined : ℕ) (ready : Bool) → IsKept clauses cells heads new level' head' examined false → StartsWith level' old new → state_of clauses new level' false ≡ record (state_of clauses old level ready) { entries = up_to level' old.entries; level = level'; ready = false }
back_to-state clauses cells heads old new level level' head' examined ready kept begins =
    ap (λ vars. let s : State = record { vars = vars; clauses = clauses; entries = new.entries; level = level'; ready = false } in s) begins.vars
    ∙ ap (λ es. let s : State = record { vars = old.vars; clauses = clauses; entries = es; level = level'; ready = false } in s)
    (sym (back_to-entries clauses cells heads old new level' head' examined kept begins))

-- a trail that is no longer ready
pub IsKept-unready : (clauses : List (Option (List Lit))) (cells : List Cell) (heads : List ℕ) (set : Assigned) (level head examined : ℕ) (ready : Bool) → IsKept clauses cells heads set level head examined ready → IsKept clauses cells heads set level head examined false
IsKept-unready clauses cells heads set level head examined ready kept = record {
  few = kept.few;
  trail = record { grown = kept.trail.grown; level = kept.trail.level; exist = kept.trail.exist; clauses_exist = kept.trail.clauses_exist; ready_propagated = λ impossible. cc };
  linked = kept.linked;
  watched = kept.watched;
  complete = λ impossible. cc;
}

-- what contracts see of an addition
pub Adds-push : (old : State) (clause : List Lit) (new : State) (number : ℕ) → new ≡ record old { clauses = old.clauses ++ Some clause ∷ []; ready = false } → number ≡ length new.clauses → Adds old clause new number
Adds-push old clause new number grows counted = rw grows (record {
  next = next;
  last = sym whole ∙ sym next;
  has_number = subst (λ n. HasNumber (live (old.clauses ++ Some clause ∷ [])) n clause) (sym next) (added_last old.clauses clause);
  others = λ n other. others_keep old.clauses (Some clause) n (λ same. other (same ∙ sym next));
  rest = refl;
})
  where
    whole : length old.clauses + 1 ≡ length (old.clauses ++ Some clause ∷ [])
    whole = omega (arith, length-append old.clauses (Some clause ∷ []))

    next : number ≡ length old.clauses + 1
    next = counted ∙ ap (λ (s : State). length s.clauses) grows ∙ sym whole

-- a trail with one clause more that is open
pub IsGrown-add : (clauses : List (Option (List Lit))) (set : Assigned) (level : ℕ) (ready : Bool) (clause : List Lit) → IsGrown (state_of clauses set level ready) → VariablesExist set.vars clause → (level ≡ 0) ⊎ HasTwoOpen set.entries level clause → IsGrown (state_of (clauses ++ Some clause ∷ []) set level false)
IsGrown-add clauses set level ready clause trail exist is_open = record {
  grown = Grows-add (live clauses) clause (live (clauses ++ Some clause ∷ [])) [] set.entries level (Widens-push clauses clause) trail.grown IsTop-none trail.level is_open;
  level = trail.level;
  exist = trail.exist;
  clauses_exist = λ n c has. elim ((Widens-push clauses clause).only n c has) [
    | inl before ↦ trail.clauses_exist n c before
    | inr same ↦ subst (VariablesExist set.vars) same exist
  ];
  ready_propagated = λ impossible. cc;
}
