-- What follows from the growth of a trail.
use Rattle.std.proofs.Common.{◌≡◌, ◌≢◌, ℕ, ◌<◌, ◌≤◌, Some, None, IsSome, List, [], ◌∷◌, ◌++◌, ◌⊎◌, inl, inr, sym, ap, refl, ◌∙◌, subst, append-nil, arith, All, AllPairs}
use Rattle.std.proofs.lemmas.Bool.{cases_lt}
use Rattle.std.proofs.lemmas.List.Elements.{All-cons, All-weaker}
use Rattle.std.proofs.lemmas.List.Quantifiers.{all_pairs_push}
use Rattle.clause_core.specs.Propagation.{IsPropagated}
use Rattle.sat_trail.specs.declared.entry.Entry.{Entry}
use Rattle.sat_trail.specs.Entry.{values_of, last_level, up_to}
use Rattle.clause_core.specs.Numbering.{Numbering}
use Rattle.sat_trail.specs.Growth.{IsDecision, IsForced, MayBeSet}
use Rattle.sat_trail.specs.inner.Growth.{Grows, IsGrown}
use Rattle.sat_trail.specs.State.{State, numbering_of}
use Rattle.sat_trail.specs.Trail.{IsTrail}
use Rattle.sat_trail.specs.Levels.{HasOneDecision, HasLevels, HasCauses, IsPropagatedBelow}
use Rattle.sat_trail.proofs.EntryLemmas.{entry_of-distinct, values_of-none}
use Rattle.sat_trail.proofs.StorageLemmas.{last_level-push}
use Rattle.sat_trail.proofs.LevelLemmas.{level-step, moved, IsTop, IsTop-push, IsTop-grown, IsTop-none, up_to-both, Grows-split, decision-above}

-- an entry that follows has its cause
pub HasCauses-trail : (t : State) → IsGrown t → HasCauses t
HasCauses-trail t trail before after e whole =
    (Grows-split (numbering_of t) [] before (e ∷ after) (subst (Grows (numbering_of t) []) whole trail.grown)).1.0

-- entries that follow are of no lower level
pub levels-above : (numbering : Numbering) (before rest : List Entry) (low : ℕ) → Grows numbering before rest → low ≤ last_level before → All (λ d. low ≤ d.level) rest
levels-above numbering before [] low follows high = λ k d within. absurd (omega arith)
levels-above numbering before (e ∷ rest) low follows high =
    let here : low ≤ e.level = omega (arith, high, (level-step numbering before e follows.0).0) in
    All-cons (λ d. low ≤ d.level) e rest here
    (levels-above numbering (before ++ e ∷ []) rest low follows.1 (omega (arith, here, last_level-push before e)))

-- below the level that is reached, unit propagation has nothing to do
propagated-below : (numbering : Numbering) (before rest : List Entry) (level : ℕ) → Grows numbering before rest → IsTop before → last_level before ≤ level → level < last_level (before ++ rest) → IsPropagated (values_of (up_to level (before ++ rest))) numbering
propagated-below numbering before [] level follows top low high = absurd (omega (arith, low, high, ap last_level (append-nil before)))
propagated-below numbering before (e ∷ rest) level follows top low high = elim (cases_lt level e.level) [
  | inl above ↦
      let front : up_to level (before ++ e ∷ rest) ≡ before =
      up_to-both level before (e ∷ rest)
      (All-weaker (λ d. d.level ≤ last_level before) (λ d. d.level ≤ level) (λ d under. omega (arith, under, low)) before top)
      (All-cons (λ d. level < d.level) e rest above
      (All-weaker (λ d. e.level ≤ d.level) (λ d. level < d.level) (λ d over. omega (arith, over, above)) rest
      (levels-above numbering (before ++ e ∷ []) rest e.level follows.1 (omega (arith, last_level-push before e))))) in
      subst (λ es. IsPropagated (values_of es) numbering) (sym front) (decision-above numbering before e level follows.0 low above).1
  | inr under ↦
      subst (λ es. IsPropagated (values_of (up_to level es)) numbering) (moved before e rest)
      (propagated-below numbering (before ++ e ∷ []) rest level follows.1 (IsTop-push numbering before e follows.0 top)
      (omega (arith, under, last_level-push before e)) (omega (arith, high, ap last_level (moved before e rest))))
]

-- the levels below the current one leave unit propagation nothing to do
pub IsPropagatedBelow-trail : (t : State) → IsGrown t → IsPropagatedBelow t
IsPropagatedBelow-trail t trail level below =
    propagated-below (numbering_of t) [] t.entries level trail.grown IsTop-none (omega arith) (omega (arith, below, trail.level))

-- entries that follow are for other variables, and those before them stay distinct
pub once-grown : (numbering : Numbering) (before rest : List Entry) → Grows numbering before rest → AllPairs (λ d e. d.lit.var ≢ e.lit.var) before → AllPairs (λ d e. d.lit.var ≢ e.lit.var) (before ++ rest)
once-grown numbering before [] follows differs = subst (AllPairs (λ d e. d.lit.var ≢ e.lit.var)) (sym (append-nil before)) differs
once-grown numbering before (e ∷ rest) follows differs =
    subst (AllPairs (λ d e. d.lit.var ≢ e.lit.var)) (moved before e rest)
    (once-grown numbering (before ++ e ∷ []) rest follows.1
    (all_pairs_push (λ d f. d.lit.var ≢ f.lit.var) before e differs (entry_of-distinct before e.lit.var (values_of-none before e.lit.var follows.0.no_value))))

-- levels never fall along the entries
rising-grown : (numbering : Numbering) (before rest : List Entry) → Grows numbering before rest → IsTop before → AllPairs (λ d e. d.level ≤ e.level) before → AllPairs (λ d e. d.level ≤ e.level) (before ++ rest)
rising-grown numbering before [] follows top rising = subst (AllPairs (λ d e. d.level ≤ e.level)) (sym (append-nil before)) rising
rising-grown numbering before (e ∷ rest) follows top rising =
    subst (AllPairs (λ d e. d.level ≤ e.level)) (moved before e rest)
    (rising-grown numbering (before ++ e ∷ []) rest follows.1 (IsTop-push numbering before e follows.0 top)
    (all_pairs_push (λ d f. d.level ≤ f.level) before e rising (λ k d within. omega (arith, top k d within, (level-step numbering before e follows.0).0))))

-- of the entries that follow, those of the level before them have reasons
reasons-after : (numbering : Numbering) (before rest : List Entry) (level : ℕ) → Grows numbering before rest → level ≤ last_level before → All (λ d. d.level ≡ level → IsSome d.reason) rest
reasons-after numbering before [] level follows reached = λ k d within. absurd (omega arith)
reasons-after numbering before (e ∷ rest) level follows reached =
    All-cons (λ d. d.level ≡ level → IsSome d.reason) e rest (reason-here follows.0.cause)
    (reasons-after numbering (before ++ e ∷ []) rest level follows.1 (omega (arith, reached, last_level-push before e, (level-step numbering before e follows.0).0)))
  where
    reason-here : IsDecision numbering before e ⊎ IsForced numbering before e → e.level ≡ level → IsSome e.reason
    reason-here cause at_level = elim cause [
      | inl decision ↦ absurd (omega (arith, decision.raises, at_level, reached))
      | inr forced ↦ subst IsSome (sym forced.reason) refl
    ]

-- each level that is reached has one decision
one-decision : (numbering : Numbering) (before rest : List Entry) (level : ℕ) → Grows numbering before rest → IsTop before → last_level before < level → level ≤ last_level (before ++ rest) → HasOneDecision (before ++ rest) level
one-decision numbering before [] level follows top low high = absurd (omega (arith, low, high, ap last_level (append-nil before)))
one-decision numbering before (e ∷ rest) level follows top low high = elim (cases_lt e.level level) [
  | inl under ↦
      subst (λ es. HasOneDecision es level) (moved before e rest)
      (one-decision numbering (before ++ e ∷ []) rest level follows.1 (IsTop-push numbering before e follows.0 top)
      (omega (arith, under, last_level-push before e)) (omega (arith, high, ap last_level (moved before e rest))))
  | inr reached ↦ record {
    before = before;
    decision = e;
    after = rest;
    whole = refl;
    decided = decided-here reached follows.0.cause;
    at_level = at-level reached;
    first = All-weaker (λ d. d.level ≤ last_level before) (λ d. d.level < level) (λ d under. omega (arith, under, low)) before top;
    only = reasons-after numbering (before ++ e ∷ []) rest level follows.1 (omega (arith, reached, last_level-push before e));
  }
]
  where
    at-level : level ≤ e.level → e.level ≡ level
    at-level reached = omega (arith, reached, low, (level-step numbering before e follows.0).1)

    decided-here : level ≤ e.level → IsDecision numbering before e ⊎ IsForced numbering before e → e.reason ≡ None
    decided-here reached cause = elim cause [
      | inl decision ↦ decision.no_reason
      | inr forced ↦ absurd (omega (arith, forced.stays, reached, low))
    ]

-- a decision rises above the entries before it
decision-rises : (numbering : Numbering) (before : List Entry) (e : Entry) → IsTop before → MayBeSet numbering before e → e.reason ≡ None → All (λ d. d.level < e.level) before
decision-rises numbering before e top set none = elim set.cause [
  | inl decision ↦ All-weaker (λ d. d.level ≤ last_level before) (λ d. d.level < e.level) (λ d under. omega (arith, under, decision.raises)) before top
  | inr forced ↦ absurd (let clash : Some forced.number ≡ None = sym forced.reason ∙ none in cc)
]

-- the entries before one of a trail
decisions-rise : (t : State) (before after : List Entry) (e : Entry) → IsGrown t → t.entries ≡ before ++ e ∷ after → e.reason ≡ None → All (λ d. d.level < e.level) before
decisions-rise t before after e trail whole none =
    let parts = Grows-split (numbering_of t) [] before (e ∷ after) (subst (Grows (numbering_of t) []) whole trail.grown) in
    decision-rises (numbering_of t) before e (IsTop-grown (numbering_of t) [] before parts.0 IsTop-none) parts.1.0 none

-- every trail has its levels
pub HasLevels-trail : (t : State) → IsGrown t → HasLevels t
HasLevels-trail t trail = record {
  once = once-grown (numbering_of t) [] t.entries trail.grown (λ i j d before within. absurd (omega arith));
  rising = rising-grown (numbering_of t) [] t.entries trail.grown IsTop-none (λ i j d before within. absurd (omega arith));
  highest = subst (λ n. All (λ e. e.level ≤ n) t.entries) trail.level (IsTop-grown (numbering_of t) [] t.entries trail.grown IsTop-none);
  no_decision = reasons-after (numbering_of t) [] t.entries 0 trail.grown (omega arith);
  decisions_rise = λ before after e. decisions-rise t before after e trail;
  one_decision = λ level above reached. one-decision (numbering_of t) [] t.entries level trail.grown IsTop-none above (omega (arith, reached, trail.level));
}

-- what every trail keeps
pub IsTrail-grown : (t : State) → IsGrown t → IsTrail t
IsTrail-grown t trail = record {
  levels = HasLevels-trail t trail;
  causes = HasCauses-trail t trail;
  below = IsPropagatedBelow-trail t trail;
  exist = trail.exist;
  clauses_exist = trail.clauses_exist;
  ready_propagated = trail.ready_propagated;
}
