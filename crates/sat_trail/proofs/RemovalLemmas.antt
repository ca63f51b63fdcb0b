-- A trail with one clause fewer.
use Rattle.std.proofs.Common.{◌≡◌, ◌≢◌, ℕ, ◌-◌, ◌<◌, ◌≤◌, Bool, Option, Some, None, List, [], ◌∷◌, ◌++◌, inl, inr, length, sym, ap, refl, ◌∙◌, subst, arith, All, length-set}
use Rattle.std.specs.Prelude.{slice_set, IsSome}
use Rattle.std.proofs.lemmas.List.Elements.{All-head, All-tail}
use Rattle.clause_core.specs.declared.literal.Lit.{Lit}
use Rattle.clause_core.specs.Numbering.{Numbering, live}
use Rattle.clause_core.specs.Propagation.{IsPropagated}
use Rattle.sat_trail.specs.declared.entry.Entry.{Entry}
use Rattle.sat_trail.specs.declared.watch.Cell.{Cell}
use Rattle.sat_trail.specs.Entry.{values_of}
use Rattle.sat_trail.specs.Growth.{IsDecision, IsForced}
use Rattle.sat_trail.specs.State.{State}
use Rattle.sat_trail.specs.Trail.{Removes}
use Rattle.sat_trail.specs.inner.Excuse.{Progress, AreWatched}
use Rattle.sat_trail.specs.inner.Growth.{Grows}
use Rattle.sat_trail.specs.inner.Propagation.{IsKept}
use Rattle.sat_trail.specs.inner.Storage.{Assigned}
use Rattle.sat_trail.proofs.NumberLemmas.{Narrows, Narrows-before, removed-gone, removed-others, IsSome-number, number_within}

-- with fewer clauses unit propagation still has nothing to do
IsPropagated-narrows : (values : ℕ → Option Bool) (old : Numbering) (number : ℕ) (new : Numbering) → Narrows old number new → IsPropagated values old → IsPropagated values new
IsPropagated-narrows values old number new narrows propagated = record {
  no_false = λ n c has. propagated.no_false n c (Narrows-before old number new n c narrows has);
  no_unit = λ n c l has. propagated.no_unit n c l (Narrows-before old number new n c narrows has);
}

-- entries that the clause did not force follow one another without it
Grows-narrows : (old : Numbering) (number : ℕ) (new : Numbering) (before rest : List Entry) → Narrows old number new → All (λ e. e.reason ≢ Some number) rest → Grows old before rest → Grows new before rest
Grows-narrows old number new before [] narrows none follows = tt
Grows-narrows old number new before (e ∷ rest) narrows none follows = (
  record {
    no_value = follows.0.no_value;
    cause = elim follows.0.cause [
      | inl decision ↦ inl (decided-without decision)
      | inr forced ↦ inr (forced-without forced)
    ];
  },
  Grows-narrows old number new (before ++ e ∷ []) rest narrows (All-tail (λ d. d.reason ≢ Some number) e rest none) follows.1,
)
  where
    decided-without : IsDecision old before e → IsDecision new before e
    decided-without decision = record {
      no_reason = decision.no_reason;
      raises = decision.raises;
      propagated = IsPropagated-narrows (values_of before) old number new narrows decision.propagated;
    }

    forced-without : IsForced old before e → IsForced new before e
    forced-without forced = record {
      number = forced.number;
      clause = forced.clause;
      reason = forced.reason;
      has_number = record {
        there = narrows.others forced.number (λ is. All-head (λ d. d.reason ≢ Some number) e rest none (forced.reason ∙ ap Some is)) ∙ forced.has_number.there;
      };
      leaves = forced.leaves;
      stays = forced.stays;
    }

-- the other clauses watch what they did
AreWatched-narrows : (old : Numbering) (number : ℕ) (new : Numbering) (last : ℕ) (cells : List Cell) (es : List Entry) (p : Progress) → Narrows old number new → AreWatched old last cells es p → AreWatched new last cells es p
AreWatched-narrows old number new last cells es p narrows watched = record {
  head_within = watched.head_within;
  examined_within = watched.examined_within;
  room = watched.room;
  waiting = watched.waiting;
  long = λ n c has. watched.long n c (Narrows-before old number new n c narrows has);
  short = λ n c has. watched.short n c (Narrows-before old number new n c narrows has);
  only = watched.only;
}

-- the numbering without the clause
narrows-set : (clauses : List (Option (List Lit))) (number : ℕ) → 0 < number → Narrows (live clauses) number (live (slice_set clauses (number - 1) None))
narrows-set clauses number from_one = record {
  gone = removed-gone clauses number;
  others = λ n other. removed-others clauses number n from_one other;
}

-- a live number is that of a clause
pub live-given : (clauses : List (Option (List Lit))) (number : ℕ) → IsSome (live clauses number) → (0 < number) × (number ≤ length clauses)
live-given clauses number some =
    let found = IsSome-number clauses number some in
    number_within clauses number found.0 found.1

-- the parts of a trail without the clause
pub IsKept-remove : (clauses new : List (Option (List Lit))) (cells : List Cell) (heads : List ℕ) (s : Assigned) (level head examined : ℕ) (ready : Bool) (number : ℕ) → IsKept clauses cells heads s level head examined ready → IsSome (live clauses number) → All (λ e. e.reason ≢ Some number) s.entries → new ≡ slice_set clauses (number - 1) None → IsKept new cells heads s level head examined ready
IsKept-remove clauses new cells heads s level head examined ready number kept some none removes = rw removes (record {
  few = omega (arith, kept.few, many);
  trail = record {
    grown = Grows-narrows (live clauses) number (live (slice_set clauses (number - 1) None)) [] s.entries narrows none kept.trail.grown;
    level = kept.trail.level;
    exist = kept.trail.exist;
    clauses_exist = λ n c has. kept.trail.clauses_exist n c (Narrows-before (live clauses) number (live (slice_set clauses (number - 1) None)) n c narrows has);
    ready_propagated = λ is_ready. IsPropagated-narrows (values_of s.entries) (live clauses) number (live (slice_set clauses (number - 1) None)) narrows (kept.trail.ready_propagated is_ready);
  };
  linked = kept.linked;
  watched = subst (λ n. AreWatched (live (slice_set clauses (number - 1) None)) n cells s.entries (record { level = level; head = head; examined = examined })) (sym many)
      (AreWatched-narrows (live clauses) number (live (slice_set clauses (number - 1) None)) (length clauses) cells s.entries (record { level = level; head = head; examined = examined }) narrows kept.watched);
  complete = λ is_ready. ((kept.complete is_ready).0, (kept.complete is_ready).1 ∙ sym many);
})
  where
    many : length (slice_set clauses (number - 1) None) ≡ length clauses
    many = length-set clauses (number - 1) None

    narrows : Narrows (live clauses) number (live (slice_set clauses (number - 1) None))
    narrows = narrows-set clauses number (live-given clauses number some).0

-- what contracts see of a removal
pub Removes-set : (old : State) (number : ℕ) (new : State) → IsSome (live old.clauses number) → new ≡ record old { clauses = slice_set old.clauses (number - 1) None } → Removes old number new
Removes-set old number new some removes = rw removes (record {
  gone = removed-gone old.clauses number;
  others = λ n other. removed-others old.clauses number n (live-given old.clauses number some).0 other;
  last = length-set old.clauses (number - 1) None;
  rest = refl;
})
