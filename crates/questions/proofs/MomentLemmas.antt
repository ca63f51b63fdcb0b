-- The moments of a run: one past its end is its end.
use Rattle.std.proofs.Common.{◌≡◌, ℕ, ◌+◌, ◌<◌, ◌≤◌, List, length, take, sym, ◌∙◌, subst, ⊎_elim, arith}
use Rattle.std.proofs.lemmas.Bool.{cases_lt}
use Rattle.std.proofs.lemmas.List.{take_all}
use Rattle.bspl_types.specs.declared.event.Event.{Event}
use Rattle.bspl_types.specs.declared.expanded.Expanded.{Expanded}
use Rattle.bspl_types.specs.declared.value.Value.{Value}
use Rattle.questions.specs.declared.question.Happening.{Happening}
use Rattle.questions.specs.Happening.{HappenedBefore, HasHappened}
use Rattle.questions.specs.inner.Moment.{IsBetween}

-- what holds of all numbers so far and of the next one holds of one more
pub one_more : (P : ℕ → Type 0) (n : ℕ) → ((k : ℕ) → k < n → P k) → P n → (k : ℕ) → k < n + 1 → P k
one_more P n all next k below =
    ⊎_elim
    (λ before. all k before)
    (λ from. let same : n ≡ k = omega (arith, below, from) in subst P same next)
    (cases_lt k n)

-- a later moment than the end is as the end
at_end : (x : Expanded) (run : List Event) (key : List Value) (one other : Happening) (moment : ℕ) → length run ≤ moment → IsBetween x (take moment run) key one other → IsBetween x (take (length run) run) key one other
at_end x run key one other moment past between =
    let same = take_all moment run past ∙ sym (take_all (length run) run (omega arith)) in
    record {
      happened = subst (λ (events : List Event). HasHappened x events key one) same between.happened;
      not_yet = λ yet. between.not_yet (subst (λ (events : List Event). HasHappened x events key other) (sym same) yet);
    }

-- what no moment up to the end shows, none shows
pub never_before : (x : Expanded) (run : List Event) (key : List Value) (one other : Happening) (moments : ℕ) → length run < moments → ((k : ℕ) → k < moments → IsBetween x (take k run) key one other → ⊥) → HappenedBefore x run key one other → ⊥
never_before x run key one other moments all none before =
    let between : IsBetween x (take before.moment run) key one other = record { happened = before.happened; not_yet = before.not_yet } in
    ⊎_elim
    (λ within. none before.moment within between)
    (λ past. none (length run) all (at_end x run key one other before.moment (omega (arith, all, past)) between))
    (cases_lt before.moment moments)
