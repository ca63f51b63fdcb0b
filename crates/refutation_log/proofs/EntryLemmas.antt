-- The entries of a log, one after the other.
use Rattle.std.proofs.Common.{◌≡◌, ◌≢◌, ℕ, zero, suc, ◌+◌, ◌-◌, ◌<◌, ◌≤◌, List, [], ◌∷◌, ◌++◌, length, get_or, take, drop, map, All, refl, sym, ap, ◌∙◌, arith}
use Rattle.std.proofs.lemmas.List.{append_assoc, map-append, length-drop, length-take-le, drop-append-le, take-append-le, take-append-drop, take_all, drop_all, drop_more}
use Rattle.std.proofs.lemmas.List.Elements.{All-nil, All-cons}
use Rattle.refutation_log.specs.declared.refutation.Chain.{Chain}
use Rattle.refutation_log.specs.declared.refutation.Removal.{Removal}
use Rattle.refutation_log.specs.declared.refutation.Entry.{Entry}
use Rattle.refutation_log.specs.declared.refutation.Entry.TheVariants.{Step, Drop}
use Rattle.refutation_log.specs.RemovalOrder.{IsInOrder, IsLeft}
use Rattle.refutation_log.specs.Entries.{entries_after, steps_of}

All-first : {X : Type 0} (P : X → Type 0) (x : X) (xs : List X) → All P (x ∷ xs) → P x
All-first P x xs all = all 0 x (omega arith)

All-others : {X : Type 0} (P : X → Type 0) (x : X) (xs : List X) → All P (x ∷ xs) → All P xs
All-others P x xs all = λ k d short. all (suc k) d (omega (arith, short))

-- what the order says of each removal
abbrev ComesIn : List Chain → Removal → Type 0
ComesIn steps removal = removal.after ≤ length steps

abbrev Names : Removal → Type 0
Names removal = removal.clauses ≢ []

abbrev ComesAfter : ℕ → Removal → Type 0
ComesAfter done removal = done ≤ removal.after

-- ---- what is left

-- after the first removal that is left the others are
pub left_others : (done : ℕ) (steps : List Chain) (removal : Removal) (removals : List Removal) → IsLeft done steps (removal ∷ removals) → IsLeft removal.after steps removals
left_others done steps removal removals left = record {
  made = All-first (ComesIn steps) removal removals left.order.within;
  order = record {
    rising = λ i j d less short. left.order.rising (suc i) (suc j) d (omega (arith, less)) (omega (arith, short));
    within = All-others (ComesIn steps) removal removals left.order.within;
    named = All-others Names removal removals left.order.named;
  };
  later = λ k d short. left.order.rising 0 (suc k) d (omega arith) (omega (arith, short));
}

-- the removals that are left come later where the first of them does not come here
pub left_past : (done : ℕ) (steps : List Chain) (removals : List Removal) → ((removal : Removal) (others : List Removal) → removals ≡ removal ∷ others → removal.after ≢ done) → IsLeft done steps removals → All (λ removal. done + 1 ≤ removal.after) removals
left_past done steps [] other left = All-nil (ComesAfter (done + 1))
left_past done steps (removal ∷ removals) other left =
    let here : done ≤ removal.after = All-first (ComesAfter done) removal removals left.later in
    let past : done + 1 ≤ removal.after = omega (arith, here, other removal removals refl) in
    let others : IsLeft removal.after steps removals = left_others done steps removal removals left in
    All-cons (ComesAfter (done + 1)) removal removals past (λ k d short. omega (arith, past, others.later k d short))

-- a step was made, and the removals that are left come later
pub left_step : (done : ℕ) (steps : List Chain) (removals : List Removal) → done < length steps → All (λ removal. done + 1 ≤ removal.after) removals → IsLeft done steps removals → IsLeft (done + 1) steps removals
left_step done steps removals short past left = record { made = omega (arith, short); order = left.order; later = past }

-- from the start all are left
pub left_all : (steps : List Chain) (removals : List Removal) → IsInOrder steps removals → IsLeft 0 steps removals
left_all steps removals order = record { made = omega arith; order = order; later = λ k d short. omega arith }

-- ---- the next entry

-- the removal that comes here
pub next_removal : (done : ℕ) (steps : List Chain) (removal : Removal) (removals : List Removal) → removal.after ≡ done → entries_after done steps (removal ∷ removals) ≡ Drop removal.clauses ∷ entries_after done steps removals
next_removal done steps removal removals here =
    let none : removal.after - done ≡ 0 = omega (arith, here) in
    ap (λ n. map Step (take n (drop done steps)) ++ Drop removal.clauses ∷ entries_after removal.after steps removals) none
    ∙ ap (λ n. Drop removal.clauses ∷ entries_after n steps removals) here

-- the step that comes before the removals that are left
pub next_step : (done : ℕ) (steps : List Chain) (removals : List Removal) (d : Chain) → done < length steps → All (λ removal. done + 1 ≤ removal.after) removals → entries_after done steps removals ≡ Step (get_or steps done d) ∷ entries_after (done + 1) steps removals
next_step done steps [] d short past = ap (map Step) (drop_more steps done d short)
next_step done steps (removal ∷ removals) d short past =
    let later : done + 1 ≤ removal.after = All-first (ComesAfter (done + 1)) removal removals past in
    let count : removal.after - done ≡ suc (removal.after - (done + 1)) = omega (arith, later) in
    ap (λ n. map Step (take n (drop done steps)) ++ Drop removal.clauses ∷ entries_after removal.after steps removals) count
    ∙ ap (λ xs. map Step (take (suc (removal.after - (done + 1))) xs) ++ Drop removal.clauses ∷ entries_after removal.after steps removals) (drop_more steps done d short)

-- no entry is left after the last step where no removal comes here
pub next_none : (done : ℕ) (steps : List Chain) (removals : List Removal) → length steps ≤ done → All (λ removal. done + 1 ≤ removal.after) removals → IsLeft done steps removals → entries_after done steps removals ≡ []
next_none done steps [] long past left = ap (map Step) (drop_all done steps long)
next_none done steps (removal ∷ removals) long past left =
    absurd (omega (arith, long, All-first (ComesAfter (done + 1)) removal removals past, (left_others done steps removal removals left).made))

-- ---- one more at the end

pub entries_push : (done : ℕ) (steps : List Chain) (removals : List Removal) (step : Chain) → IsLeft done steps removals → entries_after done (steps ++ step ∷ []) removals ≡ entries_after done steps removals ++ Step step ∷ []
entries_push done steps [] step left = ap (map Step) (drop-append-le done steps (step ∷ []) left.made) ∙ map-append Step (drop done steps) (step ∷ [])
entries_push done steps (removal ∷ removals) step left =
    let others = left_others done steps removal removals left in
    let short : removal.after - done ≤ length (drop done steps) = omega (arith, others.made, length-drop done steps) in
    let front : take (removal.after - done) (drop done (steps ++ step ∷ [])) ≡ take (removal.after - done) (drop done steps) =
    ap (take (removal.after - done)) (drop-append-le done steps (step ∷ []) left.made) ∙ take-append-le (removal.after - done) (drop done steps) (step ∷ []) short in
    ap (λ xs. map Step xs ++ Drop removal.clauses ∷ entries_after removal.after (steps ++ step ∷ []) removals) front
    ∙ ap (λ es. map Step (take (removal.after - done) (drop done steps)) ++ Drop removal.clauses ∷ es) (entries_push removal.after steps removals step others)
    ∙ sym (append_assoc (map Step (take (removal.after - done) (drop done steps))) (Drop removal.clauses ∷ entries_after removal.after steps removals) (Step step ∷ []))

pub entries_remove : (done : ℕ) (steps : List Chain) (removals : List Removal) (last : Removal) → last.after ≡ length steps → IsLeft done steps removals → entries_after done steps (removals ++ last ∷ []) ≡ entries_after done steps removals ++ Drop last.clauses ∷ []
entries_remove done steps [] last at left =
    let long : length (drop done steps) ≤ last.after - done = omega (arith, at, length-drop done steps) in
    ap (λ xs. map Step xs ++ Drop last.clauses ∷ map Step (drop last.after steps)) (take_all (last.after - done) (drop done steps) long)
    ∙ ap (λ xs. map Step (drop done steps) ++ Drop last.clauses ∷ map Step xs) (drop_all last.after steps (omega (arith, at)))
entries_remove done steps (removal ∷ removals) last at left =
    let others = left_others done steps removal removals left in
    ap (λ es. map Step (take (removal.after - done) (drop done steps)) ++ Drop removal.clauses ∷ es) (entries_remove removal.after steps removals last at others)
    ∙ sym (append_assoc (map Step (take (removal.after - done) (drop done steps))) (Drop removal.clauses ∷ entries_after removal.after steps removals) (Drop last.clauses ∷ []))

-- ---- what the entries are of

steps_of_steps : (steps : List Chain) (entries : List Entry) → steps_of (map Step steps ++ entries) ≡ steps ++ steps_of entries
steps_of_steps [] entries = refl
steps_of_steps (step ∷ steps) entries = ap (λ xs. step ∷ xs) (steps_of_steps steps entries)

steps_of_all : (steps : List Chain) → steps_of (map Step steps) ≡ steps
steps_of_all [] = refl
steps_of_all (step ∷ steps) = ap (λ xs. step ∷ xs) (steps_of_all steps)

drop_further : (m n : ℕ) (steps : List Chain) → m ≤ n → take (n - m) (drop m steps) ++ drop n steps ≡ drop m steps
drop_further m n steps less =
    let twice : drop n steps ≡ drop (n - m) (drop m steps) = dropped m n steps less in
    ap (λ xs. take (n - m) (drop m steps) ++ xs) twice ∙ take-append-drop (n - m) (drop m steps)
  where
    dropped : (m n : ℕ) (steps : List Chain) → m ≤ n → drop n steps ≡ drop (n - m) (drop m steps)
    dropped zero n steps less = ap (λ k. drop k steps) (let e : n ≡ n - 0 = omega arith in e)
    dropped (suc m) n [] less = drop_all n [] (omega arith) ∙ sym (drop_all (n - suc m) [] (omega arith))
    dropped (suc m) zero (step ∷ steps) less = absurd (omega (arith, less))
    dropped (suc m) (suc n) (step ∷ steps) less =
        dropped m n steps (omega (arith, less)) ∙ ap (λ k. drop k (drop m steps)) (let e : n - m ≡ suc n - suc m = omega arith in e)

-- the steps that are left
pub steps_of_entries : (done : ℕ) (steps : List Chain) (removals : List Removal) → IsLeft done steps removals → steps_of (entries_after done steps removals) ≡ drop done steps
steps_of_entries done steps [] left = steps_of_all (drop done steps)
steps_of_entries done steps (removal ∷ removals) left =
    steps_of_steps (take (removal.after - done) (drop done steps)) (Drop removal.clauses ∷ entries_after removal.after steps removals)
    ∙ ap (λ xs. take (removal.after - done) (drop done steps) ++ xs) (steps_of_entries removal.after steps removals (left_others done steps removal removals left))
    ∙ drop_further done removal.after steps (All-first (ComesAfter done) removal removals left.later)

-- the removals among the entries, of which the first stands after `done` steps
abbrev pub removals_of : ℕ → List Entry → List Removal
removals_of done [] = []
removals_of done (Step step ∷ entries) = removals_of (done + 1) entries
removals_of done (Drop numbers ∷ entries) = record { after = done; clauses = numbers } ∷ removals_of done entries

removals_past : (done : ℕ) (steps : List Chain) (entries : List Entry) → removals_of done (map Step steps ++ entries) ≡ removals_of (done + length steps) entries
removals_past done [] entries = ap (λ n. removals_of n entries) (let e : done ≡ done + 0 = omega arith in e)
removals_past done (step ∷ steps) entries =
    removals_past (done + 1) steps entries ∙ ap (λ n. removals_of n entries) (let e : done + 1 + length steps ≡ done + length (step ∷ steps) = omega arith in e)

removals_none : (done : ℕ) (steps : List Chain) → removals_of done (map Step steps) ≡ []
removals_none done [] = refl
removals_none done (step ∷ steps) = removals_none (done + 1) steps

-- the removals that are left
pub removals_of_entries : (done : ℕ) (steps : List Chain) (removals : List Removal) → IsLeft done steps removals → removals_of done (entries_after done steps removals) ≡ removals
removals_of_entries done steps [] left = removals_none done (drop done steps)
removals_of_entries done steps (removal ∷ removals) left =
    let others = left_others done steps removal removals left in
    let before : List Chain = take (removal.after - done) (drop done steps) in
    let here : done ≤ removal.after = All-first (ComesAfter done) removal removals left.later in
    let many : length before ≡ removal.after - done = length-take-le (removal.after - done) (drop done steps) (omega (arith, others.made, length-drop done steps)) in
    let at : done + length before ≡ removal.after = omega (arith, many, here) in
    removals_past done before (Drop removal.clauses ∷ entries_after removal.after steps removals)
    ∙ ap (λ n. removals_of n (Drop removal.clauses ∷ entries_after removal.after steps removals)) at
    ∙ ap (λ rs. removal ∷ rs) (removals_of_entries removal.after steps removals others)
