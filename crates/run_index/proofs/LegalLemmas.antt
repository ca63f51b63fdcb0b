-- What the first event that may not follow says of the run.
use Rattle.std.proofs.Common.{◌≡◌, ℕ, ◌+◌, ◌<◌, List, ◌∷◌, ◌++◌, length, take, drop, Some, sym, ap, ◌∙◌, subst, arith, length-take}
use Rattle.std.specs.Prelude.{slice_get, ⊤}
use Rattle.std.proofs.lemmas.List.{drop_more, get_or-take, take-append-drop, take-take, take_all}
use Rattle.std.proofs.lemmas.Option.{get_or_from_slice_get, slice_get-get_or, slice_get_within}
use Rattle.bspl_types.specs.declared.event.Event.{Event}
use Rattle.bspl_types.specs.declared.expanded.Expanded.{Expanded}
use Rattle.enactment_model.specs.declared.bad_event.Why.{Why}
use Rattle.enactment_model.specs.BadEvent.{IsFirstBadEvent, MayNotFollow}
use Rattle.enactment_model.specs.Laws.{LegalByPositions}
use Rattle.enactment_model.specs.Legal.{IsLegal, MayFollow}
use Rattle.run_index.specs.declared.demand.Demand.TheVariants as demands
use Rattle.run_index.specs.inner.Failures.{IsFirstFailure}

-- an item of the first ones is that of the list
whole_item : {X : Type 0} (xs : List X) (k n : ℕ) (y : X) → slice_get (take n xs) k ≡ Some y → slice_get xs k ≡ Some y
whole_item xs k n y at =
    let within : k < length (take n xs) = slice_get_within (take n xs) k y at in
    slice_get-get_or xs k y (omega (arith, within, length-take n xs)) ∙ ap Some (sym (get_or-take n xs k y (omega (arith, within, length-take n xs))) ∙ get_or_from_slice_get (take n xs) k y y at)

-- the events before the first that may not follow are legal
pub legal_before : LegalByPositions → (x : Expanded) (run : List Event) (n : ℕ) → IsFirstFailure x demands.MayFollow run (λ _. ⊤) n → IsLegal x (take n run)
legal_before law x run n failure = (law x (take n run)).1 (λ k e at.
    let within : k < length (take n run) = slice_get_within (take n run) k e at in
    let before : k < n = omega (arith, within, length-take n run) in
    subst (λ es. MayFollow x es e) (sym (take-take k n run (omega (arith, before)))) (failure.met k e before (whole_item run k n e at) tt))

-- without such an event the run is legal
pub legal_to_end : LegalByPositions → (x : Expanded) (run : List Event) (n : ℕ) → length run ≡ n → IsFirstFailure x demands.MayFollow run (λ _. ⊤) n → IsLegal x run
legal_to_end law x run n is_end failure = subst (IsLegal x) (take_all n run (omega (arith, is_end))) (legal_before law x run n failure)

-- that event is the first bad one
pub bad_at : LegalByPositions → (x : Expanded) (run : List Event) (n : ℕ) (e : Event) (why : Why) → slice_get run n ≡ Some e → IsFirstFailure x demands.MayFollow run (λ _. ⊤) n → MayNotFollow x (take n run) e why → IsFirstBadEvent x run (record { place = n + 1; why = why })
bad_at law x run n e why at failure not =
    let within : n < length run = slice_get_within run n e at in
    record {
      before = take n run;
      event = e;
      after = drop (n + 1) run;
      split = sym (take-append-drop n run) ∙ ap (λ rest. take n run ++ rest) (drop_more run n e within ∙ ap (λ f. f ∷ drop (n + 1) run) (get_or_from_slice_get run n e e at));
      legal = legal_before law x run n failure;
      place = omega (arith, within, length-take n run);
      why = not;
    }
