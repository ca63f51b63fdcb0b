-- A legal run by its positions, and its prefixes.
use Rattle.std.proofs.Common.{◌≡◌, ℕ, zero, suc, List, [], ◌∷◌, ◌++◌, take, Some, refl, sym, subst}
use Rattle.std.specs.Prelude.{slice_get}
use Rattle.std.proofs.lemmas.List.{append-nil, append_assoc}
use Rattle.std.proofs.lemmas.List.Elements.{All-take}
use Rattle.std.proofs.lemmas.Option.{none-some, same_Some}
use Rattle.bspl_types.specs.declared.event.Event.{Event}
use Rattle.bspl_types.specs.declared.expanded.Expanded.{Expanded}
use Rattle.bspl_types.specs.History.{instance_of}
use Rattle.bspl_types.specs.Instance.{Fits}
use Rattle.enactment_model.specs.Legal.{EachMayFollow, IsLegal, IsLegalRun, LegalAfter, MayFollow}

-- the event at a position may follow those before it
follows_after : (x : Expanded) (before run : List Event) → LegalAfter x before run → (position : ℕ) (event : Event) → slice_get run position ≡ Some event → MayFollow x (before ++ take position run) event
follows_after x before [] legal position event at = absurd (none-some event at)
follows_after x before (first ∷ run) legal zero event at =
    subst (λ e. MayFollow x (before ++ []) e) (same_Some first event at) (subst (λ b. MayFollow x b first) (sym (append-nil before)) legal.0)
follows_after x before (first ∷ run) legal (suc position) event at =
    subst (λ b. MayFollow x b event) (append_assoc before (first ∷ []) (take position run)) (follows_after x (before ++ first ∷ []) run legal.1 position event at)

-- from the start of a run
pub follows_at : (x : Expanded) (run : List Event) → IsLegal x run → EachMayFollow x run
follows_at x run legal = follows_after x [] run legal

-- if each event may follow those before it, the run is legal
legal_after : (x : Expanded) (before run : List Event) → ((position : ℕ) (event : Event) → slice_get run position ≡ Some event → MayFollow x (before ++ take position run) event) → LegalAfter x before run
legal_after x before [] each = tt
legal_after x before (first ∷ run) each = (
  subst (λ b. MayFollow x b first) (append-nil before) (each zero first refl),
  legal_after x (before ++ first ∷ []) run (λ position event at. subst (λ b. MayFollow x b event) (sym (append_assoc before (first ∷ []) (take position run))) (each (suc position) event at)),
)

-- from the start of a run
pub legal_from_positions : (x : Expanded) (run : List Event) → EachMayFollow x run → IsLegal x run
legal_from_positions x run each = legal_after x [] run each

-- the first events of a legal run are legal
prefix_after : (x : Expanded) (before run : List Event) (n : ℕ) → LegalAfter x before run → LegalAfter x before (take n run)
prefix_after x before run zero legal = tt
prefix_after x before [] (suc n) legal = tt
prefix_after x before (first ∷ run) (suc n) legal = (legal.0, prefix_after x (before ++ first ∷ []) run n legal.1)

-- from the start of a run
pub prefix_legal : (x : Expanded) (run : List Event) (n : ℕ) → IsLegal x run → IsLegal x (take n run)
prefix_legal x run n legal = prefix_after x [] run n legal

-- with instances that fit
pub prefix_legal_run : (x : Expanded) (run : List Event) (n : ℕ) → IsLegalRun x run → IsLegalRun x (take n run)
prefix_legal_run x run n is_legal =
    record { fits = All-take (λ e. Fits x (instance_of e)) n run is_legal.fits; legal = prefix_legal x run n is_legal.legal }
