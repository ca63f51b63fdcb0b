-- The events of a run up to its first emission of a message.
use Rattle.std.proofs.Common.{◌≡◌, ◌≢◌, ℕ, ◌+◌, ◌<◌, true, List, [], ◌∷◌, ◌++◌, inl, inr, length, take, drop, get_or, Some, None, refl, sym, ap, ◌∙◌, arith, length-take, Contains}
use Rattle.std.specs.Prelude.{◌==◌}
use Rattle.std.specs.List.{position, position_or_len}
use Rattle.std.proofs.lemmas.Bool.{both_ways, cases_lt, eq-eqb, eqb-true, false≢true}
use Rattle.std.proofs.lemmas.Bool.Decides.{nat_tests}
use Rattle.std.proofs.lemmas.List.{get_or-take, take-append-drop, take_more}
use Rattle.std.proofs.lemmas.List.Quantifiers.{position-Some}
use Rattle.std.proofs.lemmas.List.Sums.{fails_before_first}
use Rattle.std.proofs.lemmas.Option.{none-some}
use Rattle.bspl_types.specs.declared.event.Event.{Event}
use Rattle.bspl_types.specs.declared.event.Event.TheVariants.{Emit, Receive}
use Rattle.bspl_types.specs.declared.event.Instance.{Instance}
use Rattle.enactability.specs.Answer.{IsCutAfter}
use Rattle.enactability.specs.inner.Emission.{HasEmission, emits}

-- the index is that of the first emission
abbrev pub IsFirst : List Event → ℕ → ℕ → Type 0
IsFirst run m index = Some index ≡ position (emits m) run

-- it is in the run
pub first_within : (run : List Event) (m index : ℕ) → IsFirst run m index → index < length run
first_within [] m index found = absurd (none-some index (sym found))
first_within (e ∷ run) m index found = (position-Some (emits m) (e ∷ run) index e (sym found)).0

-- an emission before it is of another message
others_before : (run : List Event) (m index : ℕ) (i : Instance) → IsFirst run m index → Contains (take index run) (Emit i) → i.message ≢ m
others_before run m index i found (k, within, is) same =
    let early : k < index = omega (arith, within, length-take index run) in
    let none = (position-Some (emits m) run index (Emit i) (sym found)).2 k early in
    let there : get_or run k (Emit i) ≡ Emit i = sym (get_or-take index run k (Emit i) early) ∙ is in
    both_ways (i.message == m) (ap (emits m) (sym there) ∙ none) (eq-eqb i.message m same)

-- the events up to the one at the index are the run cut after it
cut_with : (run cut : List Event) (m index : ℕ) (d e : Event) → IsFirst run m index → cut ≡ take (index + 1) run → get_or run index d ≡ e → emits m e ≡ true → IsCutAfter m run cut
cut_with run cut m index d (Receive i) found is at passes = absurd (false≢true passes)
cut_with run cut m index d (Emit i) found is at passes = record {
  before = take index run;
  instance = i;
  rest = drop (index + 1) run;
  last = is ∙ take_more run index d (first_within run m index found) ∙ ap (λ (e : Event). take index run ++ e ∷ []) at;
  message_is = eqb-true i.message m passes;
  cut = sym (take-append-drop (index + 1) run) ∙ ap (λ (front : List Event). front ++ drop (index + 1) run) (sym is);
  first = λ j among. others_before run m index j found among;
}

pub cut_at : (run cut : List Event) (m index : ℕ) → IsFirst run m index → cut ≡ take (index + 1) run → IsCutAfter m run cut
cut_at [] cut m index found is = absurd (none-some index (sym found))
cut_at (e ∷ run) cut m index found is =
    cut_with (e ∷ run) cut m index e (get_or (e ∷ run) index e) found is refl (position-Some (emits m) (e ∷ run) index e (sym found)).1

-- if there is an emission, there is a first one
has_first : (run : List Event) (m : ℕ) → HasEmission run m → position (emits m) run ≡ Some (position_or_len (emits m) run)
has_first run m has =
    let i = has.instance in
    let (k, within, is) = has.emitted in
    elim (cases_lt (position_or_len (emits m) run) (length run)) [
      | inl below ↦ grind (arith, nat_tests)
      | inr past ↦ absurd (both_ways (emits m (get_or run k (Emit i))) (fails_before_first (emits m) run k (Emit i) (omega (arith, within, past))) (ap (emits m) is ∙ eq-eqb i.message m has.message_is))
    ]

pub none_found : (run : List Event) (m : ℕ) → None ≡ position (emits m) run → ¬ HasEmission run m
none_found run m none has = none-some (position_or_len (emits m) run) (none ∙ has_first run m has)

-- so the run can be cut after it
pub some_first_cut : (run : List Event) (m : ℕ) → HasEmission run m → (cut : List Event) × IsCutAfter m run cut
some_first_cut run m has =
    let first = position_or_len (emits m) run in
    let cut = take (first + 1) run in
    (cut, cut_at run cut m first (sym (has_first run m has)) refl)
