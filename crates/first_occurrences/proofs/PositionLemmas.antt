-- The first position of a kind: it is within the run exactly if the kind occurs.
use Rattle.std.proofs.Common.{◌≡◌, ℕ, ◌<◌, ◌≤◌, true, false, not, List, [], ◌∷◌, inl, inr, length, get_or, refl, sym, ap, ◌∙◌, subst, arith}
use Rattle.std.specs.List.{position_or_len}
use Rattle.std.specs.Prelude.{slice_get, Some}
use Rattle.std.proofs.lemmas.Bool.{both_ways, cases_lt}
use Rattle.std.proofs.lemmas.List.Folds.{Any-from_list_any, length-prefix_len, list_any_at}
use Rattle.std.proofs.lemmas.List.Sums.{fails_before_first, passes_at_first, prefix_len-le-length}
use Rattle.std.proofs.lemmas.Option.{slice_get-get_or, get_or_from_slice_get}
use Rattle.bspl_types.specs.declared.event.Event.{Event}
use Rattle.bspl_types.specs.declared.value.Value.{Value}
use Rattle.first_occurrences.specs.Occurrence.{first_position, is_occurring, is_of_kind}

-- it is the index of the first event of the kind
pub position_is : (run : List Event) (key : List Value) (kind : ℕ) → first_position run key kind ≡ position_or_len (is_of_kind key kind) run
position_is run key kind = length-prefix_len (λ e. not (is_of_kind key kind e)) run

-- it is at most the length
pub position_at_most : (run : List Event) (key : List Value) (kind : ℕ) → first_position run key kind ≤ length run
position_at_most run key kind =
    subst (λ n. n ≤ length run) (sym (position_is run key kind)) (prefix_len-le-length (λ e. not (is_of_kind key kind e)) run)

-- no event before it is of the kind
pub not_of_kind_before : (run : List Event) (key : List Value) (kind position : ℕ) (e : Event) → slice_get run position ≡ Some e → position < first_position run key kind → is_of_kind key kind e ≡ false
not_of_kind_before run key kind position e at before =
    ap (is_of_kind key kind) (sym (get_or_from_slice_get run position e e at)) ∙
    fails_before_first (is_of_kind key kind) run position e (subst (λ n. position < n) (position_is run key kind) before)

-- so the position of an event of the kind is no earlier
pub first_at_most : (run : List Event) (key : List Value) (kind position : ℕ) (e : Event) → slice_get run position ≡ Some e → is_of_kind key kind e ≡ true → first_position run key kind ≤ position
first_at_most run key kind position e at of_kind =
    elim (cases_lt position (first_position run key kind)) [
      | inl before ↦ absurd (both_ways _ (not_of_kind_before run key kind position e at before) of_kind)
      | inr after ↦ after
    ]

-- an event of a kind, at its first position
pub record FirstEvent (run : List Event) (key : List Value) (kind : ℕ) : Type 0 where
  pub event : Event
  pub at : slice_get run (first_position run key kind) ≡ Some event
  pub of_kind : is_of_kind key kind event ≡ true

-- the first position of a kind that occurs is within the run
pub position_within : (run : List Event) (key : List Value) (kind : ℕ) → is_occurring run key kind ≡ true → first_position run key kind < length run
position_within run key kind occurs =
    let (position, e, within, is, of_kind) = Any-from_list_any (is_of_kind key kind) run occurs in
    let at : slice_get run position ≡ Some e = slice_get-get_or run position e within ∙ ap Some is in
    let no_later : first_position run key kind ≤ position = first_at_most run key kind position e at of_kind in
    omega arith

-- and an event of the kind is there
pub first_event : (run : List Event) (key : List Value) (kind : ℕ) → is_occurring run key kind ≡ true → FirstEvent run key kind
first_event run key kind occurs =
    let (position, e, within, is, of_kind) = Any-from_list_any (is_of_kind key kind) run occurs in
    let first = first_position run key kind in
    let inside : first < length run = position_within run key kind occurs in
    record {
      event = get_or run first e;
      at = slice_get-get_or run first e inside;
      of_kind =
          subst (λ n. is_of_kind key kind (get_or run n e) ≡ true) (sym (position_is run key kind))
          (passes_at_first (is_of_kind key kind) run e (subst (λ n. n < length run) (position_is run key kind) inside));
    }

-- a kind that does not occur has the length as its first position
pub position_of_none : (run : List Event) (key : List Value) (kind : ℕ) → is_occurring run key kind ≡ false → first_position run key kind ≡ length run
position_of_none [] key kind none = refl
position_of_none (e ∷ run) key kind none =
    elim (cases_lt (position_or_len (is_of_kind key kind) (e ∷ run)) (length (e ∷ run))) [
      | inl inside ↦ absurd (both_ways _ none (list_any_at (is_of_kind key kind) (e ∷ run) _ e inside (passes_at_first (is_of_kind key kind) (e ∷ run) e inside)))
      | inr past ↦
          let is = position_is (e ∷ run) key kind in
          let no_longer = position_at_most (e ∷ run) key kind in
          omega (arith, is, no_longer, past)
    ]
