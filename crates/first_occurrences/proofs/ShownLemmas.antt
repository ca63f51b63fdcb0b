-- What a report of a run shows of it: of two kinds one position says that they are one kind.
use Rattle.std.proofs.Common.{◌≡◌, ◌≢◌, ℕ, ◌<◌, true, List, inl, inr, arith}
use Rattle.std.proofs.lemmas.Bool.{cases_Bool}
use Rattle.bspl_types.specs.declared.event.Event.{Event}
use Rattle.bspl_types.specs.declared.value.Value.{Value}
use Rattle.first_occurrences.specs.Occurrence.{comes_first, first_position, is_occurring}
use Rattle.first_occurrences.specs.Shown.{ReportsShow}
use Rattle.first_occurrences.proofs.BeforeLemmas.{before_is_true, first_from_order, order_from_first}
use Rattle.first_occurrences.proofs.FreshnessLemmas.{one_position}
use Rattle.first_occurrences.proofs.PositionLemmas.{position_of_none, position_within}

-- a kind that occurs and comes first has the earlier position
earlier_if_first : (run : List Event) (key : List Value) (i j : ℕ) → i ≢ j → is_occurring run key i ≡ true → comes_first run key i j ≡ true → first_position run key i < first_position run key j
earlier_if_first run key i j other occurs first =
    let within = position_within run key i occurs in
    elim (order_from_first run key i j first) [
      | inl less ↦ less
      | inr (same, lower) ↦ elim (cases_Bool (is_occurring run key j)) [
        | inl occurs_j ↦ absurd (other (one_position run key i j occurs occurs_j same))
        | inr none ↦ let last = position_of_none run key j none in absurd (omega arith)
      ]
    ]

-- so the literal of two kinds says which position is earlier
pub reports_show : ReportsShow
reports_show vars run key v reports = record {
  occurring = reports.occurring;
  order = λ i j kind_i kind_j other occurs.
      let tells = before_is_true vars run key v i j reports kind_i kind_j other in (
        λ before. earlier_if_first run key i j other occurs (tells.0 before),
        λ earlier. tells.1 (first_from_order run key i j (inl earlier)),
      );
}
