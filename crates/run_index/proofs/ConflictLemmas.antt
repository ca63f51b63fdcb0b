-- What the first event with a rival says of the run's conflicts.
use Rattle.std.proofs.Common.{◌≡◌, ℕ, ◌+◌, ◌≤◌, List, length, take, Some, inl, inr, refl, sym, ap, ◌∙◌, arith}
use Rattle.std.specs.Prelude.{slice_get, ⊤}
use Rattle.std.specs.List.{Any}
use Rattle.std.proofs.lemmas.Bool.{cases_lt}
use Rattle.std.proofs.lemmas.Option.{same_Some, slice_get_cases, slice_get_within}
use Rattle.list_base.proofs.Membership.{early_index, early_member}
use Rattle.bspl_types.specs.declared.event.Event.{Event}
use Rattle.bspl_types.specs.declared.event.Event.TheVariants.{Emit}
use Rattle.bspl_types.specs.declared.expanded.Expanded.{Expanded}
use Rattle.bspl_types.specs.declared.value.Value.{Value}
use Rattle.enactment_model.specs.LeastConflict.{IsLeastConflict}
use Rattle.enactment_model.specs.Rivals.{HasNoRival, IsLeastRival}
use Rattle.enactment_model.specs.Safety.{Conflict, HasNoConflict}
use Rattle.run_index.specs.declared.demand.Demand.TheVariants as demands
use Rattle.run_index.specs.inner.Demands.{IsRivalOf}
use Rattle.run_index.specs.inner.Failures.{IsFirstFailure}

-- a conflict's first producer is a rival of its second one
pub rival_from_conflict : (x : Expanded) (run : List Event) (key : List Value) (p first second : ℕ) (e : Event) → slice_get run second ≡ Some e → Conflict x run key p first second → Any (IsRivalOf x e) (take second run)
rival_from_conflict x run key p first second e at conflict =
    let one = conflict.first_produces in
    let other = conflict.second_produces in
    let (k, within, is) = early_member run first second (Emit one.instance) one.emitted conflict.in_order in (
      k,
      Emit one.instance,
      within,
      is,
      record {
        instance = other.instance;
        other = one.instance;
        event_is = same_Some e (Emit other.instance) (sym at ∙ other.emitted);
        earlier_is = refl;
        under = one.under ∙ sym other.under;
        shared = record { param = p; one = one.adorned; other = other.adorned };
      },
    )

-- and a rival is in conflict
pub conflict_from_rival : (x : Expanded) (run : List Event) (second : ℕ) (e : Event) → slice_get run second ≡ Some e → Any (IsRivalOf x e) (take second run) → (key : List Value) × (p : ℕ) × (first : ℕ) × Conflict x run key p first second
conflict_from_rival x run second e at (k, earlier, within, is, rival) =
    let (first, before, there) = early_index run second earlier (k, within, is) in (
      rival.instance.key,
      rival.shared.param,
      first,
      record {
        in_order = before;
        first_produces = record { instance = rival.other; emitted = there ∙ ap Some rival.earlier_is; under = rival.under; adorned = rival.shared.one };
        second_produces = record { instance = rival.instance; emitted = at ∙ ap Some rival.event_is; under = refl; adorned = rival.shared.other };
      },
    )

-- before the first failure there is no conflict
pub unrivalled_before : (x : Expanded) (run : List Event) (n : ℕ) → IsFirstFailure x demands.Unrivalled run (λ _. ⊤) n → (key : List Value) (p first second : ℕ) → Conflict x run key p first second → n ≤ second
unrivalled_before x run n failure key p first second conflict = elim (cases_lt second n) [
  | inl before ↦
      let other = conflict.second_produces in
      absurd (failure.met second (Emit other.instance) before other.emitted tt (rival_from_conflict x run key p first second (Emit other.instance) other.emitted conflict))
  | inr from ↦ from
]

-- without a failure there is no conflict
pub no_conflict : (x : Expanded) (run : List Event) (n : ℕ) → n ≡ length run → IsFirstFailure x demands.Unrivalled run (λ _. ⊤) n → HasNoConflict x run
no_conflict x run n is_end failure key p first second conflict =
    let other = conflict.second_produces in
    let from : n ≤ second = unrivalled_before x run n failure key p first second conflict in
    absurd (omega (arith, is_end, from, slice_get_within run second (Emit other.instance) other.emitted))

-- at a failure there is one
pub rival_is_found : (x : Expanded) (run : List Event) (n : ℕ) → (n ≡ length run → ⊥) → IsFirstFailure x demands.Unrivalled run (λ _. ⊤) n → ((p : ℕ) → HasNoRival x run n p) → ⊥
rival_is_found x run n not_end failure none = elim ((slice_get_cases run n).1) [
  | inl (e, _, at, _) ↦ failure.failed e at (λ rival. let (key, p, first, conflict) = conflict_from_rival x run n e at rival in none p key first conflict)
  | inr (past, _) ↦ not_end (omega (arith, failure.within, past))
]

-- and its least rival makes the least conflict
pub least_conflict : (x : Expanded) (run : List Event) (n p first : ℕ) → IsFirstFailure x demands.Unrivalled run (λ _. ⊤) n → IsLeastRival x run n (p, first) → IsLeastConflict x run (record { first = first + 1; second = n + 1; param = p })
least_conflict x run n p first failure found =
    record {
      key = found.rival.key;
      first = first;
      second = n;
      first_is = refl;
      second_is = refl;
      conflict = found.rival.conflict;
      least_second = unrivalled_before x run n failure;
      least_param = found.least;
      least_first = found.rival.least;
    }
