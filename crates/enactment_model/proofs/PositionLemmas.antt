-- Positions under one key: an event's position among those under it, and the conflicts there.
use Rattle.std.proofs.Common.{◌≡◌, ℕ, List, Some, subst}
use Rattle.std.specs.Prelude.{slice_get}
use Rattle.list_base.proofs.Filtered.{filtered_index, filtered_order, unfiltered_index, unfiltered_order}
use Rattle.bspl_types.specs.declared.event.Event.{Event}
use Rattle.bspl_types.specs.declared.event.Event.TheVariants.{Emit}
use Rattle.bspl_types.specs.declared.expanded.Expanded.{Expanded}
use Rattle.bspl_types.specs.declared.value.Value.{Value}
use Rattle.bspl_types.specs.History.{instance_of}
use Rattle.bspl_types.specs.Value.{EqualValuesAreOne}
use Rattle.enactment_model.specs.Projection.{HasConflictUnder, position_under, run_under}
use Rattle.enactment_model.specs.Safety.{Conflict, ProducesAt}
use Rattle.enactment_model.proofs.ProjectionLemmas.{is_under, under_from_key}

-- an act of the run has its counted position in the part under its key
pub act_in_part : EqualValuesAreOne → (run : List Event) (key : List Value) (position : ℕ) (e : Event) → slice_get run position ≡ Some e → (instance_of e).key ≡ key → slice_get (run_under key run) (position_under key run position) ≡ Some e
act_in_part exact run key position e at own = filtered_index (is_under key) run position e at (under_from_key exact key e own)

-- a conflict of the run is one of the part under its key
produces_in_part : EqualValuesAreOne → (x : Expanded) (run : List Event) (key : List Value) (p position : ℕ) → ProducesAt x run key p position → ProducesAt x (run_under key run) key p (position_under key run position)
produces_in_part exact x run key p position produces =
    record {
      instance = produces.instance;
      emitted = filtered_index (is_under key) run position (Emit produces.instance) produces.emitted (under_from_key exact key (Emit produces.instance) produces.under);
      under = produces.under;
      adorned = produces.adorned;
    }

-- both positions of it
conflict_in_part : EqualValuesAreOne → (x : Expanded) (run : List Event) (key : List Value) (p position later : ℕ) → Conflict x run key p position later → Conflict x (run_under key run) key p (position_under key run position) (position_under key run later)
conflict_in_part exact x run key p position later conflict =
    let one = conflict.first_produces in
    record {
      in_order = filtered_order (is_under key) run position later (Emit one.instance) one.emitted (under_from_key exact key (Emit one.instance) one.under) conflict.in_order;
      first_produces = produces_in_part exact x run key p position one;
      second_produces = produces_in_part exact x run key p later conflict.second_produces;
    }

-- at the positions that were counted
pub counted_in_part : EqualValuesAreOne → (x : Expanded) (run : List Event) (key : List Value) (p first second : ℕ) → HasConflictUnder x run key p first second → Conflict x (run_under key run) key p first second
counted_in_part exact x run key p first second counted =
    subst (λ k. Conflict x (run_under key run) key p k second) counted.position_is
    (subst (λ k. Conflict x (run_under key run) key p (position_under key run counted.position) k) counted.later_is (conflict_in_part exact x run key p counted.position counted.later counted.conflict))

-- and each conflict of the part is one of the run
pub conflict_in_whole : (x : Expanded) (run : List Event) (key : List Value) (p first second : ℕ) → Conflict x (run_under key run) key p first second → HasConflictUnder x run key p first second
conflict_in_whole x run key p first second conflict =
    let one = conflict.first_produces in
    let other = conflict.second_produces in
    let at = unfiltered_index (is_under key) run first (Emit one.instance) one.emitted in
    let later = unfiltered_index (is_under key) run second (Emit other.instance) other.emitted in
    record {
      position = at.index;
      later = later.index;
      conflict = record {
        in_order = unfiltered_order (is_under key) run first second (Emit one.instance) (Emit other.instance) at later conflict.in_order;
        first_produces = record { instance = one.instance; emitted = at.at; under = one.under; adorned = one.adorned };
        second_produces = record { instance = other.instance; emitted = later.at; under = other.under; adorned = other.adorned };
      };
      position_is = at.count;
      later_is = later.count;
    }
