-- The run that refutes a property: its least conflict, and the parameter that it leaves unbound.
use Rattle.std.proofs.Common.{◌≡◌, ℕ, ◌+◌, ◌≤◌, List, length, None, Option, IfSome, Some, refl, sym, ◌∙◌, subst, arith}
use Rattle.std.specs.Prelude.{IsNone, IsSome}
use Rattle.bspl_types.specs.declared.event.Event.{Event}
use Rattle.bspl_types.specs.declared.expanded.Expanded.{Expanded}
use Rattle.bspl_types.specs.declared.property.Property.TheVariants.{Liveness, Safety}
use Rattle.bspl_types.specs.declared.value.Value.{Value}
use Rattle.enactment_model.specs.declared.conflicts.Conflict.{Conflict as SpecConflict}
use Rattle.enactment_model.specs.FirstUnbound.{BindsPublic, IsFirstUnbound}
use Rattle.enactment_model.specs.LeastConflict.{IsLeastConflict}
use Rattle.enactment_model.specs.Safety.{HasNoConflict}
use Rattle.witness_replay.specs.Refuting.{EndsInConflict, RestsUnbound}
use Rattle.witness_replay.specs.Witness.{key_of_ones}
use Rattle.verdict.specs.Decision.{IsRefuted}
use Rattle.verdict.specs.Right.{IsUnsafeVerdict}
use Rattle.verdict.specs.RightLiveness.{IsNotLiveVerdict}

-- two least conflicts of a run end at one event
one_end : (x : Expanded) (run : List Event) (one other : SpecConflict) → IsLeastConflict x run one → IsLeastConflict x run other → one.second ≡ other.second
one_end x run one other first second =
    let one_is = first.second_is in
    let other_is = second.second_is in
    let no_later = first.least_second second.key other.param second.first second.second second.conflict in
    let no_earlier = second.least_second first.key one.param first.first first.second first.conflict in
    omega (arith, one_is, other_is, no_later, no_earlier)

-- the answer with a run that refutes safety is right
pub unsafe_right : (x : Expanded) (run : List Event) (found : SpecConflict) → IsRefuted Safety x run → IsLeastConflict x run found → IsUnsafeVerdict x run found.param found.first found.second
unsafe_right x run found refuted least =
    let refutation = refuted.refutation in
    let refuting = refutation.refuting in
    let cut = refuting.cut in
    record {
      assignment = refuted.assignment;
      refuting = refuting;
      legal = refutation.legal;
      ones = refuting.ones;
      least = least;
      last = one_end x run found cut.found least cut.least ∙ cut.last;
      unsafe = refutation.fails;
    }

-- the run has a conflict
pub some_conflict : (o : Option SpecConflict) (x : Expanded) (run : List Event) → (IsNone o → HasNoConflict x run) → EndsInConflict x run → IsSome o
some_conflict None x run none ends = absurd (none refl ends.key ends.param ends.first ends.second ends.conflict)
some_conflict (Some found) x run none ends = refl

-- what is found is its least one
pub found_least : (o : Option SpecConflict) (found : SpecConflict) (x : Expanded) (run : List Event) → o ≡ Some found → IfSome o (IsLeastConflict x run) → IsLeastConflict x run found
found_least o found x run is least = subst (λ (other : Option SpecConflict). IfSome other (IsLeastConflict x run)) is least

-- what holds of a protocol, a run and the key of ones holds of what equals them
pub at_rest : (Q : Expanded → List Event → List Value → Type 0) (x y : Expanded) (run whole : List Event) (key : List Value) → x ≡ y → run ≡ whole → key ≡ key_of_ones x → Q x run key → Q y whole (key_of_ones y)
at_rest Q x y run whole key same_x same_run ones holds =
    subst (λ (z : Expanded). Q z whole (key_of_ones z)) same_x
    (subst (λ (events : List Event). Q x events (key_of_ones x)) same_run (subst (λ (k : List Value). Q x run k) ones holds))

-- a run that rests leaves some parameter unbound
pub some_unbound : (o : Option ℕ) (x : Expanded) (run : List Event) → (IsNone o → BindsPublic x run (key_of_ones x)) → RestsUnbound x run → IsSome o
some_unbound None x run none rests = absurd (rests.unbound (none refl rests.param rests.public))
some_unbound (Some param) x run none rests = refl

-- what is found is the first one
pub found_first : (o : Option ℕ) (param : ℕ) (x : Expanded) (run : List Event) (key : List Value) → o ≡ Some param → IfSome o (IsFirstUnbound x run key) → IsFirstUnbound x run key param
found_first o param x run key is first = subst (λ (other : Option ℕ). IfSome other (IsFirstUnbound x run key)) is first

-- the answer with a run that refutes liveness is right
pub not_live_right : (x : Expanded) (run : List Event) (param : ℕ) → IsRefuted Liveness x run → IsFirstUnbound x run (key_of_ones x) param → IsNotLiveVerdict x run param
not_live_right x run param refuted first =
    let refutation = refuted.refutation in
    record {
      assignment = refuted.assignment;
      refuting = refutation.refuting;
      legal = refutation.legal;
      ones = refutation.refuting.ones;
      quiet = refutation.refutes.quiet;
      first = first;
      not_live = refutation.fails;
    }
