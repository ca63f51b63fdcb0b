-- Producers by their positions, and which emissions are in conflict with one.
use Rattle.std.proofs.Common.{◌≡◌, ℕ, ◌<◌, ◌≤◌, List, length, take, Option, None, Some, ⊎_elim, refl, sym, ap, ◌∙◌, subst, arith}
use Rattle.std.specs.Prelude.{slice_get, MatchOption}
use Rattle.std.proofs.lemmas.Bool.{cases_lt}
use Rattle.std.proofs.lemmas.List.{get_or-take, length-take}
use Rattle.std.proofs.lemmas.List.Elements.{All-contains}
use Rattle.std.proofs.lemmas.Option.{get_or_from_slice_get, same_Some, slice_get-get_or, slice_get_within}
use Rattle.bspl_types.specs.declared.event.Event.{Event}
use Rattle.bspl_types.specs.declared.event.Event.TheVariants.{Emit}
use Rattle.bspl_types.specs.declared.event.Instance.{Instance}
use Rattle.bspl_types.specs.declared.expanded.Expanded.{Expanded}
use Rattle.bspl_types.specs.declared.protocol.Adornment.TheVariants.{Out}
use Rattle.bspl_types.specs.declared.value.Value.{Value}
use Rattle.bspl_types.specs.Expansion.{Adorns, message_of, no_message}
use Rattle.bspl_types.specs.History.{instance_of}
use Rattle.enactment_model.specs.Safety.{Conflict, ProducesAt}
use Rattle.enactment_model.specs.Rivals.{HasNoProducer, HasNoRival, IsFirstProducer, IsFirstRival, IsProducer}
use Rattle.enactment_model.proofs.ProducerLemmas.{known_message}

-- a producer among the events produces at its position
pub produces_at : (x : Expanded) (run : List Event) (key : List Value) (p k : ℕ) (e : Event) → slice_get run k ≡ Some e → IsProducer x key p e → ProducesAt x run key p k
produces_at x run key p k e at producer =
    record { instance = producer.instance; emitted = at ∙ ap Some producer.emitted; under = producer.under; adorned = producer.adorned }

-- and the event at such a position is a producer
pub producer_at : (x : Expanded) (run : List Event) (key : List Value) (p k : ℕ) (e : Event) → slice_get run k ≡ Some e → ProducesAt x run key p k → IsProducer x key p e
producer_at x run key p k e at produces =
    record { instance = produces.instance; emitted = same_Some e (Emit produces.instance) (sym at ∙ produces.emitted); under = produces.under; adorned = produces.adorned }

-- such a position is one of the run
pub producer_within : (x : Expanded) (run : List Event) (key : List Value) (p k : ℕ) → ProducesAt x run key p k → k < length run
producer_within x run key p k produces = slice_get_within run k (Emit produces.instance) produces.emitted

-- a parameter that is produced is one of the protocol's
pub known_param : (x : Expanded) (run : List Event) (key : List Value) (p k : ℕ) → ProducesAt x run key p k → p < length x.params
known_param x run key p k produces =
    let m = produces.instance.message in
    All-contains (λ c. c.param < length x.params) (message_of x m).carried (record { param = p; adornment = Out })
    (x.shape.each_message m no_message (known_message x m p produces.adorned)).known_params produces.adorned

-- the item at an index among the first ones is that of the list
prefix_item : {X : Type 0} (xs : List X) (k n : ℕ) (y : X) → k < n → slice_get xs k ≡ Some y → slice_get (take n xs) k ≡ Some y
prefix_item xs k n y before at =
    let within : k < length xs = slice_get_within xs k y at in
    slice_get-get_or (take n xs) k y (omega (arith, length-take n xs)) ∙ ap Some (get_or-take n xs k y before ∙ get_or_from_slice_get xs k y y at)

-- and the other way
whole_item : {X : Type 0} (xs : List X) (k n : ℕ) (y : X) → slice_get (take n xs) k ≡ Some y → slice_get xs k ≡ Some y
whole_item xs k n y at =
    let within : k < length (take n xs) = slice_get_within (take n xs) k y at in
    slice_get-get_or xs k y (omega (arith, length-take n xs)) ∙ ap Some (sym (get_or-take n xs k y (omega (arith, length-take n xs))) ∙ get_or_from_slice_get (take n xs) k y y at)

-- a producer of the first events is one of the run
pub whole_producer : (x : Expanded) (run : List Event) (key : List Value) (p k n : ℕ) → ProducesAt x (take n run) key p k → ProducesAt x run key p k
whole_producer x run key p k n produces =
    record { instance = produces.instance; emitted = whole_item run k n (Emit produces.instance) produces.emitted; under = produces.under; adorned = produces.adorned }

-- an earlier producer of the run is one of the first events
pub prefix_producer : (x : Expanded) (run : List Event) (key : List Value) (p k n : ℕ) → k < n → ProducesAt x run key p k → ProducesAt x (take n run) key p k
prefix_producer x run key p k n before produces =
    record { instance = produces.instance; emitted = prefix_item run k n (Emit produces.instance) before produces.emitted; under = produces.under; adorned = produces.adorned }

-- a position among the first events
pub prefix_position : (x : Expanded) (run : List Event) (key : List Value) (p k n : ℕ) → ProducesAt x (take n run) key p k → k < n
prefix_position x run key p k n produces = omega (arith, producer_within x (take n run) key p k produces, length-take n run)

-- a conflict with an emission is under its key
pub conflict_key : (x : Expanded) (run : List Event) (key : List Value) (p first second : ℕ) (i : Instance) → slice_get run second ≡ Some (Emit i) → Conflict x run key p first second → key ≡ i.key
conflict_key x run key p first second i at conflict =
    let other = conflict.second_produces in
    sym other.under ∙ ap (λ e. (instance_of e).key) (same_Some (Emit other.instance) (Emit i) (sym other.emitted ∙ at))

-- and over a parameter that its message produces
pub conflict_adorns : (x : Expanded) (run : List Event) (key : List Value) (p first second : ℕ) (i : Instance) → slice_get run second ≡ Some (Emit i) → Conflict x run key p first second → Adorns x i.message Out p
conflict_adorns x run key p first second i at conflict =
    let other = conflict.second_produces in
    subst (λ e. Adorns x (instance_of e).message Out p) (same_Some (Emit other.instance) (Emit i) (sym other.emitted ∙ at)) other.adorned

-- its first event is a producer under the emission's key, among the earlier events
rival_producer : (x : Expanded) (run : List Event) (key : List Value) (p first second : ℕ) (i : Instance) → slice_get run second ≡ Some (Emit i) → Conflict x run key p first second → ProducesAt x (take second run) i.key p first
rival_producer x run key p first second i at conflict =
    subst (λ k. ProducesAt x (take second run) k p first) (conflict_key x run key p first second i at conflict)
    (prefix_producer x run key p first second conflict.in_order conflict.first_produces)

-- so the first such producer is the first rival
pub rival_from_producer : (x : Expanded) (run : List Event) (p second : ℕ) (i : Instance) → slice_get run second ≡ Some (Emit i) → Adorns x i.message Out p → (found : Option ℕ) → MatchOption found (HasNoProducer x (take second run) i.key p) (IsFirstProducer x (take second run) i.key p) → MatchOption found (HasNoRival x run second p) (IsFirstRival x run second p)
rival_from_producer x run p second i at adorned None none = λ key first conflict. none first (rival_producer x run key p first second i at conflict)
rival_from_producer x run p second i at adorned (Some first) found =
    record {
      key = i.key;
      conflict = record {
        in_order = prefix_position x run i.key p first second found.produces;
        first_produces = whole_producer x run i.key p first second found.produces;
        second_produces = record { instance = i; emitted = at; under = refl; adorned = adorned };
      };
      least = λ key earlier conflict. found.least earlier (rival_producer x run key p earlier second i at conflict);
    }

-- what is not below a number is at least that number
pub at_least : (P : ℕ → Type 0) (n : ℕ) → ((k : ℕ) → k < n → ¬ P k) → (k : ℕ) → P k → n ≤ k
at_least P n none k holds =
    ⊎_elim (λ (below : k < n). absurd (none k below holds)) (λ (from : n ≤ k). from) (cases_lt k n)
