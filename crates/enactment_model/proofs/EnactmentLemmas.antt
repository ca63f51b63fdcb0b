-- The part of a run under a key keeps the enactment: it is quiet exactly if the run is.
use Rattle.std.proofs.Common.{◌≡◌, ℕ, true, List, [], All}
use Rattle.std.proofs.lemmas.List.Elements.{All-filter, All-weaker, filter_passes}
use Rattle.list_base.proofs.Filtered.{filtered_member, kept_member}
use Rattle.bspl_types.specs.declared.event.Event.{Event}
use Rattle.bspl_types.specs.declared.event.Event.TheVariants.{Emit, Receive}
use Rattle.bspl_types.specs.declared.expanded.Expanded.{Expanded}
use Rattle.bspl_types.specs.declared.value.Value.{Value}
use Rattle.bspl_types.specs.Expansion.{message_of}
use Rattle.bspl_types.specs.History.{instance_of}
use Rattle.bspl_types.specs.Instance.{Fits}
use Rattle.bspl_types.specs.Value.{EqualValuesAreOne}
use Rattle.enactment_model.specs.Legal.{IsLegalRun}
use Rattle.enactment_model.specs.Liveness.{IsEmitted, Quiet}
use Rattle.enactment_model.specs.Projection.{KeepsEnactment, run_under}
use Rattle.enactment_model.proofs.PositionLemmas.{act_in_part, conflict_in_whole, counted_in_part}
use Rattle.enactment_model.proofs.ProjectionLemmas.{can_in_part, can_in_whole, is_under, key_from_under, knows_in_part, knows_in_whole, legal_in_part, under_from_key}

-- what is emitted under the key is emitted in the part under it
emitted_in_part : EqualValuesAreOne → (run : List Event) (key : List Value) (m : ℕ) → IsEmitted run key m → IsEmitted (run_under key run) key m
emitted_in_part exact run key m emitted =
    record {
      instance = emitted.instance;
      emitted = kept_member (is_under key) run (Emit emitted.instance) (under_from_key exact key (Emit emitted.instance) emitted.under) emitted.emitted;
      under = emitted.under;
      message_is = emitted.message_is;
    }

-- and the other way round
emitted_in_whole : (run : List Event) (key : List Value) (m : ℕ) → IsEmitted (run_under key run) key m → IsEmitted run key m
emitted_in_whole run key m emitted =
    record {
      instance = emitted.instance;
      emitted = (filtered_member (is_under key) run (Emit emitted.instance) emitted.emitted).0;
      under = emitted.under;
      message_is = emitted.message_is;
    }

-- the part under the key is quiet if the run is
quiet_in_part : EqualValuesAreOne → (x : Expanded) (run : List Event) (key : List Value) → Quiet x run key → Quiet x (run_under key run) key
quiet_in_part exact x run key quiet =
    record {
      received = λ i own emitted. kept_member (is_under key) run (Receive i) (under_from_key exact key (Receive i) own) (quiet.received i own (filtered_member (is_under key) run (Emit i) emitted).0);
      exhausted = λ m none can. quiet.exhausted m (λ emitted. none (emitted_in_part exact run key m emitted)) (can_in_whole exact x run key (message_of x m).sender m can);
    }

-- and the other way round
quiet_in_whole : EqualValuesAreOne → (x : Expanded) (run : List Event) (key : List Value) → Quiet x (run_under key run) key → Quiet x run key
quiet_in_whole exact x run key quiet =
    record {
      received = λ i own emitted. (filtered_member (is_under key) run (Receive i) (quiet.received i own (kept_member (is_under key) run (Emit i) (under_from_key exact key (Emit i) own) emitted))).0;
      exhausted = λ m none can. quiet.exhausted m (λ emitted. none (emitted_in_whole run key m emitted)) (can_in_part exact x run key (message_of x m).sender m can);
    }

-- each event of the part has the key
own_key : EqualValuesAreOne → (run : List Event) (key : List Value) → All (λ e. (instance_of e).key ≡ key) (run_under key run)
own_key exact run key =
    All-weaker (λ e. is_under key e ≡ true) (λ e. (instance_of e).key ≡ key) (λ e under. key_from_under exact key e under) (run_under key run) (filter_passes (is_under key) run)

-- the part under a key keeps the enactment
pub keeps_enactment : EqualValuesAreOne → (x : Expanded) (run : List Event) (key : List Value) → IsLegalRun x run → KeepsEnactment x run key
keeps_enactment exact x run key is_legal =
    record {
      legal = record {
        fits = All-filter (is_under key) (λ e. Fits x (instance_of e)) run is_legal.fits;
        legal = legal_in_part exact x key [] run is_legal.legal;
      };
      own = own_key exact run key;
      acts = act_in_part exact run key;
      knowledge = λ role p v. (knows_in_part exact x run key role p v, knows_in_whole x run key role p v);
      conflicts = λ p first second. (counted_in_part exact x run key p first second, conflict_in_whole x run key p first second);
      quiet = (quiet_in_part exact x run key, quiet_in_whole exact x run key);
    }
