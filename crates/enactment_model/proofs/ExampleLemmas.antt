-- Ping is safe and live, Twin is not safe, and Nothing is not live.
use Rattle.std.proofs.Common.{◌≡◌, List, [], ◌∷◌, refl, sym, subst, arith, eq-eqb}
use Rattle.std.specs.Prelude.{◌==◌}
use Rattle.std.specs.List.{Contains}
use Rattle.std.proofs.lemmas.List.Elements.{All-contains, All-nil}
use Rattle.list_base.proofs.Filtered.{filtered_member, kept_member}
use Rattle.list_base.proofs.Members.{here, nowhere}
use Rattle.bspl_types.specs.declared.event.Event.{Event}
use Rattle.bspl_types.specs.declared.event.Event.TheVariants.{Emit}
use Rattle.bspl_types.specs.declared.value.Value.{Value}
use Rattle.bspl_types.specs.Adornment.{Binds}
use Rattle.bspl_types.specs.Expansion.{message_of}
use Rattle.bspl_types.specs.History.{history_of, instance_of, IsRun, role_of}
use Rattle.bspl_types.specs.Instance.{Fits}
use Rattle.bspl_types.specs.Value.{EqualValuesAreOne}
use Rattle.enactment_model.specs.Examples.{NothingIsNotLive, PingComesToRest, PingIsSafeAndLive, TwinIsNotSafe}
use Rattle.enactment_model.specs.Liveness.{Bound, LiveProtocol, Quiet}
use Rattle.enactment_model.specs.Producers.{SharesOut}
use Rattle.enactment_model.specs.Projection.{run_under}
use Rattle.enactment_model.specs.Safety.{SafeProtocol}
use Rattle.enactment_model.proofs.KnowledgeLemmas.{history_is_run, known_from_binding}
use Rattle.enactment_model.proofs.ProducerLemmas.{safe_by_one_producer}
use Rattle.enactment_model.proofs.ProjectionLemmas.{is_under, key_from_under, under_from_key}
use Rattle.enactment_model.proofs.ExampleShapes.{nothing, nothing_admitted, one_item, out_id, ping, ping_admitted, ping_message, same_parts, twin, twin_admitted}
use Rattle.enactment_model.proofs.ExampleRuns.{can_produce, nothing_known, nothing_quiet, ones, ping_run_legal, ping_run_quiet, ping_run_restless, produces_id, twin_conflict, twin_run, twin_run_legal}

-- so Twin is not safe
twin_unsafe : ¬ SafeProtocol twin
twin_unsafe safe = safe.no_conflict twin_run twin_run_legal ones 0 0 1 twin_conflict

-- and has not bound ID, so it is not live
nothing_not_live : ¬ LiveProtocol nothing
nothing_not_live live =
    let bound = live.bound [] ones (record { fits = All-nil (λ e. Fits nothing (instance_of e)); legal = tt }) nothing_quiet 0 (record { public = omega arith; adorned = refl }) in
    nothing_known nothing ones 0 bound.known

-- and safe, since it has one message
ping_safe : SafeProtocol ping
ping_safe = safe_by_one_producer ping (one_item (λ m n. ¬ SharesOut m n) ping_message) ping_admitted

-- each event of Ping under a key binds ID there
ping_bound : (run : List Event) (key : List Value) (e : Event) → IsRun ping run → Contains run e → (instance_of e).key ≡ key → Bound ping run key 0
ping_bound run key e is_run among under =
    let role = role_of ping e in
    let fits = All-contains (λ f. Fits ping (instance_of f)) run e is_run among in
    let message_is : (instance_of e).message ≡ 0 = omega (arith, fits.known) in
    record {
      role = role;
      known = known_from_binding ping (history_of ping role run) key 0 (history_is_run ping run role is_run)
          (record {
            event = e;
            among = kept_member (λ f. role_of ping f == role) run e (eq-eqb role role refl) among;
            under = under;
            binds = subst (λ m. Binds (message_of ping m).carried 0) (sym message_is) (record { among = (0, out_id, omega arith, refl, (refl, refl)) });
          });
    }

-- without an event under the key ping can be emitted, so the run is not quiet
ping_not_quiet : EqualValuesAreOne → (run : List Event) (key : List Value) → run_under key run ≡ [] → ¬ Quiet ping run key
ping_not_quiet exact run key none quiet =
    quiet.exhausted 0
    (λ emitted. no_event (Emit emitted.instance) emitted.emitted emitted.under)
    (can_produce ping (history_of ping 0 run) 0 key (omega arith) produces_id
    (λ p known. let knows = known.1 in no_event knows.event (filtered_member (λ e. role_of ping e == 0) run knows.event knows.among).0 knows.under))
  where
    no_event : (e : Event) → Contains run e → (instance_of e).key ≡ key → ⊥
    no_event e among under = nowhere e (subst (λ part. Contains part e) none (kept_member (is_under key) run e (under_from_key exact key e under) among))

-- either way, by the first event under the key
ping_quiet_bound : EqualValuesAreOne → (run : List Event) (key : List Value) (part : List Event) → run_under key run ≡ part → IsRun ping run → Quiet ping run key → Bound ping run key 0
ping_quiet_bound exact run key [] part_is is_run quiet = absurd (ping_not_quiet exact run key part_is quiet)
ping_quiet_bound exact run key (e ∷ rest) part_is is_run quiet =
    let (among, under) = filtered_member (is_under key) run e (subst (λ part. Contains part e) (sym part_is) (here e rest)) in
    ping_bound run key e is_run among (key_from_under exact key e under)

-- so Ping is live
ping_live : EqualValuesAreOne → LiveProtocol ping
ping_live exact =
    record {
      bound = λ run key is_legal quiet p public. let is_id : p ≡ 0 = omega (arith, public.public) in
          subst (Bound ping run key) (sym is_id) (ping_quiet_bound exact run key (run_under key run) refl is_legal.fits quiet);
    }

pub ping_is_safe_and_live : EqualValuesAreOne → PingIsSafeAndLive
ping_is_safe_and_live exact = (ping, same_parts ping, ping_admitted, ping_safe, ping_live exact)

pub ping_comes_to_rest : EqualValuesAreOne → PingComesToRest
ping_comes_to_rest exact =
    record {
      x = ping;
      is_ping = same_parts ping;
      legal = ping_run_legal;
      quiet = ping_run_quiet;
      not_before = ping_run_restless;
      not_at_first = ping_not_quiet exact [] ones refl;
    }

pub twin_is_not_safe : TwinIsNotSafe
twin_is_not_safe = (twin, same_parts twin, twin_admitted, twin_unsafe)

pub nothing_is_not_live : NothingIsNotLive
nothing_is_not_live = (nothing, same_parts nothing, nothing_admitted, nothing_not_live)
