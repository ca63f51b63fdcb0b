-- What the facts of an enactment permit is what its events permit.
use Rattle.std.proofs.Common.{◌≡◌, ℕ, List, [], ◌∷◌, Bool, true, false, get_or, inl, inr, refl, sym, ap, ◌∙◌, subst}
use Rattle.std.specs.Prelude.{IsTrue, MatchBool, not}
use Rattle.std.specs.BTreeSet.{BTreeSet}
use Rattle.std.specs.List.{All, Any, Contains}
use Rattle.std.proofs.lemmas.Bool.{true≢false}
use Rattle.std.proofs.lemmas.List.Elements.{All-contains}
use Rattle.std.proofs.lemmas.Option.{slice_get-get_or}
use Rattle.list_base.proofs.Members.{cons_cases, here, nowhere, there}
use Rattle.list_base.proofs.Membership.{member_at}
use Rattle.bspl_types.specs.declared.event.Event.{Event}
use Rattle.bspl_types.specs.declared.event.Event.TheVariants.{Emit}
use Rattle.bspl_types.specs.declared.event.Instance.{Instance}
use Rattle.bspl_types.specs.declared.expanded.Expanded.{Expanded}
use Rattle.bspl_types.specs.declared.protocol.Adornment.{Adornment}
use Rattle.bspl_types.specs.declared.protocol.Adornment.TheVariants.{In, Out, Nil}
use Rattle.bspl_types.specs.declared.protocol.Carried.{Carried}
use Rattle.bspl_types.specs.declared.value.Value.{Value}
use Rattle.bspl_types.specs.Expansion.{message_of}
use Rattle.bspl_types.specs.History.{instance_of, IsRun, sender_history}
use Rattle.bspl_types.specs.Instance.{Fits, pairs}
use Rattle.bspl_types.specs.Knowledge.{IsEnabled}
use Rattle.enactment_model.specs.Producers.{SharesOut}
use Rattle.run_index.specs.inner.Demands.{IsRivalOf}
use Rattle.run_index.specs.inner.Facts.{AreFacts}
use Rattle.run_index.specs.inner.Knowing.{AreKnownBy, HasKnownRival, HasNoKnownRival, IsKnownBy, IsPermittedBy}
use Rattle.run_index.proofs.FactLemmas.{message_emitted, message_has_fact, param_has_fact, param_known, value_has_fact, value_known}

-- a pair that is among known ones is known
pair_is_known : (facts : BTreeSet (List Value)) (role : ℕ) (pair : Carried × Value) (all : List (Carried × Value)) → AreKnownBy facts role all → Contains all pair → IsKnownBy facts role pair
pair_is_known facts role pair [] known among = absurd (nowhere pair among)
pair_is_known facts role pair (first ∷ all) known among = elim (cons_cases first all pair among) [
  | inl is ↦ subst (IsKnownBy facts role) is known.0
  | inr rest ↦ pair_is_known facts role pair all known.1 rest
]

-- and pairs of which each is known are known
pairs_are_known : (facts : BTreeSet (List Value)) (role : ℕ) (all : List (Carried × Value)) → ((pair : Carried × Value) → Contains all pair → IsKnownBy facts role pair) → AreKnownBy facts role all
pairs_are_known facts role [] each = tt
pairs_are_known facts role (first ∷ all) each = (each first (here first all), pairs_are_known facts role all (λ pair among. each pair (there first all pair among)))

-- an instance whose parameters are permitted and known is enabled
pub enabled_from : (x : Expanded) (events : List Event) (i : Instance) (facts : BTreeSet (List Value)) → Fits x i → AreFacts x i.key events facts → All (IsPermittedBy facts (message_of x i.message).sender) (message_of x i.message).carried → AreKnownBy facts (message_of x i.message).sender (pairs x i) → IsEnabled x (sender_history x events i.message) i
enabled_from x events i facts fits are permitted known =
    let role = (message_of x i.message).sender in
    let carried = (message_of x i.message).carried in
    record {
      can = record {
        known = fits.known;
        ins = λ p adorned. param_known x i.key events facts are role p (All-contains (IsPermittedBy facts role) carried (record { param = p; adornment = In }) permitted adorned).permits;
        outs = λ p adorned is. (All-contains (IsPermittedBy facts role) carried (record { param = p; adornment = Out }) permitted adorned).permits (param_has_fact x i.key events facts are role p is);
        nils = λ p adorned is. (All-contains (IsPermittedBy facts role) carried (record { param = p; adornment = Nil }) permitted adorned).permits (param_has_fact x i.key events facts are role p is);
      };
      same = λ p v carries. value_known x i.key events facts are role p v ((pair_is_known facts role (record { param = p; adornment = In }, v) (pairs x i) known carries).known refl);
    }

-- of an instance that is enabled each parameter is permitted
permitted_one : (x : Expanded) (events : List Event) (i : Instance) (facts : BTreeSet (List Value)) → AreFacts x i.key events facts → IsEnabled x (sender_history x events i.message) i → (p : ℕ) (adornment : Adornment) → Contains (message_of x i.message).carried (record { param = p; adornment = adornment }) → IsPermittedBy facts (message_of x i.message).sender (record { param = p; adornment = adornment })
permitted_one x events i facts are enabled p In among = record { permits = param_has_fact x i.key events facts are (message_of x i.message).sender p (enabled.can.ins p among) }
permitted_one x events i facts are enabled p Out among = record { permits = λ has. enabled.can.outs p among (param_known x i.key events facts are (message_of x i.message).sender p has) }
permitted_one x events i facts are enabled p Nil among = record { permits = λ has. enabled.can.nils p among (param_known x i.key events facts are (message_of x i.message).sender p has) }

pub permitted_from : (x : Expanded) (events : List Event) (i : Instance) (facts : BTreeSet (List Value)) → AreFacts x i.key events facts → IsEnabled x (sender_history x events i.message) i → All (IsPermittedBy facts (message_of x i.message).sender) (message_of x i.message).carried
permitted_from x events i facts are enabled k d within =
    let carried = (message_of x i.message).carried in
    let c = get_or carried k d in
    permitted_one x events i facts are enabled c.param c.adornment (member_at carried k c (slice_get-get_or carried k d within))

-- and its pairs are known
pub known_pairs_from : (x : Expanded) (events : List Event) (i : Instance) (facts : BTreeSet (List Value)) → AreFacts x i.key events facts → IsEnabled x (sender_history x events i.message) i → AreKnownBy facts (message_of x i.message).sender (pairs x i)
known_pairs_from x events i facts are enabled =
    let role = (message_of x i.message).sender in
    pairs_are_known facts role (pairs x i) (λ pair among. record {
      known = λ is_in. value_has_fact x i.key events facts are role pair.0.param pair.1 (enabled.same pair.0.param pair.1 (subst (λ a. Contains (pairs x i) (record { param = pair.0.param; adornment = a }, pair.1)) is_in among));
    })

-- a rival of the emission is known by its message
pub no_rival_from : (x : Expanded) (events : List Event) (i : Instance) (facts : BTreeSet (List Value)) → IsRun x events → AreFacts x i.key events facts → HasNoKnownRival x facts i.message → ¬ Any (IsRivalOf x (Emit i)) events
no_rival_from x events i facts is_run are none (k, earlier, within, is, rival) =
    let own : rival.instance ≡ i = ap instance_of (sym rival.event_is) in
    let under : rival.other.key ≡ i.key = rival.under ∙ ap (λ j. j.key) own in
    let among : Contains events (Emit rival.other) = subst (Contains events) rival.earlier_is (k, within, is) in
    let fits = All-contains (λ e. Fits x (instance_of e)) events (Emit rival.other) is_run among in
    none rival.other.message fits.known (record {
      emitted = message_has_fact x i.key events facts are rival.other.message (record { instance = rival.other; emitted = among; under = under; message_is = refl });
      shared = subst (λ j. SharesOut (message_of x rival.other.message) (message_of x j.message)) own rival.shared;
    })

-- and a known one is a rival
pub rival_from : (x : Expanded) (events : List Event) (i : Instance) (facts : BTreeSet (List Value)) → AreFacts x i.key events facts → HasKnownRival x facts i.message → Any (IsRivalOf x (Emit i)) events
rival_from x events i facts are has =
    let emitted = message_emitted x i.key events facts are has.other has.rival.emitted in
    let (k, within, is) = emitted.emitted in (
      k,
      Emit emitted.instance,
      within,
      is,
      record {
        instance = i;
        other = emitted.instance;
        event_is = refl;
        earlier_is = refl;
        under = emitted.under;
        shared = subst (λ m. SharesOut (message_of x m) (message_of x i.message)) (sym emitted.message_is) has.rival.shared;
      },
    )

-- so the emission has no rival exactly if none is known
pub unrivalled_exact : (x : Expanded) (events : List Event) (i : Instance) (facts : BTreeSet (List Value)) (found : Bool) → MatchBool found (HasKnownRival x facts i.message) (HasNoKnownRival x facts i.message) → IsRun x events → AreFacts x i.key events facts → (IsTrue (not found) → ¬ Any (IsRivalOf x (Emit i)) events) × (¬ Any (IsRivalOf x (Emit i)) events → IsTrue (not found))
unrivalled_exact x events i facts true has is_run are = (λ wrong. absurd (true≢false (sym wrong)), λ none. absurd (none (rival_from x events i facts are has)))
unrivalled_exact x events i facts false none is_run are = (λ _. no_rival_from x events i facts is_run are none, λ _. refl)
