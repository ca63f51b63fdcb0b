-- The events under one key: what is known from them, and that they are legal.
use Rattle.std.proofs.Common.{◌≡◌, ℕ, Bool, true, List, [], ◌∷◌, ◌++◌, refl, subst}
use Rattle.std.specs.Prelude.{◌==◌}
use Rattle.std.proofs.lemmas.Bool.{cond-true, cond-false, cond_both}
use Rattle.std.proofs.lemmas.List.{append-nil}
use Rattle.std.proofs.lemmas.List.Elements.{filter-append}
use Rattle.list_base.proofs.Filtered.{filtered_member, kept_member}
use Rattle.bspl_types.specs.declared.event.Event.{Event}
use Rattle.bspl_types.specs.declared.event.Event.TheVariants.{Emit, Receive}
use Rattle.bspl_types.specs.declared.event.Instance.{Instance}
use Rattle.bspl_types.specs.declared.expanded.Expanded.{Expanded}
use Rattle.bspl_types.specs.declared.value.Value.{Value}
use Rattle.bspl_types.specs.Expansion.{message_of}
use Rattle.bspl_types.specs.History.{history_of, instance_of, role_of}
use Rattle.bspl_types.specs.Knowledge.{CanEmit, IsEnabled, Knows}
use Rattle.bspl_types.specs.Value.{EqualValuesAreOne, equal_values}
use Rattle.enactment_model.specs.Legal.{LegalAfter, MayFollow}
use Rattle.enactment_model.specs.Projection.{run_under}

-- the event is under the key
abbrev pub is_under : List Value → Event → Bool
is_under key e = equal_values (instance_of e).key key

-- an event whose key it is, is under the key
pub under_from_key : EqualValuesAreOne → (key : List Value) (e : Event) → (instance_of e).key ≡ key → is_under key e ≡ true
under_from_key exact key e same = (exact (instance_of e).key key).1 same

-- and the other way round
pub key_from_under : EqualValuesAreOne → (key : List Value) (e : Event) → is_under key e ≡ true → (instance_of e).key ≡ key
key_from_under exact key e under = (exact (instance_of e).key key).0 under

-- what is known under the key is known from the part under it
pub knows_in_part : EqualValuesAreOne → (x : Expanded) (run : List Event) (key : List Value) (role p : ℕ) (v : Value) → Knows x (history_of x role run) key p v → Knows x (history_of x role (run_under key run)) key p v
knows_in_part exact x run key role p v knows =
    let (there, own) = filtered_member (λ e. role_of x e == role) run knows.event knows.among in
    record {
      event = knows.event;
      among = kept_member (λ e. role_of x e == role) (run_under key run) knows.event own (kept_member (is_under key) run knows.event (under_from_key exact key knows.event knows.under) there);
      under = knows.under;
      adornment = knows.adornment;
      carries = knows.carries;
    }

-- what is known from the part is known from the whole
pub knows_in_whole : (x : Expanded) (run : List Event) (key : List Value) (role p : ℕ) (v : Value) → Knows x (history_of x role (run_under key run)) key p v → Knows x (history_of x role run) key p v
knows_in_whole x run key role p v knows =
    let (there, own) = filtered_member (λ e. role_of x e == role) (run_under key run) knows.event knows.among in
    record {
      event = knows.event;
      among = kept_member (λ e. role_of x e == role) run knows.event own (filtered_member (is_under key) run knows.event there).0;
      under = knows.under;
      adornment = knows.adornment;
      carries = knows.carries;
    }

-- what can be emitted under the key can be emitted from the part under it
pub can_in_part : EqualValuesAreOne → (x : Expanded) (run : List Event) (key : List Value) (role m : ℕ) → CanEmit x (history_of x role run) m key → CanEmit x (history_of x role (run_under key run)) m key
can_in_part exact x run key role m can =
    record {
      known = can.known;
      ins = λ p adorned. let known = can.ins p adorned in (known.0, knows_in_part exact x run key role p known.0 known.1);
      outs = λ p adorned known. can.outs p adorned (known.0, knows_in_whole x run key role p known.0 known.1);
      nils = λ p adorned known. can.nils p adorned (known.0, knows_in_whole x run key role p known.0 known.1);
    }

-- and the other way round
pub can_in_whole : EqualValuesAreOne → (x : Expanded) (run : List Event) (key : List Value) (role m : ℕ) → CanEmit x (history_of x role (run_under key run)) m key → CanEmit x (history_of x role run) m key
can_in_whole exact x run key role m can =
    record {
      known = can.known;
      ins = λ p adorned. let known = can.ins p adorned in (known.0, knows_in_whole x run key role p known.0 known.1);
      outs = λ p adorned known. can.outs p adorned (known.0, knows_in_part exact x run key role p known.0 known.1);
      nils = λ p adorned known. can.nils p adorned (known.0, knows_in_part exact x run key role p known.0 known.1);
    }

-- what is enabled is enabled in the part under its key
enabled_in_part : EqualValuesAreOne → (x : Expanded) (before : List Event) (role : ℕ) (i : Instance) → IsEnabled x (history_of x role before) i → IsEnabled x (history_of x role (run_under i.key before)) i
enabled_in_part exact x before role i enabled =
    record {
      can = can_in_part exact x before i.key role i.message enabled.can;
      same = λ p v carries. knows_in_part exact x before i.key role p v (enabled.same p v carries);
    }

-- what may follow may follow the part under its key
follows_own : EqualValuesAreOne → (x : Expanded) (before : List Event) (event : Event) → MayFollow x before event → MayFollow x (run_under (instance_of event).key before) event
follows_own exact x before (Emit i) enabled = enabled_in_part exact x before (message_of x i.message).sender i enabled
follows_own exact x before (Receive i) emitted = kept_member (is_under i.key) before (Emit i) (under_from_key exact i.key (Emit i) refl) emitted

-- what is under the key, and may follow, may follow the part under it
follows_in_part : EqualValuesAreOne → (x : Expanded) (key : List Value) (before : List Event) (event : Event) → is_under key event ≡ true → MayFollow x before event → MayFollow x (run_under key before) event
follows_in_part exact x key before event under may = subst (λ k. MayFollow x (run_under k before) event) (key_from_under exact key event under) (follows_own exact x before event may)

-- the part under a key is legal
pub legal_in_part : EqualValuesAreOne → (x : Expanded) (key : List Value) (before run : List Event) → LegalAfter x before run → LegalAfter x (run_under key before) (run_under key run)
legal_in_part exact x key before [] legal = tt
legal_in_part exact x key before (event ∷ run) legal =
    let rest : LegalAfter x (run_under key before ++ run_under key (event ∷ [])) (run_under key run) =
    subst (λ b. LegalAfter x b (run_under key run)) (filter-append (is_under key) before (event ∷ [])) (legal_in_part exact x key (before ++ event ∷ []) run legal.1)
    in cond_both (is_under key event) (event ∷ run_under key run) (run_under key run) (LegalAfter x (run_under key before))
    (λ kept. (follows_in_part exact x key before event kept legal.0, subst (λ es. LegalAfter x (run_under key before ++ es) (run_under key run)) (cond-true (is_under key event) (event ∷ []) [] kept) rest))
    (λ dropped. subst (λ es. LegalAfter x es (run_under key run)) (append-nil (run_under key before)) (subst (λ es. LegalAfter x (run_under key before ++ es) (run_under key run)) (cond-false (is_under key event) (event ∷ []) [] dropped) rest))
