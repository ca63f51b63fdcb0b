-- What a request means, once the message of its name is found.
use Rattle.std.proofs.Common.{◌≡◌, ◌≢◌, ℕ, ◌<◌, ◌≤◌, Bool, true, false, cond, List, [], ◌∷◌, length, refl, sym, ap, subst, ◌∙◌, arith}
use Rattle.std.specs.List.{AllZip, filter}
use Rattle.std.proofs.lemmas.Slice.Zip.{AllZip-long}
use Rattle.bspl_types.specs.declared.event.Instance.{Instance}
use Rattle.bspl_types.specs.declared.expanded.Expanded.{Expanded}
use Rattle.bspl_types.specs.declared.value.Value.{Value}
use Rattle.bspl_types.specs.Adornment.{valued}
use Rattle.bspl_types.specs.Choice.{chosen_params}
use Rattle.bspl_types.specs.Expansion.{message_name, message_of}
use Rattle.bspl_types.specs.Instance.{Fits}
use Rattle.bspl_types.specs.ValueSpelling.{SpellsValue}
use Rattle.wire_form.specs.declared.act.Act.{Act}
use Rattle.wire_form.specs.declared.act.Act.TheVariants.{Arrival, Attempt}
use Rattle.wire_form.specs.Meaning.{IsGiven, Means, MeansAttempt}
use Rattle.wire_form.specs.Request.{NamedField, emit, receive}
use Rattle.wire_form.specs.inner.Arriving.{IsArriving}
use Rattle.wire_form.proofs.MeaningLemmas.{same_message}

-- ---- a receipt

-- no message has the name
pub no_arrival_named : (x : Expanded) (role : ℕ) (name : List ℕ) (count stamp : ℕ) (fields : List NamedField) → ((m : ℕ) → m < length x.messages → message_name x m ≢ name) → (act : Act) → ¬ Means x role (receive name count stamp fields) act
no_arrival_named x role name count stamp fields none (Arrival m) means = none m.instance.message means.0.fits.known means.0.named
no_arrival_named x role name count stamp fields none (Attempt m key outs) means = means

-- it could only be of the message that was found
pub no_arrival_of : (x : Expanded) (role : ℕ) (name : List ℕ) (count stamp : ℕ) (fields : List NamedField) (k : ℕ) → (k < length x.messages) × (message_name x k ≡ name)
    → ((values : List Value) → (message_of x k).receiver ≡ role → AllZip (IsGiven x fields) (valued (message_of x k).carried) values → length fields ≡ length values → ⊥)
    → (act : Act) → ¬ Means x role (receive name count stamp fields) act
no_arrival_of x role name count stamp fields k found none (Arrival m) means =
    let at = found in
    let same : m.instance.message ≡ k = same_message x m.instance.message k means.0.fits.known at.0 (means.0.named ∙ sym at.1) in
    none m.instance.values (ap (λ (n : ℕ). (message_of x n).receiver) (sym same) ∙ means.0.own)
    (subst (λ (n : ℕ). AllZip (IsGiven x fields) (valued (message_of x n).carried) m.instance.values) same means.0.given) means.0.no_other
no_arrival_of x role name count stamp fields k found none (Attempt m key outs) means = means

-- as many fields as the message's values
pub arrival_long : (x : Expanded) (fields : List NamedField) (k : ℕ) (values others : List Value) → AllZip (IsGiven x fields) (valued (message_of x k).carried) values → AllZip (IsGiven x fields) (valued (message_of x k).carried) others → length values ≡ length others
arrival_long x fields k values others one other = AllZip-long (IsGiven x fields) (valued (message_of x k).carried) values one ∙ sym (AllZip-long (IsGiven x fields) (valued (message_of x k).carried) others other)

-- the message that is received
pub arrival_means : (x : Expanded) (role : ℕ) (name : List ℕ) (count stamp : ℕ) (fields : List NamedField) (k : ℕ) (values : List Value) (i : Instance) → IsArriving x role name fields k values → Fits x i → i.message ≡ k → i.values ≡ values
    → Means x role (receive name count stamp fields) (Arrival (record { instance = i; stamp = stamp; number = count }))
arrival_means x role name count stamp fields k values i at fits message_is values_are = (
  record {
    fits = fits;
    named = ap (message_name x) message_is ∙ at.named;
    own = ap (λ (n : ℕ). (message_of x n).receiver) message_is ∙ at.own;
    given = subst (λ (n : ℕ). AllZip (IsGiven x fields) (valued (message_of x n).carried) i.values) (sym message_is) (subst (AllZip (IsGiven x fields) (valued (message_of x k).carried)) (sym values_are) at.given);
    no_other = at.no_other ∙ ap (length {A = Value}) (sym values_are);
  },
  refl,
  refl,
)

-- as many values as the message's parameters that have one
pub arriving_long : (x : Expanded) (role : ℕ) (name : List ℕ) (fields : List NamedField) (k : ℕ) (values : List Value) → IsArriving x role name fields k values → length values ≡ length (valued (message_of x k).carried)
arriving_long x role name fields k values at = AllZip-long (IsGiven x fields) (valued (message_of x k).carried) values at.given

-- ---- an emission

-- no message has the name
pub no_attempt_named : (x : Expanded) (role : ℕ) (key : List (List ℕ)) (name : List ℕ) (outs : List (List ℕ)) → ((m : ℕ) → m < length x.messages → message_name x m ≢ name) → (act : Act) → ¬ Means x role (emit key name outs) act
no_attempt_named x role key name outs none (Arrival m) means = means
no_attempt_named x role key name outs none (Attempt m ks os) means = none m means.known means.named

-- it could only be of the message that was found
pub no_attempt_of : (x : Expanded) (role : ℕ) (key : List (List ℕ)) (name : List ℕ) (outs : List (List ℕ)) (k : ℕ) → (k < length x.messages) × (message_name x k ≡ name)
    → ((ks os : List Value) → MeansAttempt x role key name outs k ks os → ⊥)
    → (act : Act) → ¬ Means x role (emit key name outs) act
no_attempt_of x role key name outs k found none (Arrival m) means = means
no_attempt_of x role key name outs k found none (Attempt m ks os) means =
    let at = found in
    let same : m ≡ k = same_message x m k means.known at.0 (means.named ∙ sym at.1) in
    none ks os (subst (λ (n : ℕ). MeansAttempt x role key name outs n ks os) same means)

-- the emission that is tried
pub attempt_means : (x : Expanded) (role : ℕ) (key : List (List ℕ)) (name : List ℕ) (outs : List (List ℕ)) (k : ℕ) (ks os : List Value) → (k < length x.messages) × (message_name x k ≡ name) → (message_of x k).sender ≡ role
    → length key ≡ length x.keys → length outs ≡ length (chosen_params x k) → AllZip SpellsValue key ks → AllZip SpellsValue outs os → Means x role (emit key name outs) (Attempt k ks os)
attempt_means x role key name outs k ks os found own whole chosen key_spelled outs_spelled =
    let at = found in
    record { known = at.0; named = at.1; own = own; key_spelled = key_spelled; whole_key = whole; outs_spelled = outs_spelled; chosen = chosen }

-- a filter keeps no more than there are
pub filter_few : {X : Type 0} (p : X → Bool) (xs : List X) → length (filter p xs) ≤ length xs
filter_few p [] = omega arith
filter_few p (x ∷ xs) =
    let rest = filter_few p xs in
    elim (p x) as (λ b. length (cond b (x ∷ filter p xs) (filter p xs)) ≤ length (x ∷ xs)) [ true ↦ omega (arith, rest) | false ↦ omega (arith, rest) ]
