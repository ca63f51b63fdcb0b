-- The one instance of a message that has these values.
use Rattle.std.proofs.Common.{◌≡◌, ℕ, ◌<◌, ◌≤◌, List, length, map, sym, ap, subst, ◌∙◌, arith}
use Rattle.std.specs.List.{All, zip}
use Rattle.std.proofs.lemmas.List.{length-map}
use Rattle.std.proofs.lemmas.List.Sums.{count_by-le-length, length-filter}
use Rattle.bspl_types.specs.declared.event.Instance.{Instance}
use Rattle.bspl_types.specs.declared.expanded.Expanded.{Expanded}
use Rattle.bspl_types.specs.declared.value.Value.{Value}
use Rattle.bspl_types.specs.Admission.{IsAdmitted}
use Rattle.bspl_types.specs.Adornment.{has_value, valued}
use Rattle.bspl_types.specs.Expansion.{message_of, no_message}
use Rattle.bspl_types.specs.Instance.{Fits}
use Rattle.bspl_types.specs.KeyAgrees.{KeyAgrees}
use Rattle.role_journal.specs.inner.Reading.{value_at}
use Rattle.role_journal.proofs.KeyLemmas.{key_agrees, key_is}

-- the key that the values make
abbrev pub made_key : Expanded → ℕ → List Value → List Value
made_key x m values = map (λ p. value_at p (zip (valued (message_of x m).carried) values)) x.keys

-- with it they fit
pub made_fits : (x : Expanded) (m : ℕ) (key values : List Value) → IsAdmitted x → m < length x.messages → length values ≡ length (valued (message_of x m).carried) → key ≡ made_key x m values → Fits x (record { message = m; key = key; values = values })
made_fits x m key values admitted known each is = record {
  known = known;
  each_value = each;
  key_length = ap length is ∙ length-map x.keys (λ p. value_at p (zip (valued (message_of x m).carried) values));
  key_values = subst (λ (k : List Value). All (KeyAgrees x.keys k) (zip (valued (message_of x m).carried) values)) (sym is) (key_agrees x.keys (message_of x m).carried values (admitted.each_message m no_message known).distinct);
}

-- and no other key does
pub made_only : (x : Expanded) (m : ℕ) (key values : List Value) → IsAdmitted x → key ≡ made_key x m values → (i : Instance) → Fits x i → i.message ≡ m → i.values ≡ values → i ≡ record { message = m; key = key; values = values }
made_only x m key values admitted is i fits message same =
    let one = admitted.each_message i.message no_message fits.known in
    let own : i.key ≡ made_key x i.message i.values = key_is x.keys i.key (message_of x i.message).carried i.values fits.key_length fits.each_value one.distinct one.whole_key fits.key_values in
    let key_same : i.key ≡ key = own ∙ ap (λ (n : ℕ). made_key x n i.values) message ∙ ap (made_key x m) same ∙ sym is in
    λ k. record { message = message k; key = key_same k; values = same k }

-- a message has at most sixteen values
pub few_valued : (x : Expanded) (m : ℕ) → m < length x.messages → length (valued (message_of x m).carried) ≤ 16
few_valued x m known =
    let carried = (message_of x m).carried in
    omega (arith, length-filter (λ c. has_value c.adornment) carried, count_by-le-length (λ c. has_value c.adornment) carried, (x.shape.each_message m no_message known).few)

-- two instances that fit with one message and the same values are one
pub fitting_is_one : (x : Expanded) (i j : Instance) → IsAdmitted x → Fits x i → Fits x j → i.message ≡ j.message → i.values ≡ j.values → i ≡ j
fitting_is_one x i j admitted fits other message values =
    let one = admitted.each_message j.message no_message other.known in
    let own : j.key ≡ made_key x j.message j.values = key_is x.keys j.key (message_of x j.message).carried j.values other.key_length other.each_value one.distinct one.whole_key other.key_values in
    made_only x j.message j.key j.values admitted own i fits message values
