-- The values of an instance, and that the instance they make fits the protocol.
use Rattle.std.proofs.Common.{◌≡◌, ◌+◌, ℕ, ◌<◌, ◌≤◌, Bool, true, false, cond, List, [], ◌∷◌, ◌++◌, length, take, get_or, replicate, Some, slice_get, sym, ap, ◌∙◌, subst, arith, All}
use Rattle.std.specs.List.{AllZip, filter, zip}
use Rattle.std.proofs.lemmas.Bool.{cond-false, cond-true}
use Rattle.std.proofs.lemmas.List.{append-nil, get_or-replicate, length-replicate, take_more}
use Rattle.std.proofs.lemmas.List.Elements.{All-cons, All-get_or, All-nil, All-weaker, filter-append}
use Rattle.std.proofs.lemmas.Option.{slice_get-get_or, slice_get_within}
use Rattle.list_base.proofs.Mapped.{as_long}
use Rattle.list_base.proofs.Membership.{member_at}
use Rattle.list_base.proofs.Zipped.{zip_append}
use Rattle.bspl_types.specs.declared.event.Event.{Event}
use Rattle.bspl_types.specs.declared.expanded.Expanded.{Expanded}
use Rattle.bspl_types.specs.declared.protocol.Carried.{Carried}
use Rattle.bspl_types.specs.declared.protocol.Message.{Message}
use Rattle.bspl_types.specs.declared.value.Value.{Value}
use Rattle.bspl_types.specs.declared.value.Value.TheVariants.{Number}
use Rattle.bspl_types.specs.Adornment.{has_value, valued}
use Rattle.bspl_types.specs.Expansion.{message_of, no_message}
use Rattle.bspl_types.specs.History.{history_of, sender_history}
use Rattle.bspl_types.specs.KeyAgrees.{KeyAgrees}
use Rattle.bspl_types.specs.Shape.{IsMessageOf}
use Rattle.witness_replay.specs.Witness.{IsWitness, IsWitnessValue, key_of_ones}
use Rattle.witness_replay.specs.inner.Values.{HasValueOf}

-- what holds of the sender's events and the key of ones holds of the history and the key that equal them
pub at_sender : (Q : List Event → List Value → Type 0) (x : Expanded) (before : List Event) (m : ℕ) (message : Message) (key : List Value) → message ≡ message_of x m → key ≡ key_of_ones x → Q (sender_history x before m) (key_of_ones x) → Q (history_of x message.sender before) key
at_sender Q x before m message key is ones holds =
    subst (λ (n : Message). Q (history_of x n.sender before) key) (sym is)
    (subst (λ (k : List Value). Q (sender_history x before m) k) (sym ones) holds)

-- and the other way
pub from_sender : (Q : List Event → List Value → Type 0) (x : Expanded) (before : List Event) (m : ℕ) (message : Message) (key : List Value) → message ≡ message_of x m → key ≡ key_of_ones x → Q (history_of x message.sender before) key → Q (sender_history x before m) (key_of_ones x)
from_sender Q x before m message key is ones holds =
    subst (λ (n : Message). Q (history_of x n.sender before) (key_of_ones x)) is
    (subst (λ (k : List Value). Q (history_of x message.sender before) k) ones holds)

-- one parameter more, with its value
pub valued_more : (R : Carried → Value → Type 0) (carried : List Carried) (i : ℕ) (d : Carried) (values : List Value) (value : Value) → i < length carried → has_value (get_or carried i d).adornment ≡ true → AllZip R (valued (take i carried)) values → R (get_or carried i d) value → AllZip R (valued (take (i + 1) carried)) (values ++ value ∷ [])
valued_more R carried i d values value within has paired one =
    let c = get_or carried i d in
    let alone : valued (c ∷ []) ≡ c ∷ [] = cond-true (has_value c.adornment) (c ∷ []) [] has in
    let more : valued (take (i + 1) carried) ≡ valued (take i carried) ++ c ∷ [] =
    ap valued (take_more carried i d within) ∙ filter-append (λ e. has_value e.adornment) (take i carried) (c ∷ []) ∙ ap (λ (last : List Carried). valued (take i carried) ++ last) alone in
    subst (λ (cs : List Carried). AllZip R cs (values ++ value ∷ [])) (sym more)
    (zip_append R (valued (take i carried)) values (c ∷ []) (value ∷ []) paired (one, tt))

-- one parameter more, without a value
pub valued_same : (R : Carried → Value → Type 0) (carried : List Carried) (i : ℕ) (d : Carried) (values : List Value) → i < length carried → has_value (get_or carried i d).adornment ≡ false → AllZip R (valued (take i carried)) values → AllZip R (valued (take (i + 1) carried)) values
valued_same R carried i d values within none paired =
    let c = get_or carried i d in
    let alone : valued (c ∷ []) ≡ [] = cond-false (has_value c.adornment) (c ∷ []) [] none in
    let same : valued (take (i + 1) carried) ≡ valued (take i carried) =
    ap valued (take_more carried i d within) ∙ filter-append (λ e. has_value e.adornment) (take i carried) (c ∷ []) ∙ ap (λ (last : List Carried). valued (take i carried) ++ last) alone ∙ append-nil (valued (take i carried)) in
    subst (λ (cs : List Carried). AllZip R cs values) (sym same) paired

-- what each two items of two lists have, each pair of them has
pub all_zipped : {K V : Type 0} (P : K × V → Type 0) (ks : List K) (vs : List V) → AllZip (λ k v. P (k, v)) ks vs → All P (zip ks vs)
all_zipped P [] [] all = All-nil P
all_zipped P [] (v ∷ vs) all = absurd all
all_zipped P (k ∷ ks) [] all = absurd all
all_zipped P (k ∷ ks) (v ∷ vs) all = All-cons P (k, v) (zip ks vs) all.0 (all_zipped P ks vs all.1)

-- each value of the key is 1
pub one_at : (n index : ℕ) → index < n → slice_get (replicate n (Number 1)) index ≡ Some (Number 1)
one_at n index within =
    slice_get-get_or (replicate n (Number 1)) index (Number 1) (omega (arith, length-replicate n (Number 1))) ∙
    ap Some (get_or-replicate n index (Number 1) (Number 1) within)

-- a key parameter has the key's value
key_agrees : (x : Expanded) (before : List Event) (m : ℕ) (pair : Carried × Value) → IsWitnessValue x before m pair → KeyAgrees x.keys (key_of_ones x) pair
key_agrees x before m pair value = record {
  same = λ index at.
      one_at (length x.keys) index (slice_get_within x.keys index pair.0.param at) ∙
      ap Some (sym (value.key (member_at x.keys index pair.0.param at)));
}

-- so the instance fits, and is the one that is emitted
pub is_witness : (x : Expanded) (before : List Event) (m : ℕ) (key values : List Value) → m < length x.messages → key ≡ key_of_ones x → AllZip (HasValueOf x before m) (valued (message_of x m).carried) values → IsWitness x before (record { message = m; key = key; values = values })
is_witness x before m key values known ones paired =
    let each : All (IsWitnessValue x before m) (zip (valued (message_of x m).carried) values) = all_zipped (IsWitnessValue x before m) (valued (message_of x m).carried) values paired in
    record {
      key = ones;
      fits = record {
        known = known;
        each_value = as_long (HasValueOf x before m) (valued (message_of x m).carried) values paired;
        key_length = ap length ones ∙ length-replicate (length x.keys) (Number 1);
        key_values =
            subst (λ (k : List Value). All (KeyAgrees x.keys k) (zip (valued (message_of x m).carried) values)) (sym ones)
            (All-weaker (IsWitnessValue x before m) (KeyAgrees x.keys (key_of_ones x)) (key_agrees x before m) (zip (valued (message_of x m).carried) values) each);
      };
      values = each;
    }

-- a filter keeps no more items than there are
length_filter : {X : Type 0} (p : X → Bool) (xs : List X) → length (filter p xs) ≤ length xs
length_filter p [] = omega arith
length_filter p (x ∷ xs) = omega (arith, kept_or_not (p x) x (filter p xs), length_filter p xs)
  where
    kept_or_not : {Y : Type 0} (kept : Bool) (y : Y) (ys : List Y) → length (cond kept (y ∷ ys) ys) ≤ length ys + 1
    kept_or_not true y ys = omega arith
    kept_or_not false y ys = omega arith

-- a message has few values
pub few_values : (x : Expanded) (before : List Event) (m : ℕ) (values : List Value) → m < length x.messages → AllZip (HasValueOf x before m) (valued (message_of x m).carried) values → length values ≤ 16
few_values x before m values known paired =
    let few = (All-get_or (IsMessageOf (length x.roles) (length x.params)) x.messages m no_message known x.shape.each_message).few in
    omega (arith, few, as_long (HasValueOf x before m) (valued (message_of x m).carried) values paired, length_filter (λ c. has_value c.adornment) (message_of x m).carried)
