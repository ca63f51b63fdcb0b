-- What is filled in is an emission.
use Rattle.std.proofs.Common.{◌≡◌, ℕ, ◌+◌, ◌<◌, ◌==◌, true, List, length, get_or, map, Option, None, Some, refl, sym, ap, ◌∙◌, subst, arith}
use Rattle.std.specs.Prelude.{slice_get}
use Rattle.std.specs.List.{Contains, filter, list_any, zip}
use Rattle.std.proofs.lemmas.Bool.{false≢true}
use Rattle.std.proofs.lemmas.List.Elements.{All-contains, Contains-get_or}
use Rattle.list_base.proofs.Filtered.{filtered_member}
use Rattle.list_base.proofs.Partners.{NoRepeat, zipped_member}
use Rattle.bspl_types.specs.declared.event.Event.{Event}
use Rattle.bspl_types.specs.declared.expanded.Expanded.{Expanded}
use Rattle.bspl_types.specs.declared.protocol.Adornment.TheVariants.{In, Out, Nil}
use Rattle.bspl_types.specs.declared.protocol.Carried.{Carried}
use Rattle.bspl_types.specs.declared.value.Value.{Value}
use Rattle.bspl_types.specs.Adornment.{has_value, valued}
use Rattle.bspl_types.specs.Expansion.{message_of}
use Rattle.bspl_types.specs.History.{instance_of}
use Rattle.bspl_types.specs.Instance.{Fits, pairs}
use Rattle.bspl_types.specs.KeyAgrees.{KeyAgrees}
use Rattle.bspl_types.specs.Knowledge.{CanEmit, IsKnown, Knows}
use Rattle.stamped_history.specs.Entries.{last_stamp}
use Rattle.local_store.specs.Consistent.{IsConsistent}
use Rattle.bspl_types.specs.Choice.{chosen_params, is_chosen}
use Rattle.local_store.specs.Emission.{IsEmission}
use Rattle.local_store.specs.State.{StoreState, acts_of}
use Rattle.local_store.specs.inner.Acts.{value_in}
use Rattle.local_store.specs.inner.FilledValues.{filled, filling, key_value}
use Rattle.local_store.proofs.FillingLemmas.{chosen_are, filled_count, filled_pair, keyed_if}
use Rattle.local_store.proofs.KeyOrderLemmas.{key_value_at, keys_once}
use Rattle.local_store.proofs.InstanceLemmas.{params_exist}
use Rattle.local_store.proofs.KnownLemmas.{Reads}

-- the value in the cell of a parameter that is known
value_known : (x : Expanded) (history : List Event) (key : List Value) (p : ℕ) (cell : Option Value) → Reads x history key p cell → IsKnown x history key p → Knows x history key p (value_in cell)
value_known x history key p None reads known = absurd (reads known)
value_known x history key p (Some v) reads known = reads

-- a known value of a key parameter is the key's
known_agrees : (s : StoreState) (key : List Value) (c : Carried) (v : Value) → IsConsistent s → Knows s.protocol (acts_of s) key c.param v → KeyAgrees s.protocol.keys key (c, v)
known_agrees s key c v consistent known =
    let x = s.protocol in
    let pair : Carried × Value = (record { param = c.param; adornment = known.adornment }, v) in
    let fits = All-contains (λ e. Fits x (instance_of e)) (acts_of s) known.event consistent.local.fits known.among in
    let agrees = All-contains (KeyAgrees x.keys (instance_of known.event).key) (pairs x (instance_of known.event)) pair fits.key_values known.carries in
    record { same = λ index at. subst (λ k. slice_get k index ≡ Some v) known.under (agrees.same index at) }

-- what the cells of the key's row and the key itself give
pub record IsFilled (s : StoreState) (cell : ℕ → Option Value) (message : ℕ) (key outs values : List Value) : Type 0 where
  pub consistent : IsConsistent s
  pub held : Contains s.keys key
  pub can : CanEmit s.protocol (acts_of s) message key
  pub reads : (p : ℕ) → p < length s.protocol.params → Reads s.protocol (acts_of s) key p (cell p)
  pub chosen : length outs ≡ length (chosen_params s.protocol message)
  pub values_are : values ≡ filled (λ p. value_in (cell p)) (key_value s.protocol.keys key) outs (message_of s.protocol message).carried 0

-- as many values of the key as key parameters
as_long : (s : StoreState) (key : List Value) → IsConsistent s → Contains s.keys key → length key ≡ length s.protocol.keys
as_long s key consistent held = All-contains (λ k. length k ≡ length s.protocol.keys) s.keys key consistent.keys.whole held

-- the value of an `in` parameter is known
ins_known : (s : StoreState) (cell : ℕ → Option Value) (message : ℕ) (key outs values : List Value) → IsFilled s cell message key outs values → (p : ℕ) (v : Value) → Contains (zip (valued (message_of s.protocol message).carried) values) (record { param = p; adornment = In }, v) → Knows s.protocol (acts_of s) key p v
ins_known s cell message key outs values f p v pair =
    let x = s.protocol in
    let carried = (message_of x message).carried in
    let c : Carried = record { param = p; adornment = In } in
    let adorns = (filtered_member (λ d. has_value d.adornment) carried c (zipped_member (valued carried) values c v pair)).0 in
    let (next, is) = filled_pair (λ q. value_in (cell q)) (key_value x.keys key) outs carried 0 c v (subst (λ vs. Contains (zip (valued carried) vs) (c, v)) f.values_are pair) in
    subst (Knows x (acts_of s) key p) (sym is) (value_known x (acts_of s) key p (cell p) (f.reads p (params_exist x message c adorns)) (f.can.ins p adorns))

-- the value of an `out` key parameter is the key's
out_agrees : (s : StoreState) (cell : ℕ → Option Value) (message : ℕ) (key outs values : List Value) → IsFilled s cell message key outs values → (p : ℕ) (v : Value) → Contains (zip (valued (message_of s.protocol message).carried) values) (record { param = p; adornment = Out }, v) → KeyAgrees s.protocol.keys key (record { param = p; adornment = Out }, v)
out_agrees s cell message key outs values f p v pair =
    let x = s.protocol in
    let carried = (message_of x message).carried in
    let known = λ (q : ℕ). value_in (cell q) in
    let c : Carried = record { param = p; adornment = Out } in
    let (next, is) = filled_pair known (key_value x.keys key) outs carried 0 c v (subst (λ vs. Contains (zip (valued carried) vs) (c, v)) f.values_are pair) in
    record {
      same = λ index at.
          let (u, its, of_key) = key_value_at x.keys key p index (subst NoRepeat (sym x.shape.key_list) (keys_once x.params)) (as_long s key f.consistent f.held) at in
          its ∙ ap Some (sym (is ∙ ap (λ o. (filling Out (known p) o next).0) of_key));
    }

-- so each value of a key parameter is
pair_agrees : (s : StoreState) (cell : ℕ → Option Value) (message : ℕ) (key outs values : List Value) → IsFilled s cell message key outs values → (c : Carried) (v : Value) → Contains (zip (valued (message_of s.protocol message).carried) values) (c, v) → KeyAgrees s.protocol.keys key (c, v)
pair_agrees s cell message key outs values f c v pair =
    let carried = (message_of s.protocol message).carried in
    let valued_one = (filtered_member (λ d. has_value d.adornment) carried c (zipped_member (valued carried) values c v pair)).1 in
    (elim c.adornment as (λ a. has_value a ≡ true → Contains (zip (valued carried) values) (record { param = c.param; adornment = a }, v) → KeyAgrees s.protocol.keys key (record { param = c.param; adornment = a }, v)) [
      | In ↦ λ _ among. known_agrees s key (record { param = c.param; adornment = In }) v f.consistent (ins_known s cell message key outs values f c.param v among)
      | Out ↦ λ _ among. out_agrees s cell message key outs values f c.param v among
      | Nil ↦ λ none _. absurd (false≢true none)
    ]) valued_one pair

pub is_emission : (s : StoreState) (cell : ℕ → Option Value) (message : ℕ) (key outs values : List Value) (stamp number : ℕ) → IsFilled s cell message key outs values → stamp ≡ last_stamp s.entries + 1 → number ≡ length s.entries → IsEmission s message key outs (record { instance = record { message = message; key = key; values = values }; stamp = stamp; number = number })
is_emission s cell message key outs values stamp number f stamp_is number_is =
    let x = s.protocol in
    let carried = (message_of x message).carried in
    let known = λ (q : ℕ). value_in (cell q) in
    let of_key = key_value x.keys key in
    let ps = zip (valued carried) values in
    let count : length (chosen_params x message) + 0 ≡ length outs = omega (arith, f.chosen) in
    record {
      fits = record {
        known = f.can.known;
        each_value = ap length f.values_are ∙ filled_count known of_key outs carried 0;
        key_length = as_long s key f.consistent f.held;
        key_values = λ k d within. let pair = get_or ps k d in pair_agrees s cell message key outs values f pair.0 pair.1 (Contains-get_or ps k d within);
      };
      message_is = refl;
      key_is = refl;
      ins = ins_known s cell message key outs values f;
      outs_are = ap (λ vs. map (λ q. q.1) (filter (λ q. is_chosen x.keys q.0) (zip (valued carried) vs))) f.values_are
          ∙ chosen_are known of_key outs (λ p. list_any (λ k. k == p) x.keys) (keyed_if x.keys key (as_long s key f.consistent f.held)) carried 0 count;
      stamp_is = stamp_is;
      number_is = number_is;
    }
