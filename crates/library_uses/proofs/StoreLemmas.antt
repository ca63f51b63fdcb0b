-- What a new store with one key and room for one event is.
use Rattle.std.proofs.Common.{◌≡◌, ℕ, ◌<◌, List, [], ◌∷◌, length, max, refl, ap, subst, ◌∙◌, arith}
use Rattle.std.specs.List.{Contains}
use Rattle.bspl_types.specs.declared.expanded.Expanded.{Expanded}
use Rattle.bspl_types.specs.declared.value.Value.{Value}
use Rattle.bspl_types.specs.Choice.{chosen_params}
use Rattle.bspl_types.specs.Expansion.{message_of}
use Rattle.local_store.specs.Emission.{IsAttempt}
use Rattle.local_store.specs.State.{AddsKey, StoreState, new_store}

-- the store in which the sender may begin
abbrev pub ready_store : Expanded → ℕ → List Value → StoreState
ready_store x role key = record { protocol = x; role = role; keys = key ∷ []; entries = []; spare = 1 }

none_held : (key : List Value) → ¬ Contains [] key
none_held key found = omega (arith, found.1)

pub is_ready : (x : Expanded) (role : ℕ) (key : List Value) (zero one two : StoreState) → zero ≡ new_store x role → AddsKey zero key one → two ≡ record one { spare = max one.spare 1 } → two ≡ ready_store x role key
is_ready x role key zero one two new adds roomy =
    let added : one ≡ record (new_store x role) { keys = key ∷ [] } = (subst (λ s. AddsKey s key one) new adds).first (none_held key) in
    roomy ∙ ap {A = StoreState} (λ s. record s { spare = max s.spare 1 }) added

pub may_try : (x : Expanded) (role message : ℕ) (key outs : List Value) → message < length x.messages → (message_of x message).sender ≡ role → length outs ≡ length (chosen_params x message) → IsAttempt (ready_store x role key) message key outs
may_try x role message key outs known own chosen =
    record {
      proposal = record { held = (0, omega arith, refl); chosen = chosen; clock = omega arith };
      known = known;
      own = own;
      spare = omega arith;
    }
