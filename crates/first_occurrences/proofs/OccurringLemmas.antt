-- An event of a run under a key is an occurrence of its kind.
use Rattle.std.proofs.Common.{◌≡◌, ℕ, true, List, refl, Contains}
use Rattle.std.specs.Prelude.{◌==◌}
use Rattle.std.proofs.lemmas.Bool.{and_from, and_parts, eq-eqb, eqb-true}
use Rattle.std.proofs.lemmas.List.Folds.{list_any-from_Any}
use Rattle.bspl_types.specs.declared.event.Event.{Event}
use Rattle.bspl_types.specs.declared.value.Value.{Value}
use Rattle.bspl_types.specs.History.{instance_of}
use Rattle.bspl_types.specs.Value.{EqualValuesAreOne, equal_values}
use Rattle.first_occurrences.specs.Occurrence.{is_occurring, is_of_kind, kind_of}
use Rattle.first_occurrences.proofs.ListedLemmas.{some_member}

-- an event under the key is of its kind
pub of_own_kind : EqualValuesAreOne → (key : List Value) (e : Event) → (instance_of e).key ≡ key → is_of_kind key (kind_of e) e ≡ true
of_own_kind exact key e under =
    and_from (equal_values (instance_of e).key key) (kind_of e == kind_of e) ((exact (instance_of e).key key).1 under) (eq-eqb (kind_of e) (kind_of e) refl)

-- so its kind occurs in a run that has it
pub event_occurs : EqualValuesAreOne → (run : List Event) (key : List Value) (e : Event) → Contains run e → (instance_of e).key ≡ key → is_occurring run key (kind_of e) ≡ true
event_occurs exact run key e among under =
    list_any-from_Any (is_of_kind key (kind_of e)) run
    (some_member (λ f. is_of_kind key (kind_of e) f ≡ true) run e among (of_own_kind exact key e under))

-- an event that is of a kind is under the key
pub key_of_kind : EqualValuesAreOne → (key : List Value) (kind : ℕ) (e : Event) → is_of_kind key kind e ≡ true → (instance_of e).key ≡ key
key_of_kind exact key kind e of_kind = (exact (instance_of e).key key).0 (and_parts (equal_values (instance_of e).key key) (kind_of e == kind) of_kind).0

-- and the kind is its own
pub own_kind_of : (key : List Value) (kind : ℕ) (e : Event) → is_of_kind key kind e ≡ true → kind_of e ≡ kind
own_kind_of key kind e of_kind = eqb-true (kind_of e) kind (and_parts (equal_values (instance_of e).key key) (kind_of e == kind) of_kind).1
