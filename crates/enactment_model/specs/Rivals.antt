-- The emissions that produce a parameter, and the first that is in conflict with another.
use Rattle.std.specs.Prelude.{◌≡◌, ℕ, ◌≤◌, List}
use Rattle.bspl_types.specs.declared.event.Event.{Event}
use Rattle.bspl_types.specs.declared.event.Event.TheVariants.{Emit}
use Rattle.bspl_types.specs.declared.event.Instance.{Instance}
use Rattle.bspl_types.specs.declared.expanded.Expanded.{Expanded}
use Rattle.bspl_types.specs.declared.protocol.Adornment.TheVariants.{Out}
use Rattle.bspl_types.specs.declared.value.Value.{Value}
use Rattle.bspl_types.specs.Expansion.{Adorns}
use Rattle.enactment_model.specs.Safety.{Conflict, ProducesAt}

-- the event is an emission under the key that produces the parameter
pub record IsProducer (x : Expanded) (key : List Value) (p : ℕ) (event : Event) : Type 0 where
  pub instance : Instance
  pub emitted : event ≡ Emit instance
  pub under : instance.key ≡ key
  pub adorned : Adorns x instance.message Out p

-- no event produces the parameter under the key
abbrev pub HasNoProducer : Expanded → List Event → List Value → ℕ → Type 0
HasNoProducer x run key p = (position : ℕ) → ¬ ProducesAt x run key p position

-- the event at the position produces the parameter under the key, and none before it does
pub record IsFirstProducer (x : Expanded) (run : List Event) (key : List Value) (p position : ℕ)
    : Type 0 where
  pub produces : ProducesAt x run key p position
  pub least : (i : ℕ) → ProducesAt x run key p i → position ≤ i

-- no event is in conflict over the parameter with the one at the position
abbrev pub HasNoRival : Expanded → List Event → ℕ → ℕ → Type 0
HasNoRival x run second p = (key : List Value) (first : ℕ) → ¬ Conflict x run key p first second

-- the first event that is in conflict over the parameter with the one at the position
pub record IsFirstRival (x : Expanded) (run : List Event) (second p first : ℕ) : Type 0 where
  pub key : List Value
  pub conflict : Conflict x run key p first second
  pub least : (any : List Value) (i : ℕ) → Conflict x run any p i second → first ≤ i

-- the least parameter over which an event is in conflict with that one, and the first such event
pub record IsLeastRival (x : Expanded) (run : List Event) (second : ℕ) (found : ℕ × ℕ)
    : Type 0 where
  pub rival : IsFirstRival x run second found.0 found.1
  pub least : (any : List Value) (p i : ℕ) → Conflict x run any p i second → found.0 ≤ p
