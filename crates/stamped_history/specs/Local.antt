-- Which stamped histories a role may have by itself (Lamport 1978; Singh 2011).
use Rattle.std.specs.Prelude.{◌≡◌, ℕ, ◌+◌, ◌<◌, List, ◌∷◌, ◌++◌, length}
use Rattle.std.specs.List.{All, Contains}
use Rattle.bspl_types.specs.declared.event.Event.{Event}
use Rattle.bspl_types.specs.declared.event.Event.TheVariants.{Emit, Receive}
use Rattle.bspl_types.specs.declared.event.Instance.{Instance}
use Rattle.bspl_types.specs.declared.expanded.Expanded.{Expanded}
use Rattle.bspl_types.specs.declared.value.Value.{Value}
use Rattle.bspl_types.specs.History.{IsRun, role_of}
use Rattle.bspl_types.specs.Knowledge.{IsEnabled, Knows}
use Rattle.stamped_history.specs.declared.entry.Entry.{Entry}
use Rattle.stamped_history.specs.Entries.{events_of, last_stamp}

-- what is emitted is enabled by the entries before it; it has the next stamp, and its own index
pub record MayEmit (x : Expanded) (before : List Entry) (i : Instance) (stamp number : ℕ)
    : Type 0 where
  pub enabled : IsEnabled x (events_of before) i
  pub next : stamp ≡ last_stamp before + 1
  pub own : number ≡ length before

-- what is received was not received before, and the stamp rises
pub record MayReceive (before : List Entry) (i : Instance) (stamp : ℕ) : Type 0 where
  pub once : ¬ Contains (events_of before) (Receive i)
  pub later : last_stamp before < stamp

-- an event with this stamp and this number may follow these entries
abbrev pub MayFollowAs : Expanded → List Entry → Event → ℕ → ℕ → Type 0
MayFollowAs x before (Emit i) stamp number = MayEmit x before i stamp number
MayFollowAs x before (Receive i) stamp number = MayReceive before i stamp

-- each entry may follow those before it
abbrev pub EachFollows : Expanded → List Entry → Type 0
EachFollows x entries = (before after : List Entry) (e : Entry) →
    entries ≡ before ++ e ∷ after → MayFollowAs x before e.event e.stamp e.number

-- of each parameter one value at most is known under a key
abbrev pub KnowsOneValue : Expanded → List Event → Type 0
KnowsOneValue x events = (key : List Value) (p : ℕ) (v w : Value) →
    Knows x events key p v → Knows x events key p w → v ≡ w

-- a history of the role: its own events, each of which may follow, without two values of a
-- parameter
pub record IsLocal (x : Expanded) (role : ℕ) (entries : List Entry) : Type 0 where
  pub fits : IsRun x (events_of entries)
  pub own : All (λ e. role_of x e ≡ role) (events_of entries)
  pub follows : EachFollows x entries
  pub one_value : KnowsOneValue x (events_of entries)
