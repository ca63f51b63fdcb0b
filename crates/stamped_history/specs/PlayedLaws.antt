-- What holds of played runs. Each statement is the contract of a public function.
use Rattle.std.specs.Prelude.{◌≡◌, ℕ, List, [], ◌∷◌, ◌++◌}
use Rattle.std.specs.List.{Contains}
use Rattle.bspl_types.specs.declared.event.Event.{Event}
use Rattle.bspl_types.specs.declared.expanded.Expanded.{Expanded}
use Rattle.bspl_types.specs.Expansion.{message_of}
use Rattle.bspl_types.specs.History.{history_of, instance_of}
use Rattle.stamped_history.specs.Played.{IsPlayed, Played}
use Rattle.stamped_history.specs.Rules.{Rules}
use Rattle.stamped_history.specs.Settled.{HistoriesSettled, Settled}

-- the messages in a role's order are sent by the role
abbrev pub OrdersAreOwn : Expanded → Rules → Type 0
OrdersAreOwn x rules = (role m : ℕ) → Contains (rules.order role) m → (message_of x m).sender ≡ role

-- a run is played if each role's history is
abbrev pub HistoriesPlay : Type 0
HistoriesPlay =
    (x : Expanded) (rules : Rules) (run : List Event) → OrdersAreOwn x rules →
    ((role : ℕ) → Played x rules (history_of x role run)) → Played x rules run

-- one more event under a workload key, which the agents play after the others
abbrev pub PlayedGrows : Type 0
PlayedGrows =
    (x : Expanded) (rules : Rules) (events : List Event) (e : Event) → Played x rules events →
    Contains rules.keys (instance_of e).key → IsPlayed x rules events e →
    Played x rules (events ++ e ∷ [])

-- a run is settled if the roles' histories are
abbrev pub HistoriesSettle : Type 0
HistoriesSettle =
    (x : Expanded) (rules : Rules) (run : List Event) →
    HistoriesSettled x rules (λ role. history_of x role run) → Settled x rules run
