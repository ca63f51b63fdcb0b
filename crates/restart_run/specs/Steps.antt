-- What may happen, step by step, in a world whose roles are restarted.
use Rattle.std.specs.Prelude.{◌≡◌, ℕ, ◌==◌, Bool, true, false, if◌then◌else◌}
use Rattle.std.specs.Prelude.{List, [], ◌∷◌, ◌++◌, fold, length, replicate, Option, None, Some}
use Rattle.bspl_types.specs.declared.event.Event.TheVariants.{Receive}
use Rattle.bspl_types.specs.declared.event.Instance.{Instance}
use Rattle.bspl_types.specs.declared.expanded.Expanded.{Expanded}
use Rattle.stamped_history.specs.declared.entry.Entry.{Entry}
use Rattle.stamped_history.specs.Explained.{IsExplained, history_at}
use Rattle.stamped_history.specs.Extended.{extended}
use Rattle.stamped_history.specs.Local.{IsLocal}

-- at a role, an event that is acknowledged, or one that is not; or the role's restart, which keeps
-- the event that was not acknowledged, or does not
pub data Step : Type 0 where
  Acknowledged : ℕ → Entry → Step
  Unacknowledged : ℕ → Entry → Step
  Restart : ℕ → Bool → Step

-- the acknowledged events of each role, in order; a role's event that was not acknowledged, until
-- the role is restarted
pub record Held : Type 0 where
  pub histories : List (List Entry)
  pub pending : ℕ → Option Entry

-- no role has an event
abbrev pub no_events : Expanded → Held
no_events x = record { histories = replicate (length x.roles) []; pending = λ _. None }

-- with the entry the role's history stays local; a receipt is explained by acknowledged events
pub record MayCome (x : Expanded) (h : Held) (role : ℕ) (e : Entry) : Type 0 where
  pub local : IsLocal x role (history_at h.histories role ++ e ∷ [])
  pub explained : (i : Instance) → e.event ≡ Receive i →
      IsExplained x h.histories (history_at h.histories role) i e

-- a role may be restarted at any time; after an event that was not acknowledged it has to be,
-- before it does anything else
abbrev pub MayTakeStep : Expanded → Held → Step → Type 0
MayTakeStep x h (Acknowledged role e) = (h.pending role ≡ None) × MayCome x h role e
MayTakeStep x h (Unacknowledged role e) = (h.pending role ≡ None) × MayCome x h role e
MayTakeStep x h (Restart role keeps) = Unit {0}

-- the role has the event as its last acknowledged one
abbrev pub with_event : Held → ℕ → Entry → Held
with_event h role e = record h { histories = extended h.histories role e }

-- this is what the role has pending, if anything
abbrev pub with_pending : Held → ℕ → Option Entry → Held
with_pending h role e = record h { pending = λ other. if other == role then e else h.pending other }

-- the event that was pending counts as acknowledged if it is kept, and as nothing if it is not
abbrev pub with_kept : Held → ℕ → Bool → Option Entry → Held
with_kept h role true (Some e) = with_event h role e
with_kept h role true None = h
with_kept h role false pending = h

-- what the roles hold after a step
abbrev pub after_step : Held → Step → Held
after_step h (Acknowledged role e) = with_event h role e
after_step h (Unacknowledged role e) = with_pending h role (Some e)
after_step h (Restart role keeps) =
    with_pending (with_kept h role keeps (h.pending role)) role None

-- each step may happen after those before it
abbrev pub AllHappen : Expanded → Held → List Step → Type 0
AllHappen x h [] = Unit {0}
AllHappen x h (step ∷ steps) = MayTakeStep x h step × AllHappen x (after_step h step) steps

-- the acknowledged events of each role after all steps
abbrev pub histories_after : Held → List Step → List (List Entry)
histories_after h steps = (fold after_step h steps).histories

-- the histories are those of the acknowledged events after steps that may happen
pub record AreFromSteps (x : Expanded) (histories : List (List Entry)) : Type 0 where
  pub steps : List Step
  pub happen : AllHappen x (no_events x) steps
  pub held : histories_after (no_events x) steps ≡ histories
