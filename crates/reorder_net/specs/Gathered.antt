-- The passes of the first roles, joined to one for each mailbox, and what the rule tells that one.
use Rattle.std.specs.Prelude.{◌≡◌, ℕ, ◌<◌, nat_lt, ◌==◌, if◌then◌else◌, List, [], length}
use Rattle.std.specs.Prelude.{slice_get, Some}
use Rattle.std.specs.List.{All}
use Rattle.bspl_types.specs.declared.envelope.Envelope.{Envelope}
use Rattle.agent_scripts.specs.Job.{Job}
use Rattle.reorder_net.specs.declared.hold.Hold.{Hold}
use Rattle.reorder_net.specs.Mail.{IsPosted, IsPut}
use Rattle.reorder_net.specs.Pass.{BoxId, PassState}

-- the pass with what the first roles put, and with what role `home` took if it is one of them
abbrev pub gathered_hold : ℕ → ℕ → List (List Envelope) → List Envelope → Hold
gathered_hold count home puts taken = record {
  home = home;
  low = 0;
  puts = puts;
  takes = nat_lt home count;
  taken = if nat_lt home count then taken else [];
}

-- a pass to each of these mailboxes, of the first `count` roles: that of mailbox `q` has `lists q`,
-- a list for each of them, and `taken q` if role `q` is one of them
pub record AreGathered (boxes : List BoxId) (lists : ℕ → List (List Envelope))
    (taken : ℕ → List Envelope) (count : ℕ) (passes : List PassState) : Type 0 where
  pub number : length passes ≡ length boxes
  pub each_role : (q : ℕ) → length (lists q) ≡ count
  pub each : (q : ℕ) (box : BoxId) → slice_get boxes q ≡ Some box →
      slice_get passes q
      ≡ Some (record { box = box; hold = gathered_hold count q (lists q) (taken q) })

-- what each role took, with what one role more took
abbrev pub taken_by : ℕ → List Envelope → (ℕ → List Envelope) → ℕ → List Envelope
taken_by role mine taken q = if q == role then mine else taken q

-- what role `home` took was posted to it, and what came of these senders stands in their lists
pub record IsTold (job : Job) (home : ℕ) (puts : List (List Envelope)) (taken : List Envelope)
    : Type 0 where
  pub posted : All (λ e. IsPosted job e.from home e) taken
  pub explained : All (λ e. e.from < length puts → IsPut puts e) taken
