-- The rule of a mailbox: what its senders put, what its role took, and which pass has which list.
use Rattle.std.specs.Prelude.{◌≡◌, ◌⊎◌, ℕ, ◌+◌, ◌-◌, ◌<◌, ◌≤◌, true, List, ◌++◌, length}
use Rattle.std.specs.Prelude.{slice_get, Some}
use Rattle.std.specs.List.{All, Contains}
use Rattle.bspl_types.specs.declared.envelope.Envelope.{Envelope}
use Rattle.bspl_types.specs.declared.value.Value.{Value}
use Rattle.bspl_types.specs.Expansion.{message_of}
use Rattle.bspl_types.specs.Instance.{Fits}
use Rattle.agent_scripts.specs.Job.{Job}
use Rattle.reorder_net.specs.Losses.{copies_of}
use Rattle.reorder_net.specs.declared.hold.Hold.{Hold}

-- the key is the workload key of that number, from 1
pub record IsKeyAt (job : Job) (n : ℕ) (key : List Value) : Type 0 where
  pub some : 0 < n
  pub at : slice_get job.script.keys (n - 1) ≡ Some key

-- the envelope is one that the sender may put into role `home`'s mailbox: its instance fits, is of
-- a message from the sender to that role, and has a workload key; it has as many copies as the plan
-- gives that message at each number of the key, and at least one
pub record IsPosted (job : Job) (sender home : ℕ) (e : Envelope) : Type 0 where
  pub from_is : e.from ≡ sender
  pub to_is : e.to ≡ home
  pub fits : Fits job.protocol e.message.instance
  pub sent_by : (message_of job.protocol e.message.instance.message).sender ≡ sender
  pub sent_to : (message_of job.protocol e.message.instance.message).receiver ≡ home
  pub workload : Contains job.script.keys e.message.instance.key
  pub copies : (n : ℕ) → IsKeyAt job n e.message.instance.key →
      e.copies ≡ copies_of job.plan e.message.instance.message n
  pub some : 0 < e.copies

-- the envelope stands in the list of its sender
pub record IsPut (puts : List (List Envelope)) (e : Envelope) : Type 0 where
  pub list : List Envelope
  pub at : slice_get puts e.from ≡ Some list
  pub among : Contains list e

-- the pass has the list of sender `s`
abbrev pub HasPuts : ℕ → Hold → Type 0
HasPuts s v = (v.low ≤ s) × (s < v.low + length v.puts)

-- the pass is not spent: it has at least one of the mailbox's lists
abbrev pub IsHolding : Hold → Type 0
IsHolding v = (0 < length v.puts) ⊎ (v.takes ≡ true)

-- the lists of a mailbox: the role that it is of, what each sender put, what the role took, and the
-- number of the pass that has each: `seat s` for the list of sender `s`, `reader` for what was taken
pub record MailLists : Type 0 where
  pub home : ℕ
  pub puts : List (List Envelope)
  pub taken : List Envelope
  pub seat : ℕ → ℕ
  pub reader : ℕ

-- the pass of that number knows the mailbox's role, and the lists that it has, which are its alone
pub record FitsPass (lists : MailLists) (pass : ℕ) (v : Hold) : Type 0 where
  pub at_home : IsHolding v → v.home ≡ lists.home
  pub has_puts : (i : ℕ) (l : List Envelope) → slice_get v.puts i ≡ Some l →
      (lists.seat (v.low + i) ≡ pass) × (slice_get lists.puts (v.low + i) ≡ Some l)
  pub has_taken : v.takes ≡ true → (lists.reader ≡ pass) × (v.taken ≡ lists.taken)

-- there is a pass of that number, and it has the property
abbrev pub SomePass : List Hold → ℕ → (Hold → Type 0) → Type 0
SomePass views pass P = (v : Hold) × (slice_get views pass ≡ Some v) × P v

-- the rule, of what the mailbox holds and of what its passes know: there is a list for each of eight
-- senders; what a sender put it may post to the role; what is held or was taken stands in its
-- sender's list; and each list stands in exactly one pass
pub record IsMail (job : Job) (items : List Envelope) (views : List Hold) : Type 0 where
  pub lists : MailLists
  pub count : length lists.puts ≡ 8
  pub posted : (s : ℕ) (l : List Envelope) → slice_get lists.puts s ≡ Some l →
      All (IsPosted job s lists.home) l
  pub explained : All (IsPut lists.puts) (lists.taken ++ items)
  pub passes : (pass : ℕ) (v : Hold) → slice_get views pass ≡ Some v → FitsPass lists pass v
  pub seated : (s : ℕ) → s < 8 → SomePass views (lists.seat s) (HasPuts s)
  pub read : SomePass views lists.reader (λ v. v.takes ≡ true)
