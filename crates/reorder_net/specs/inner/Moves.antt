-- What each step makes of what the passes of a mailbox know.
use Rattle.std.specs.Prelude.{◌≡◌, ◌⊎◌, ℕ, ◌+◌, ◌||◌, if◌then◌else◌, true, false, [], ◌∷◌}
use Rattle.std.specs.Prelude.{◌++◌, length, replicate, take, drop}
use Rattle.bspl_types.specs.declared.envelope.Envelope.{Envelope}
use Rattle.agent_scripts.specs.Job.{Job}
use Rattle.reorder_net.specs.declared.hold.Hold.{Hold}
use Rattle.reorder_net.specs.Gathered.{IsTold}
use Rattle.reorder_net.specs.Hold.{put_list, sender, taking}
use Rattle.reorder_net.specs.Mail.{IsPosted}

-- a new mailbox's first pass: all lists, all empty, of no role's mailbox yet
abbrev pub first_hold : Hold
first_hold = record { home = 0; low = 0; puts = replicate 8 []; takes = true; taken = [] }

-- a pass without lists
abbrev pub spent : Hold
spent = record { home = 0; low = 0; puts = []; takes = false; taken = [] }

-- the pass is of the mailbox of that role
abbrev pub named : ℕ → Hold → Hold
named home v = record v { home = home }

-- the pass without the first of its senders' lists
abbrev pub dealt : Hold → Hold
dealt v = record v { low = v.low + 1; puts = drop 1 v.puts }

-- the pass with that list alone
abbrev pub deal : Hold → Hold
deal v = record { home = v.home; low = v.low; puts = take 1 v.puts; takes = false; taken = [] }

-- the pass without what was taken
abbrev pub untaken : Hold → Hold
untaken v = record v { takes = false; taken = [] }

-- the other pass has no senders' lists, or those that come next
abbrev pub Follows : Hold → Hold → Type 0
Follows v other = (other.puts ≡ []) ⊎ (other.low ≡ v.low + length v.puts)

-- the lists of both passes
abbrev pub joined : Hold → Hold → Hold
joined v other = record {
  home = v.home;
  low = v.low;
  puts = v.puts ++ other.puts;
  takes = v.takes || other.takes;
  taken = if v.takes then v.taken else other.taken;
}

-- the envelope comes to the end of the sender's list
abbrev pub HasPut : Hold → Envelope → Hold → Type 0
HasPut v e after = after ≡ sender v.home v.low (put_list v ++ e ∷ [])

-- the envelope comes to the end of what was taken, and was posted to the role
abbrev pub HasTaken : Job → Hold → Envelope → Hold → Type 0
HasTaken job v e after = (after ≡ taking v e) × IsPosted job e.from v.home e

-- the pass has the lists of the first senders, and what was taken
pub record IsGathered (v : Hold) : Type 0 where
  pub low : v.low ≡ 0
  pub takes : v.takes ≡ true

-- what the rule tells such a pass
abbrev pub IsToldTo : Job → Hold → Type 0
IsToldTo job v = IsTold job v.home v.puts v.taken
