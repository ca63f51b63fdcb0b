-- What the first passes of the mailboxes know while their lists are dealt to the roles.
use Rattle.std.specs.Prelude.{◌≡◌, ℕ, ◌+◌, ◌-◌, not, nat_lt, if◌then◌else◌, List, [], length}
use Rattle.std.specs.Prelude.{replicate, slice_get, Some}
use Rattle.reorder_net.specs.declared.hold.Hold.{Hold}
use Rattle.reorder_net.specs.Hold.{sender}
use Rattle.reorder_net.specs.Pass.{BoxId, PassState}

-- a pass of role `home`'s mailbox: it has dealt the lists below `low`, and what is taken to the
-- role if that is one of the first
abbrev pub stock : ℕ → ℕ → ℕ → Hold
stock roles home low = record {
  home = home;
  low = low;
  puts = replicate (8 - low) [];
  takes = not (nat_lt home roles);
  taken = [];
}

-- there is such a pass to each mailbox
pub record AreStocks (boxes : List BoxId) (roles : ℕ) (low : ℕ → ℕ) (passes : List PassState)
    : Type 0 where
  pub count : length passes ≡ length boxes
  pub each : (q : ℕ) (box : BoxId) → slice_get boxes q ≡ Some box →
      slice_get passes q ≡ Some (record { box = box; hold = stock roles q (low q) })

-- the first mailboxes have dealt the list of this role too
abbrev pub low_at : ℕ → ℕ → ℕ → ℕ
low_at role boxes q = if nat_lt q boxes then role + 1 else role

-- the passes by which the role puts, each unused
pub record AreFreshPuts (boxes : List BoxId) (role : ℕ) (puts : List PassState) : Type 0 where
  pub count : length puts ≡ length boxes
  pub each : (q : ℕ) (box : BoxId) → slice_get boxes q ≡ Some box →
      slice_get puts q ≡ Some (record { box = box; hold = sender q role [] })
