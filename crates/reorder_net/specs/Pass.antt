-- What contracts see of a mailbox and of a pass to it.
use Rattle.std.specs.Prelude.{◌≡◌, ℕ}
use Rattle.std.specs.Global.{Global}
use Rattle.crossbeam_queue.specs.SegTies.{SegId}
use Rattle.reorder_net.specs.declared.hold.Hold.{Hold}
use Rattle.reorder_net.specs.Hold.{put_list, sender}

-- which mailbox it is
abbrev pub BoxId : Type 0
BoxId = SegId Global

-- the mailbox that the pass is of, and what it knows of it
pub record PassState : Type 0 where
  pub box : BoxId
  pub hold : Hold

-- the pass is that of a sender to role `home`'s mailbox
abbrev pub IsSender : ℕ → ℕ → PassState → Type 0
IsSender home s p = p.hold ≡ sender home s (put_list p.hold)
