-- A worker's generator after one word more, or none.
use Rattle.std.proofs.Common.{suc, Bool, true, false, length, ap}
use Rattle.std.specs.Prelude.{◌==◌, if◌then◌else◌}
use Rattle.rand_pcg.specs.Lcg.{Lcg}
use Rattle.rand_pcg.specs.Pcg.{pcg32}
use Rattle.reorder_net.specs.Inbox.{Inbox}
use Rattle.adapter.specs.Steps.{after_pick}
use Rattle.adapter.specs.Worker.{IsDrawnFrom}

-- what both values have, the chosen one has
either : {X : Type 0} (P : X → Type 0) (b : Bool) (x y : X) → P x → P y → P (if b then x else y)
either P true x y has_x has_y = has_x
either P false x y has_x has_y = has_y

-- what is drawn for a pick is drawn from the same generator
pub pick_drawn : (first g : Lcg) (inbox : Inbox) → IsDrawnFrom first g → IsDrawnFrom first (after_pick g inbox)
pick_drawn first g inbox drawn =
    either (IsDrawnFrom first) (length inbox.envelopes == 0) g (pcg32 g).1 drawn
    (record { words = suc drawn.words; after = ap (λ (h : Lcg). (pcg32 h).1) drawn.after })
