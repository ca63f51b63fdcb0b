-- What a pass to a mailbox knows.
use Rattle.std.specs.Prelude.{ℕ, true, false, List, [], ◌∷◌, ◌++◌, slice_index_or}
use Rattle.bspl_types.specs.declared.envelope.Envelope.{Envelope}
use Rattle.reorder_net.specs.declared.hold.Hold.{Hold}

-- the pass of a sender to role `home`'s mailbox, with what it put
abbrev pub sender : ℕ → ℕ → List Envelope → Hold
sender home s put = record { home = home; low = s; puts = put ∷ []; takes = false; taken = [] }

-- what a sender's pass has put
abbrev pub put_list : Hold → List Envelope
put_list v = slice_index_or v.puts 0 []

-- the pass of role `home` to its own mailbox, with what it took
abbrev pub taker : ℕ → List Envelope → Hold
taker home taken = record { home = home; low = 0; puts = []; takes = true; taken = taken }

-- one taken envelope more
abbrev pub taking : Hold → Envelope → Hold
taking v e = record v { taken = v.taken ++ e ∷ [] }
