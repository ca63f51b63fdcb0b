-- What is known of the messages so far.
use Rattle.std.proofs.Common.{ℕ, ◌<◌, length, get_or}
use Rattle.bspl_types.specs.declared.protocol.Message.{Message}
use Rattle.enactment_model.specs.Producers.{SharesOut}
use Rattle.enactment_model.proofs.producing_messages.share_nothing.Given as goal

-- no message before the index shares an `out` parameter with a later one
abbrev pub invariant-loop-i : goal.invariant-loop-i
invariant-loop-i l = (j k : ℕ) (d : Message) → j < l.i → j < k → k < length l.messages → ¬ SharesOut (get_or l.messages j d) (get_or l.messages k d)
