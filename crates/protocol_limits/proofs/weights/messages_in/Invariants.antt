-- What the loop of `messages_in` keeps.
use Rattle.std.proofs.Common.{◌≡◌, ◌≤◌, count_by, take}
use Rattle.protocol_limits.specs.Counts.{is_message}
use Rattle.protocol_limits.proofs.weights.messages_in.Given as goal

-- the messages among the items that were passed
abbrev pub invariant-loop-item : goal.invariant-loop-item
invariant-loop-item l = record {
  counted : l.count ≡ count_by is_message (take l.item-index l.body);
  few : l.count ≤ l.item-index;
}
