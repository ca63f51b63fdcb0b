-- What was read is named by the fields before those that are left.
use Rattle.std.proofs.Common.{◌≡◌, ◌++◌, length, map}
use Rattle.std.specs.List.{All}
use Rattle.agent_scripts.specs.Statement.{IsSentBy}
use Rattle.script_text.proofs.order_line.sent_messages.Given as goal
use Rattle.bspl_types.specs.Expansion.{message_name}
use Rattle.text_lines.specs.Fields.{fields_of}

abbrev pub invariant-loop-name : goal.invariant-loop-name
invariant-loop-name l = record {
  sent : All (IsSentBy l.x l.role) l.messages;
  named : map (message_name l.x) l.messages ++ fields_of l.left ≡ fields_of l.fn.listed;
}

-- the fields that are left
abbrev pub decreases-loop-name : goal.decreases-loop-name
decreases-loop-name l = length (fields_of l.left)
