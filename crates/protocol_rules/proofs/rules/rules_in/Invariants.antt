-- What has been read of the lines.
use Rattle.std.proofs.Common.{length}
use Rattle.std.specs.Option.{option_copied}
use Rattle.list_base.specs.Lines.{parts_in}
use Rattle.protocol_rules.specs.RuleLine.{bodies_in, rule_bodies}
use Rattle.protocol_rules.proofs.ReadingLemmas.{AreRead, IsPlaced}
use Rattle.protocol_rules.proofs.rules.rules_in.Given as goal

-- the rules of the lines before the offset are read
abbrev pub invariant-loop-left : goal.invariant-loop-left
invariant-loop-left l =
    AreRead (rule_bodies l.braces l.text) (bodies_in l.braces l.offset (parts_in 10 (option_copied l.left))) l.rules ×
    IsPlaced l.text l.offset (option_copied l.left)

-- the lines that are left
abbrev pub decreases-loop-left : goal.decreases-loop-left
decreases-loop-left l = length (parts_in 10 (option_copied l.left))
