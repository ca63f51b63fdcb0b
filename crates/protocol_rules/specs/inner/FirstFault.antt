-- The first fault of the rules of a text.
use Rattle.std.specs.Prelude.{List}
use Rattle.protocol_rules.specs.declared.fault.RuleFault.{RuleFault}
use Rattle.protocol_rules.specs.declared.fault.RuleFault.TheVariants.{Byte, TooLong, Syntax, NoMemory}
use Rattle.protocol_rules.specs.RuleLine.{RuleBody}
use Rattle.protocol_rules.specs.Rules.{IsFirstRuleFault}

-- the fault is the first, unless memory ran out
abbrev pub IsFaultAmong : List RuleBody → RuleFault → Type 0
IsFaultAmong bodies (Byte offset) = IsFirstRuleFault bodies (Byte offset)
IsFaultAmong bodies (TooLong offset count) = IsFirstRuleFault bodies (TooLong offset count)
IsFaultAmong bodies (Syntax offset) = IsFirstRuleFault bodies (Syntax offset)
IsFaultAmong bodies NoMemory = Unit {0}
