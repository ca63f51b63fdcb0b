-- The rules of a protocol, and the first of them that is refused.
use Rattle.std.specs.Prelude.{◌≡◌, ℕ, List, ◌∷◌, ◌++◌, ◌⊎◌}
use Rattle.std.specs.List.{All, AllZip}
use Rattle.bspl_parser.specs.declared.token.Token.{Token}
use Rattle.bspl_parser.specs.Tokens.{IsBadByte, Tokens}
use Rattle.protocol_rules.specs.declared.fault.RuleFault.{RuleFault}
use Rattle.protocol_rules.specs.declared.fault.RuleFault.TheVariants.{Byte, TooLong, Syntax, NoMemory}
use Rattle.protocol_rules.specs.declared.rule.Rule.{Rule}
use Rattle.protocol_rules.specs.Braces.{braces_of}
use Rattle.protocol_rules.specs.Rule.{StatesRule, IsRuleFault}
use Rattle.protocol_rules.specs.RuleLine.{RuleBody, rule_bodies}

-- what follows the marks in the braces of the protocol of that name, in order
pub record HasBodies (text name : List ℕ) (bodies : List RuleBody) : Type 0 where
  pub tokens : List Token
  pub scanned : Tokens text tokens
  pub listed : rule_bodies (braces_of name tokens) text ≡ bodies

-- these are rules, and the text has no others for the protocol
pub record AreRulesOf (text name : List ℕ) (rules : List Rule) : Type 0 where
  pub bodies : List RuleBody
  pub marked : HasBodies text name bodies
  pub each : AllZip StatesRule bodies rules

-- rules stand before one that is none
pub record IsFirstRuleFault (bodies : List RuleBody) (fault : RuleFault) : Type 0 where
  pub before : List RuleBody
  pub bad : RuleBody
  pub after : List RuleBody
  pub parts : bodies ≡ before ++ bad ∷ after
  pub good : All (λ body. (rule : Rule) × StatesRule body rule) before
  pub refused : IsRuleFault bad fault

-- the first rule of the protocol that is none
pub record IsBadRuleOf (text name : List ℕ) (fault : RuleFault) : Type 0 where
  pub bodies : List RuleBody
  pub marked : HasBodies text name bodies
  pub first : IsFirstRuleFault bodies fault

-- the text has a byte at which no token begins, or one of the rules is none, unless memory ran out
abbrev pub IsBadRule : List ℕ → List ℕ → RuleFault → Type 0
IsBadRule text name (Byte offset) = IsBadByte text offset ⊎ IsBadRuleOf text name (Byte offset)
IsBadRule text name (TooLong offset count) = IsBadRuleOf text name (TooLong offset count)
IsBadRule text name (Syntax offset) = IsBadRuleOf text name (Syntax offset)
IsBadRule text name NoMemory = Unit {0}
