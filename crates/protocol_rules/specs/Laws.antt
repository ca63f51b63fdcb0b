-- A text has one answer. Each statement is the contract of a public function.
use Rattle.std.specs.Prelude.{◌≡◌, ◌≢◌, ℕ, List, map}
use Rattle.protocol_rules.specs.declared.fault.RuleFault.{RuleFault}
use Rattle.protocol_rules.specs.declared.fault.RuleFault.TheVariants as faults
use Rattle.protocol_rules.specs.declared.rule.Rule.{Rule}
use Rattle.protocol_rules.specs.declared.rule.Sense.{Sense}
use Rattle.protocol_rules.specs.Rules.{AreRulesOf, IsBadRule}
use Rattle.question_text.specs.Tree.{Phrase, phrase_of}

-- what a rule says, wherever its nodes lie in memory
abbrev pub said_by : Rule → Sense × Phrase
said_by rule = (rule.sense, phrase_of rule.question)

-- a protocol of a text has one list of rules at most
abbrev pub HasOneListOfRules : Type 0
HasOneListOfRules =
    (text name : List ℕ) (rules others : List Rule) → AreRulesOf text name rules →
    AreRulesOf text name others → map said_by rules ≡ map said_by others

-- it has one fault at most, memory apart
abbrev pub HasOneRuleFault : Type 0
HasOneRuleFault =
    (text name : List ℕ) (fault other : RuleFault) → fault ≢ faults.NoMemory →
    other ≢ faults.NoMemory → IsBadRule text name fault → IsBadRule text name other → fault ≡ other

-- and not both
abbrev pub ReadRulesHaveNoFault : Type 0
ReadRulesHaveNoFault =
    (text name : List ℕ) (rules : List Rule) (fault : RuleFault) → fault ≢ faults.NoMemory →
    AreRulesOf text name rules → ¬ IsBadRule text name fault
