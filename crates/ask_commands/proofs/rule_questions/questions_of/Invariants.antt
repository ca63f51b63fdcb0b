-- The rules that were passed over have their questions.
use Rattle.std.proofs.Common.{take}
use Rattle.std.specs.List.{AllZip}
use Rattle.ask_commands.specs.AskedRules.{IsQuestionOf}
use Rattle.ask_commands.proofs.rule_questions.questions_of.Given as goal

-- one for each
abbrev pub invariant-loop-rule : goal.invariant-loop-rule
invariant-loop-rule l = AllZip (IsQuestionOf l.x) (take l.rule-index l.rules) l.questions
