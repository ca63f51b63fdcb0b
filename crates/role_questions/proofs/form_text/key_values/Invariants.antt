-- What is left of the key.
use Rattle.std.proofs.Common.{◌≡◌, ◌++◌, drop, map}
use Rattle.std.specs.List.{zip}
use Rattle.role_questions.specs.Answers.{key_value}
use Rattle.role_questions.proofs.form_text.key_values.Given as goal

-- with what is left it is all of it
abbrev pub invariant-loop-param : goal.invariant-loop-param
invariant-loop-param l = l.list ++ map key_value (zip (drop l.param-index l.keys) l.left) ≡ map key_value (zip l.keys l.key)
