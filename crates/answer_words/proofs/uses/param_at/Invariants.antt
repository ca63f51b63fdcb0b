-- No parameter before stands there.
use Rattle.std.proofs.Common.{◌≡◌, drop}
use Rattle.answer_words.specs.Uses.{param_use_at}
use Rattle.answer_words.proofs.uses.param_at.Given as goal

-- the use is that of the parameters that are left
abbrev pub invariant-loop-param : goal.invariant-loop-param
invariant-loop-param l = param_use_at l.offset (drop l.param-index l.params) ≡ param_use_at l.offset l.params
