-- What the loop over the parameters keeps.
use Rattle.local_store.specs.State.{acts_of}
use Rattle.role_questions.proofs.KnownLemmas.{KnownBelow}
use Rattle.role_questions.proofs.knowledge.known.Given as goal

-- the known values of the parameters before this one
abbrev pub invariant-loop-param : goal.invariant-loop-param
invariant-loop-param l = KnownBelow l.fn.store.protocol (acts_of l.fn.store) l.fn.key l.param l.list
