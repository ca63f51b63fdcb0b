-- What the loop over the parameters that may be lacking has appended.
use Rattle.std.specs.Prelude.{take}
use Rattle.std.specs.List.{enumerate_from, flat_map}
use Rattle.clause_encoding.specs.Rest.{want_clauses_of}
use Rattle.clause_core.specs.Written.{AppendsClauses}
use Rattle.clause_encoding.proofs.want.push_wants.Given as goal

-- the clauses of those before the index
abbrev pub invariant-loop-n : goal.invariant-loop-n
invariant-loop-n l = AppendsClauses l.initial.clauses l.clauses (flat_map (want_clauses_of l.x) (enumerate_from l.first (take l.n l.wants)))
