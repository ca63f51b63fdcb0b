-- The answer is the replies of the role that the part names, or the part names none.
use Rattle.std.proofs.Common.{refl, arith}
use Rattle.agent_commands.proofs.serve_command.serve.Goals as goal

pub replies_to-requires-clause-known : goal.replies_to-requires-clause-known
replies_to-requires-clause-known c = (rw c.expanded.ensures.same at c.in-Some.ensures.role).known

pub replies_to-requires-clause-short : goal.replies_to-requires-clause-short
replies_to-requires-clause-short c = (let within = c.in-Some.ensures.within in omega (arith, within, c.requires))

pub returns-in_ok-replies_to-in-Some-clause-ok : goal.returns-in_ok-replies_to-in-Some-clause-ok
returns-in_ok-replies_to-in-Some-clause-ok c = record {
  role = c.in-Some.role;
  lines = c.in-Some.lines.now;
  opens = rw c.expanded.ensures.same at c.in-Some.ensures.role;
  replies = c.in_ok-replies_to-in-Some.ensures;
  done = refl;
}

pub returns-in-None-clause-refused : goal.returns-in-None-clause-refused
returns-in-None-clause-refused c = record { none = rw c.expanded.ensures.same at c.in-None.ensures.role; rejection_is = c.unknown_role.ensures }
