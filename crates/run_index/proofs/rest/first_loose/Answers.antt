-- The first loose message, and at the end none.
use Rattle.std.proofs.Common.{refl, arith}
use Rattle.run_index.proofs.RestLemmas.{quiet_from_rest, rest_not_loose}
use Rattle.run_index.proofs.rest.first_loose.Goals as goal

pub returns-then-is_loose-clause-loose : goal.returns-then-is_loose-clause-loose
returns-then-is_loose-clause-loose c =
    record {
      loose = c.if-is_loose.ensures;
      first = λ m before. rest_not_loose c.args.x.now c.args.index.now c.args.key.now m (c.loop-message.invariant m before);
    }

pub returns-clause-exact : goal.returns-clause-exact
returns-clause-exact c = (λ _. quiet_from_rest c.args.x.now c.args.index.now c.args.key.now c.loop-message.message c.requires.fits (omega arith) c.loop-message.invariant, λ _. refl)
