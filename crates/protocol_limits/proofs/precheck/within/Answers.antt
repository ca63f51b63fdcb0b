-- The flags are right, and no path is longer than the depth.
use Rattle.std.proofs.Common.{sym, subst}
use Rattle.protocol_paths.specs.ReferencePath.{IsWithinDepth}
use Rattle.protocol_limits.specs.Counts.{message_count, private_count}
use Rattle.protocol_limits.proofs.FollowedLemmas.{lent}
use Rattle.protocol_limits.proofs.precheck.within.Goals as goal

pub returns : goal.returns
returns c =
    let document = c.args.document.now in
    let protocols = document.protocols in
    let checked = c.requires.checked in
    let unrolled = c.no_cycle.ensures in
    let messages = c.in_ok-messages.ensures (message_count protocols) (rw c.as_slice.ensures checked.counted.messages) in
    let privates = c.in_ok-privates.ensures (private_count protocols) (rw c.as_slice-2.ensures checked.counted.privates) in
    record {
      unrolled = unrolled;
      within = checked.within;
      deep = λ p at. subst (λ n. IsWithinDepth protocols p n) (sym checked.counted.depth) (c.unrolled_paths_are_short.ensures.by_depth protocols document.top p at unrolled);
      followed = record {
        of_messages = messages;
        of_privates = privates;
        lent = lent c.weights_add_up.ensures protocols document.top c.in_ok-messages.messages c.in_ok-privates.privates messages privates;
      };
    }
