-- Each line has one reply, and the store after it is consistent again.
use Rattle.role_server.proofs.Determined.{first_consistent, served_once, serves_once}
use Rattle.role_server.proofs.OneReply.{LowerLaws}
use Rattle.role_server.proofs.laws.replies_are_determined.Goals as goal

pub returns-clause-replies : goal.returns-clause-replies
returns-clause-replies c =
    let laws : LowerLaws = record {
      asks = c.asks_once.ensures.requests;
      acts = c.asks_once.ensures.acts;
      blocks = c.answers_once.ensures.blocks;
      keys = c.equal_values_are_one.ensures.lists;
      emission = c.next_stays_local.ensures.emission;
      receipt = c.next_stays_local.ensures.receipt;
    } in
    served_once c.kept_lines_replay.ensures.once laws

pub returns-clause-lines : goal.returns-clause-lines
returns-clause-lines c =
    let laws : LowerLaws = record {
      asks = c.asks_once.ensures.requests;
      acts = c.asks_once.ensures.acts;
      blocks = c.answers_once.ensures.blocks;
      keys = c.equal_values_are_one.ensures.lists;
      emission = c.next_stays_local.ensures.emission;
      receipt = c.next_stays_local.ensures.receipt;
    } in
    serves_once laws

pub returns-clause-first : goal.returns-clause-first
returns-clause-first c = λ x role admitted known. first_consistent x role admitted known
