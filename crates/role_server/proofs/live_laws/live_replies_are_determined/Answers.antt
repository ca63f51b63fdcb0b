-- Each line has one outcome, from the laws of the crates below.
use Rattle.role_server.proofs.LiveLaws.{first_live_consistent, live_lines, live_once}
use Rattle.role_server.proofs.OneReply.{LowerLaws}
use Rattle.role_server.proofs.live_laws.live_replies_are_determined.Goals as goal

pub returns-clause-once : goal.returns-clause-once
returns-clause-once c =
    let laws : LowerLaws = record {
      asks = c.asks_once.ensures.requests;
      acts = c.asks_once.ensures.acts;
      blocks = c.answers_once.ensures.blocks;
      keys = c.equal_values_are_one.ensures.lists;
      emission = c.next_stays_local.ensures.emission;
      receipt = c.next_stays_local.ensures.receipt;
    } in
    live_once laws

pub returns-clause-keeps : goal.returns-clause-keeps
returns-clause-keeps c = live_lines

pub returns-clause-first : goal.returns-clause-first
returns-clause-first c = first_live_consistent
