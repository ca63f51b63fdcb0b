-- Agents play exactly if the protocol is found safe.
use Rattle.agent_commands.proofs.PlayAnswers.{found_safe, playing_if_safe, whole_if_not_safe}
use Rattle.agent_commands.proofs.agents.play_if_safe.Goals as goal

pub returns-then-safe : goal.returns-then-safe
returns-then-safe c =
    let safety = c.args.found.verdicts.safety in
    let is = c.is_safe-safe.ensures.0 c.if-safe.true in record {
      right = playing_if_safe c.args.job c.args.mode safety c.args.found.reply is;
      safe = λ budget right. found_safe budget c.args.job.protocol safety right is;
    }

pub returns-else-safe : goal.returns-else-safe
returns-else-safe c = record {
  right = whole_if_not_safe c.args.job c.args.mode c.args.found.verdicts.safety c.args.found.reply (λ safe. absurd (let on = c.is_safe-safe.ensures.1 safe in let off = c.if-safe.false in cc));
  safe = λ budget right. tt;
}
