-- What is done under a held key.
use Rattle.role_server.proofs.LiveEvents.{does_held}
use Rattle.role_server.proofs.live_act.act_under_held_key.Goals as goal

pub returns-clause-reply : goal.returns-clause-reply
returns-clause-reply c =
    does_held c.args.store.now c.grow.new.store c.args.act.now c.reply_to.result c.reply_to.new.store c.requires.held c.in_ok-grow.ensures.ok c.reply_to.ensures.reply
