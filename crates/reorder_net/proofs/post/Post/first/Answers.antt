-- The first role's taking pass comes to the one to its own mailbox.
use Rattle.reorder_net.proofs.GatherLemmas.{first_gathered}
use Rattle.reorder_net.proofs.post.Post.first.Goals as goal

pub returns : goal.returns
returns g c sent taken are = first_gathered c.args.self.now sent taken c.args.passes c.at.result.now c.at_mut.result.now c.join.new.pass are c.at.ensures c.at_mut.ensures.item c.join.ensures
