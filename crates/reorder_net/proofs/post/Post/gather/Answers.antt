-- The taking pass comes to the one to its own mailbox, and then each list to the one to its mailbox.
use Rattle.reorder_net.specs.Gathered.{taken_by}
use Rattle.reorder_net.proofs.GatherLemmas.{can_gather, lists_gathered, own_gathered}
use Rattle.reorder_net.proofs.post.Post.gather.Goals as goal

pub join_puts-requires : goal.join_puts-requires
join_puts-requires g c =
    let boxes = c.args.self.now in
    let gathered = c.requires.gathered in
    let passes = c.requires.passes in
    let half = own_gathered boxes gathered.0 gathered.1 c.args.role c.args.gathered.now passes.0 passes.1 c.args.passes c.at.result.now c.at_mut.result.now c.join.new.pass gathered.2 passes.2 c.at.ensures c.at_mut.ensures.item c.join.ensures in
    can_gather boxes gathered.0 (taken_by c.args.role passes.1 gathered.1) c.args.role _ passes.0 passes.1 c.args.passes c.requires.known.0 half passes.2

pub returns : goal.returns
returns g c lists taken sent mine all are =
    let boxes = c.args.self.now in
    let half = own_gathered boxes lists taken c.args.role c.args.gathered.now sent mine c.args.passes c.at.result.now c.at_mut.result.now c.join.new.pass all are c.at.ensures c.at_mut.ensures.item c.join.ensures in
    lists_gathered boxes lists (taken_by c.args.role mine taken) c.args.role _ c.join_puts.new.gathered sent mine c.args.passes half are c.join_puts.ensures
