-- One role more has its passes.
use Rattle.reorder_net.proofs.ItemLemmas.{one_longer}
use Rattle.reorder_net.proofs.StockLemmas.{all_roles_fresh}
use Rattle.reorder_net.proofs.post.Post.new.Goals as goal

pub loop-role-preserved : goal.loop-role-preserved
loop-role-preserved g c =
    let passes = c.in_ok-deal_role.field-0 in
    let longer = c.in_ok-push.ensures.ok in
    let old = c.loop-role.invariant in
    record {
      count = one_longer c.loop-role.list c.push.new.self passes c.loop-role.role longer old.count;
      stocks = c.in_ok-deal_role.ensures.stocks;
      fresh = all_roles_fresh c.in_ok-boxes.boxes c.loop-role.list c.push.new.self c.loop-role.role passes longer old.count c.in_ok-deal_role.ensures.fresh old.fresh;
    }
