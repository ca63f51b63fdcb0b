-- One message more that shares nothing, and one that shares.
use Rattle.std.proofs.Common.{◌+◌, true≢false, subst, sym}
use Rattle.std.specs.List.{Any}
use Rattle.std.proofs.lemmas.Bool.{iff_false}
use Rattle.std.proofs.lemmas.List.{take_rest}
use Rattle.enactment_model.specs.Producers.{SharesOut}
use Rattle.enactment_model.proofs.PairLemmas.{none_more, related_to_one}
use Rattle.enactment_model.proofs.producing_messages.share_nothing.Goals as goal

pub returns-then-shares_with_any : goal.returns-then-shares_with_any
returns-then-shares_with_any c =
    let messages = c.args.messages.now in
    let shares = subst (Any (SharesOut c.index-messages-i.result)) (take_rest messages (c.loop-i.i + 1)) (c.shares_with_any.ensures.0 c.if-shares_with_any.true) in
    (λ holds. absurd (true≢false (sym holds)), λ apart. absurd (related_to_one SharesOut messages c.loop-i.i _ c.loop-i-test.true c.index-messages-i.is shares apart))

pub loop-i-preserved : goal.loop-i-preserved
loop-i-preserved c =
    let messages = c.args.messages.now in
    none_more SharesOut messages c.loop-i.i _ c.loop-i-test.true c.index-messages-i.is c.loop-i.invariant
    (λ shares. iff_false c.shares_with_any.ensures c.if-shares_with_any.false (subst (Any (SharesOut c.index-messages-i.result)) (sym (take_rest messages (c.loop-i.i + 1))) shares))
