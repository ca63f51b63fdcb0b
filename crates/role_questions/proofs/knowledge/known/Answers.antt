-- One parameter further, and all of them.
use Rattle.std.proofs.Common.{◌≡◌, ◌∙◌, ap, arith, length}
use Rattle.bspl_types.specs.declared.expanded.Expanded.{Expanded}
use Rattle.local_store.specs.State.{acts_of}
use Rattle.role_questions.proofs.KnownLemmas.{known_more, known_none}
use Rattle.role_questions.proofs.WithinLemmas.{known_whole}
use Rattle.role_questions.proofs.knowledge.known.Goals as goal

pub loop-param-init : goal.loop-param-init
loop-param-init c = rw c.new-list.ensures (known_none c.args.store.now.protocol (acts_of c.args.store.now) c.args.key.now)

pub loop-param-preserved : goal.loop-param-preserved
loop-param-preserved c = known_more c.args.store.now.protocol (acts_of c.args.store.now) c.args.key.now c.is_consistent.ensures.local.one_value c.loop-param.param c.loop-param.list c.push_known.new.list c.loop-param.invariant c.in_ok-push_known.ensures

pub returns : goal.returns
returns c =
    let count : c.len-count.result ≡ length c.args.store.now.protocol.params = c.len-count.ensures ∙ ap (λ (x : Expanded). length x.params) (c.expanded.ensures.same ∙ c.admitted.ensures) in
    known_whole c.args.store.now.protocol (acts_of c.args.store.now) c.args.key.now c.loop-param.param c.loop-param.list (omega (arith, count, c.loop-param-test.false, c.loop-param.auto.param-end)) c.loop-param.invariant
