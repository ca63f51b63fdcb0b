-- The index begins with no event, and has one more after each turn.
use Rattle.std.proofs.Common.{◌≡◌, ◌+◌, ◌-◌, ◌<◌, cond, List, length, Some, refl, ap, ◌∙◌, subst, arith}
use Rattle.std.specs.Prelude.{unwrap_or}
use Rattle.std.specs.BTreeMap.{get}
use Rattle.std.specs.Ordering.{is_eq}
use Rattle.bspl_types.specs.declared.value.Value.{Value}
use Rattle.bspl_types.specs.declared.event.Event.{Event}
use Rattle.key_table.specs.EventOrder.{event_cmp}
use Rattle.key_table.specs.KeyOrder.{key_cmp}
use Rattle.run_index.proofs.ChainLemmas.{firsts_more, firsts_start, index_more, index_start, read_at}
use Rattle.run_index.proofs.index.RunIndex.of.Goals as goal

pub loop-position-init : goal.loop-position-init
loop-position-init c = (rw c.new-following.ensures (index_start c.args.run.now c.new-firsts.result c.new-firsts.ensures.empty), firsts_start c.args.run.now c.new-acts.result c.new-acts.ensures.empty)

pub loop-position-preserved : goal.loop-position-preserved
loop-position-preserved c =
    let run = c.args.run.now in
    let p = c.loop-position.position - 1 in
    let e = c.index-run-position.result in
    let before : p < length run = omega (arith, c.loop-position.invariant.0.count, c.loop-position-test.true) in
    let is_next : c.loop-position.position ≡ p + 1 = omega (arith, c.loop-position-test.true) in
    let at = read_at run run p e refl before c.index-run-position.is in
    let next_is = c.unwrap_or.ensures ∙ ap (λ old. unwrap_or old (length run)) (c.in_ok-next.ensures.old ∙ ap (get key_cmp c.loop-position.firsts) (c.of-key.ensures ∙ ap (λ i. i.key) c.instance.ensures)) in
    let updates = subst (λ key. (q : List Value) → get key_cmp c.insert.new.self q ≡ cond (is_eq (key_cmp key q)) (Some p) (get key_cmp c.loop-position.firsts q)) (c.of-key.ensures ∙ ap (λ i. i.key) c.instance.ensures) c.in_ok-next.ensures.updates.0 in
    let f = c.index-run-position-in-loop-position.result in
    let at_f = read_at run run p f refl before c.index-run-position-in-loop-position.is in
    let acts = subst (λ g. (q : Event) → get event_cmp c.insert-in-loop-position.new.self q ≡ cond (is_eq (event_cmp g q)) (Some p) (get event_cmp c.loop-position.acts q)) c.of.ensures c.in_ok-insert.ensures.updates.0 in (
      rw c.in_ok-push.ensures.ok (index_more c.tied_keys_are_one.ensures run c.loop-position.position p c.unwrap_or.result e c.loop-position.firsts c.insert.new.self c.loop-position.following is_next at c.loop-position.invariant.0 next_is updates),
      firsts_more c.tied_events_are_one.ensures run c.loop-position.position p f c.loop-position.acts c.insert-in-loop-position.new.self is_next at_f c.loop-position.invariant.1 acts,
    )
