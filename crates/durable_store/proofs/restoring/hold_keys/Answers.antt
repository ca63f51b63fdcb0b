-- One key more is held.
use Rattle.std.proofs.Common.{◌≡◌, ◌+◌, List, [], ◌∷◌, ◌++◌, take, sym, ap, ◌∙◌, subst, arith}
use Rattle.std.proofs.lemmas.List.{take_more}
use Rattle.bspl_types.specs.declared.value.Value.{Value}
use Rattle.durable_store.specs.Start.{HoldsKeys}
use Rattle.durable_store.proofs.KeyLemmas.{few_more, frame_more, holds_more}
use Rattle.durable_store.proofs.restoring.hold_keys.Goals as goal

pub loop-key-preserved : goal.loop-key-preserved
loop-key-preserved c =
    let keys : List (List Value) = c.args.keys.now in
    let k = c.loop-key.key-index in
    let key : List Value = c.key-item.result in
    let before = c.loop-key.invariant in
    let new = c.add_key.new.self in
    let law = c.equal_values_are_one.ensures.lists in
    let adds = c.in_ok-add_key.ensures.ok in
    let more : take k keys ++ key ∷ [] ≡ take (k + 1) keys = sym (take_more keys k key c.loop-key-test.true ∙ ap (λ (item : List Value). take k keys ++ item ∷ []) (sym c.key-item.is)) in
    record {
      held = subst (HoldsKeys new.keys) more (holds_more law c.loop-key.store new (take k keys) key before.held adds);
      same = frame_more law c.loop-key.store new (take k keys) key before.held adds c.args.store.now before.same;
      few = omega (arith, few_more law c.loop-key.store new (take k keys) key before.held adds, before.few);
    }
