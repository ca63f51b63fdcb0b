-- The key gets the index after the others, by its number or in the map.
use Rattle.std.proofs.Common.{◌≡◌, cond, List, length, Some, sym, subst}
use Rattle.std.specs.BTreeMap.{get}
use Rattle.std.specs.List.{Contains}
use Rattle.std.specs.Ordering.{is_eq}
use Rattle.bspl_types.specs.declared.value.Value.{Value}
use Rattle.key_table.specs.KeyOrder.{key_cmp}
use Rattle.key_table.specs.inner.KeyIndex.{IsKeyIndex, index_by_number}
use Rattle.key_table.proofs.KeyIndexLemmas.{one_more_indexed, one_more_numbered}
use Rattle.key_table.proofs.table.KeyTable.add.Goals as goal

pub invariant_of-self-then-is_numbered : goal.invariant_of-self-then-is_numbered
invariant_of-self-then-is_numbered c =
    let keys = c.self.inside.keys in
    let key = c.args.key.now in
    let not : ¬ Contains keys key = subst (λ ks. ¬ Contains ks key) (sym c.self.view_is) c.requires in
    let number : index_by_number key ≡ Some (length keys) = subst (λ n. index_by_number key ≡ Some n) c.len-index.ensures (c.is_numbered.ensures.0 c.if-is_numbered.true) in
    subst (λ ks. IsKeyIndex ks c.self.inside.indices) (sym c.in_ok-push.ensures.ok)
    (one_more_numbered keys key c.self.inside.indices not number c.self.invariant)

pub invariant_of-self-in-Ok : goal.invariant_of-self-in-Ok
invariant_of-self-in-Ok c =
    let keys = c.self.inside.keys in
    let key = c.args.key.now in
    let not : ¬ Contains keys key = subst (λ ks. ¬ Contains ks key) (sym c.self.view_is) c.requires in
    let updates : (q : List Value) → get key_cmp c.insert.new.self q ≡ cond (is_eq (key_cmp key q)) (Some (length keys)) (get key_cmp c.self.inside.indices q) =
    subst (λ n. (q : List Value) → get key_cmp c.insert.new.self q ≡ cond (is_eq (key_cmp key q)) (Some n) (get key_cmp c.self.inside.indices q)) c.len-index.ensures
    (subst (λ k. (q : List Value) → get key_cmp c.insert.new.self q ≡ cond (is_eq (key_cmp k q)) (Some c.len-index.result) (get key_cmp c.self.inside.indices q)) c.of.ensures c.in-Ok.ensures.updates.0) in
    subst (λ ks. IsKeyIndex ks c.insert.new.self) (sym c.in_ok-push.ensures.ok)
    (one_more_indexed keys key c.self.inside.indices c.insert.new.self not c.self.invariant
    updates)
