-- The message's values are few, and with the key they make its instance.
use Rattle.std.proofs.Common.{◌≡◌, ◌≤◌, List, length, subst, sym, ◌∙◌}
use Rattle.bspl_types.specs.declared.value.Value.{Value}
use Rattle.witness_replay.specs.Witness.{IsWitness}
use Rattle.witness_replay.proofs.ValueLemmas.{few_values, is_witness}
use Rattle.witness_replay.proofs.instances.instance_after.Goals as goal

pub of-requires : goal.of-requires
of-requires c =
    let few = few_values c.args.x.now c.args.before.now c.args.m c.in_ok-values.values c.requires.can.known c.in_ok-values.ensures in
    subst (λ (values : List Value). length values ≤ 16) (sym c.as_slice.ensures) few

pub returns-clause-witness : goal.returns-clause-witness
returns-clause-witness c =
    let is : c.of.result ≡ c.in_ok-values.values = c.of.ensures ∙ c.as_slice.ensures in
    subst (λ (values : List Value). IsWitness c.args.x.now c.args.before.now (record { message = c.args.m; key = c.key_of_ones-key.result; values = values })) (sym is)
    (is_witness c.args.x.now c.args.before.now c.args.m c.key_of_ones-key.result c.in_ok-values.values c.requires.can.known c.key_of_ones-key.ensures c.in_ok-values.ensures)
