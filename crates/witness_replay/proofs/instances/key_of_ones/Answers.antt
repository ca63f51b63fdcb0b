-- The first of four ones are as many as the keys.
use Rattle.std.proofs.Common.{◌≤◌, ap, ◌∙◌, length, replicate, take}
use Rattle.std.proofs.lemmas.List.{take-replicate}
use Rattle.bspl_types.specs.declared.value.Value.TheVariants.{Number}
use Rattle.witness_replay.proofs.instances.key_of_ones.Goals as goal

pub returns : goal.returns
returns c =
    let few : length c.args.x.now.keys ≤ 4 = c.args.x.now.shape.counts.few_keys in
    c.of.ensures ∙ ap (λ n. take n (replicate 4 (Number 1))) c.len.ensures ∙ take-replicate (length c.args.x.now.keys) 4 (Number 1) few
