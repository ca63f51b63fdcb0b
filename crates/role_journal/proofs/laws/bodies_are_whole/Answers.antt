-- A body has seventeen bytes, the fields of its values, and zeros for the other fields.
use Rattle.std.proofs.Common.{ℕ, ◌-◌, ◌*◌, length, replicate, arith, length-append}
use Rattle.std.specs.List.{flat_map}
use Rattle.std.proofs.lemmas.List.{length-replicate}
use Rattle.bspl_types.specs.History.{instance_of}
use Rattle.role_journal.specs.EntryBody.{value_body}
use Rattle.role_journal.proofs.BodyLemmas.{length-fields}
use Rattle.role_journal.proofs.InstanceLemmas.{few_valued}
use Rattle.role_journal.proofs.laws.bodies_are_whole.Goals as goal

pub returns : goal.returns
returns c = λ x e entry.
    let i = instance_of e.event in
    let zeros = 34 * (16 - length i.values) in
    omega (arith, length-append (flat_map value_body i.values) (replicate zeros 0), length-fields i.values entry.values, length-replicate {A = ℕ} zeros 0, few_valued x i.message entry.fits.known, entry.fits.each_value)
