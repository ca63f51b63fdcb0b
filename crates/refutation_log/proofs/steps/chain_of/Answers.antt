-- What is wrong with the first number or with the links is wrong with the step.
use Rattle.std.proofs.Common.{All}
use Rattle.std.proofs.lemmas.Result.{err_from_is_err_and}
use Rattle.std.specs.List.{flat_map}
use Rattle.refutation_log.specs.LogText.{link_fields}
use Rattle.refutation_log.specs.NumberRange.{IsInRange, LinkInRange, StepInRange}
use Rattle.list_base.specs.Numeral.{numeral}
use Rattle.refutation_log.proofs.Readings.{error_of_second, number_of_first}
use Rattle.refutation_log.proofs.Links.{chain_fields, chain_joined}
use Rattle.refutation_log.proofs.steps.chain_of.Goals as goal

pub returns-in_err-links_of-in-Ok : goal.returns-in_err-links_of-in-Ok
returns-in_err-links_of-in-Ok c =
    let p = err_from_is_err_and c.from_residual.result c.from_residual.ensures.1 in
    let joined = chain_joined c.split_once.result.0.now _ _ c.split_once.ensures.parts in
    rw (p.1, p.2) (error_of_second numeral IsInRange _ (flat_map link_fields) (All LinkInRange) _ chain_fields StepInRange _ _ _ joined c.in-Ok.ensures.reading.0 c.in_err-links_of-in-Ok.ensures)

pub returns-in_err-links_of-in-Err-Number : goal.returns-in_err-links_of-in-Err-Number
returns-in_err-links_of-in-Err-Number c =
    let p = err_from_is_err_and c.from_residual-in_err-links_of-in-Err-Number.result c.from_residual-in_err-links_of-in-Err-Number.ensures.1 in
    let joined = chain_joined c.split_once.result.0.now _ _ c.split_once.ensures.parts in
    let bad = rw c.in-Err-Number.field-0-is at c.in-Err-Number.ensures.reading in
    rw (p.1, p.2) (error_of_second numeral IsInRange _ (flat_map link_fields) (All LinkInRange) _ chain_fields StepInRange _ _ bad.0 joined bad.1 c.in_err-links_of-in-Err-Number.ensures)

pub returns-in_ok-links_of-in-Err-Number : goal.returns-in_ok-links_of-in-Err-Number
returns-in_ok-links_of-in-Err-Number c =
    let joined = chain_joined c.split_once.result.0.now _ _ c.split_once.ensures.parts in
    let bad = rw c.in-Err-Number.field-0-is at c.in-Err-Number.ensures.reading in
    number_of_first numeral IsInRange _ (flat_map link_fields) (All LinkInRange) _ chain_fields StepInRange _ _ joined bad c.in_ok-links_of-in-Err-Number.ensures.0
