-- The name is that of a message, and the fields are those of its values.
use Rattle.std.proofs.lemmas.Option.{get_or_from_slice_get}
use Rattle.bspl_types.specs.Expansion.{no_message}
use Rattle.run_text.proofs.FieldLemmas.{split_of}
use Rattle.run_text.proofs.InstanceLemmas.{carried_known, instance_read, message_found, no_such_message, no_such_values}
use Rattle.run_text.proofs.event.instance_of.Goals as goal

pub returns-in_default : goal.returns-in_default
returns-in_default c =
    let split = split_of c.args.text.now c.split_once.result.0.now c.split_once.result.1 c.split_once.ensures.first c.split_once.ensures.whole in
    let none = rw (c.in_default.is, c.as_slice.ensures) at c.index_of.ensures in
    no_such_message c.args.x.now c.args.text.now _ _ split none

pub values_of-requires-clause-known : goal.values_of-requires-clause-known
values_of-requires-clause-known c =
    let x = c.args.x.now in
    let found = rw (c.in-Some.is, c.as_slice.ensures) at c.index_of.ensures in
    let at = message_found x c.split_once.result.0.now c.in-Some.index found in
    let is = get_or_from_slice_get x.messages c.in-Some.index c.at.result.now no_message c.at.ensures in
    rw (c.as_slice-carried.ensures, ← is, c.as_slice-2.ensures) (carried_known x c.in-Some.index at.0)

pub values_of-requires-clause-few : goal.values_of-requires-clause-few
values_of-requires-clause-few c =
    let x = c.args.x.now in
    let found = rw (c.in-Some.is, c.as_slice.ensures) at c.index_of.ensures in
    let at = message_found x c.split_once.result.0.now c.in-Some.index found in
    let is = get_or_from_slice_get x.messages c.in-Some.index c.at.result.now no_message c.at.ensures in
    rw (c.as_slice-carried.ensures, ← is) (x.shape.each_message c.in-Some.index no_message at.0).few

pub returns-in_default-values_of : goal.returns-in_default-values_of
returns-in_default-values_of c =
    let x = c.args.x.now in
    let split = split_of c.args.text.now c.split_once.result.0.now c.split_once.result.1 c.split_once.ensures.first c.split_once.ensures.whole in
    let found = rw (c.in-Some.is, c.as_slice.ensures) at c.index_of.ensures in
    let is = get_or_from_slice_get x.messages c.in-Some.index c.at.result.now no_message c.at.ensures in
    let none = rw (c.in_default-values_of.is, c.as_slice-carried.ensures, ← is, c.as_slice-2.ensures) at c.values_of.ensures in
    no_such_values x c.args.text.now _ _ c.in-Some.index split found none

pub returns : goal.returns
returns c =
    let x = c.args.x.now in
    let split = split_of c.args.text.now c.split_once.result.0.now c.split_once.result.1 c.split_once.ensures.first c.split_once.ensures.whole in
    let found = rw (c.in-Some.is, c.as_slice.ensures) at c.index_of.ensures in
    let is = get_or_from_slice_get x.messages c.in-Some.index c.at.result.now no_message c.at.ensures in
    let spelled = rw (c.in-Some-values_of.is, c.as_slice-carried.ensures, ← is, c.as_slice-2.ensures) at c.values_of.ensures in
    rw (c.key_of.ensures, c.as_slice-3.ensures, c.as_slice-4.ensures.values, c.as_slice-carried.ensures, ← is) (instance_read x c.args.text.now _ _ c.in-Some.index c.in-Some-values_of.values c.requires split found spelled)
