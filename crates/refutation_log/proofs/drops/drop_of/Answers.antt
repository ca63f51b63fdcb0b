-- What is read of the fields after the name is read of the line.
use Rattle.std.proofs.Common.{◌≡◌, codes, rules}
use Rattle.refutation_log.proofs.Fields.{drop_read, some_parts}
use Rattle.refutation_log.proofs.drops.drop_of.Goals as goal

pub returns-in-Some : goal.returns-in-Some
returns-in-Some c =
    let name : c.split_once.result.0.now ≡ codes "drop" = search rules in
    let parts = rw (name, c.in-Some.is) at c.split_once.ensures.parts in
    drop_read c.args.line.now _ c.numbers_of.result (some_parts 32 c.in-Some.fields.now) parts c.numbers_of.ensures
