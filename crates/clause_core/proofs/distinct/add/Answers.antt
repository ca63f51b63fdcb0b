-- A literal that is not there yet goes to the end.
use Rattle.std.proofs.lemmas.Bool.{iff_false}
use Rattle.clause_core.proofs.DistinctLemmas.{adds_last}
use Rattle.clause_core.proofs.distinct.add.Goals as goal

pub returns : goal.returns
returns c =
    let absent = iff_false (rw c.as_slice.ensures at c.ends_in.ensures) c.if-ends_in.false in
    rw c.in_ok-push.ensures.ok (adds_last _ _ c.requires.ascends c.requires.none_above absent)
