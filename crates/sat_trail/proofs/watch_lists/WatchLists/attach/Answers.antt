-- The clause is put at the front of both lists.
use Rattle.std.proofs.Common.{rules}
use Rattle.sat_trail.proofs.AttachLemmas.{AreLinked-link}
use Rattle.sat_trail.proofs.watch_lists.WatchLists.attach.Goals as goal

pub returns-in-Some-clause-linked : goal.returns-in-Some-clause-linked
returns-in-Some-clause-linked c =
    AreLinked-link _ _ _ _ _ _ c.in-Some.one c.in-Some.other c.requires.linked c.requires.blank.from_one c.requires.blank.within c.requires.blank.unwatched (search rules)
    (rw (c.of.ensures, c.of-in-Some.ensures) at c.link.ensures.cells) (rw (c.of.ensures, c.of-in-Some.ensures) at c.link.ensures.heads)
