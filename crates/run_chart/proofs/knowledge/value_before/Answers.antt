-- What is found as known first is what is shown.
use Rattle.std.proofs.Common.{take}
use Rattle.run_chart.proofs.KnownLemmas.{found_is_shown}
use Rattle.run_chart.proofs.knowledge.value_before.Goals as goal

pub returns : goal.returns
returns c =
    let s = c.args.s.now in
    let found = found_is_shown s.x.now (take s.index s.run.now) c.role-role.result c.instance.result.now.key c.args.param c.knows.result c.shows_knowledge.ensures c.answers_once.ensures.values s.admitted c.knows.ensures.exact c.knows.ensures.first in
    rw (c.role-role.ensures, c.instance.ensures) at found
