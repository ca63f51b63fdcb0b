-- The next braces.
use Rattle.std.proofs.lemmas.List.{append-nil}
use Rattle.protocol_rules.proofs.BracesLemmas.{one_more_token}
use Rattle.protocol_rules.proofs.braces.braces_of.Goals as goal
use Rattle.protocol_rules.proofs.braces.braces_of.Goals.{in-Some+in_ok-push, in_default}

pub loop-index-preserved : goal.loop-index-preserved
loop-index-preserved c =
    let more = one_more_token c.args.name.now c.args.tokens.now c.loop-index.index c.loop-index.all c.first_braces.result c.loop-index-test.true c.loop-index.invariant c.first_braces.ensures in
    elim c.match-first_braces.branch [
      | in-Some+in_ok-push w ↦ rw (w.all-is, w.in_ok-push.ensures.ok) (rw w.in-Some.is at more)
      | in_default w ↦ rw w.all-is (rw (w.in_default.is, append-nil) at more)
    ]
