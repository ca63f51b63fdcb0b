-- The first event that may not follow is the first bad one.
use Rattle.std.proofs.Common.{◌<◌, length, take, subst, arith}
use Rattle.enactment_model.specs.BadEvent.{MayNotFollow}
use Rattle.run_index.proofs.ChainLemmas.{read_at}
use Rattle.run_index.proofs.LegalLemmas.{bad_at}
use Rattle.run_index.proofs.legality.legal.Goals as goal

pub returns-in-Err-clause-bad : goal.returns-in-Err-clause-bad
returns-in-Err-clause-bad c =
    let run = c.args.index.now in
    let n = c.in_ok-position.position in
    let e = c.index-run-position.result in
    let failure = c.in_ok-position.ensures in
    let not_end = rw c.events-run.ensures at c.if-position-run.false in
    let before : n < length run = omega (arith, failure.within, not_end) in
    let at = read_at run c.events-run.result.now n e c.events-run.ensures (rw c.events-run.ensures before) c.index-run-position.is in
    bad_at c.legal_by_positions.ensures c.args.x.now run n e c.in-Err.why at failure (subst (λ es. MayNotFollow c.args.x.now (take n es) e c.in-Err.why) c.events-run.ensures c.in-Err.ensures.why)
