-- The answer is exact.
use Rattle.std.proofs.Common.{sym}
use Rattle.log_checker.proofs.OneAnswer.{accepted_by, accepted_with, accepts_exactly, rejects_exactly, stops_for}
use Rattle.log_checker.proofs.derivation.derived_clauses.Goals as goal

pub returns-clause-ok : goal.returns-clause-ok
returns-clause-ok c = accepted_with _ c.args.f.now c.args.log.now c.derived_from.result (sym c.in_ok-plain.ensures) c.derived_from.ensures.ok

pub returns-clause-accepts : goal.returns-clause-accepts
returns-clause-accepts c =
    let stops = stops_for _ c.args.f.now c.args.log.now c.derived_from.result (sym c.in_ok-plain.ensures) c.derived_from.ensures.err in
    accepts_exactly c.resolvents_agree.ensures c.args.f.now c.args.log.now c.derived_from.result stops

pub returns-clause-rejects : goal.returns-clause-rejects
returns-clause-rejects c =
    let accepted = accepted_with _ c.args.f.now c.args.log.now c.derived_from.result (sym c.in_ok-plain.ensures) c.derived_from.ensures.ok in
    let stops = stops_for _ c.args.f.now c.args.log.now c.derived_from.result (sym c.in_ok-plain.ensures) c.derived_from.ensures.err in
    rejects_exactly c.resolvents_agree.ensures c.args.f.now c.args.log.now c.derived_from.result (accepted_by c.args.f.now c.args.log.now c.derived_from.result accepted) stops
