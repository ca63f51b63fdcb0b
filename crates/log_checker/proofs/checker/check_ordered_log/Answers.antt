-- The answer of the check is exact.
use Rattle.std.proofs.Common.{Ok, Err, sym}
use Rattle.std.proofs.lemmas.Result.{err_from_is_err_and}
use Rattle.order_axioms.specs.Formula.{whole}
use Rattle.log_checker.proofs.OneAnswer.{accepted_by, accepts_exactly, rejects_exactly}
use Rattle.log_checker.proofs.checker.check_ordered_log.Goals as goal

pub returns-in_err-_derived-clause-accepts : goal.returns-in_err-_derived-clause-accepts
returns-in_err-_derived-clause-accepts c =
    let stops = c.in_err-_derived.ensures.err (whole c.args.f.now) (sym c.in_ok-clauses.ensures) in
    let p = err_from_is_err_and c.from_residual-in_err-_derived.result c.from_residual-in_err-_derived.ensures.1 in
    rw (p.1, p.2) (accepts_exactly {X = Unit {0}} c.resolvents_agree.ensures (whole c.args.f.now) c.args.log.now (Err c.in_err-_derived.field-0.0) stops)

pub returns-in_err-_derived-clause-rejects : goal.returns-in_err-_derived-clause-rejects
returns-in_err-_derived-clause-rejects c =
    let stops = c.in_err-_derived.ensures.err (whole c.args.f.now) (sym c.in_ok-clauses.ensures) in
    let p = err_from_is_err_and c.from_residual-in_err-_derived.result c.from_residual-in_err-_derived.ensures.1 in
    rw (p.1, p.2) (rejects_exactly c.resolvents_agree.ensures (whole c.args.f.now) c.args.log.now (Err c.in_err-_derived.field-0.0) tt stops)

pub returns-clause-sound : goal.returns-clause-sound
returns-clause-sound c =
    let accepted = accepted_by (whole c.args.f.now) c.args.log.now (Ok c.in_ok-_derived._derived) (c.in_ok-_derived.ensures.ok (whole c.args.f.now) (sym c.in_ok-clauses.ensures)) in
    c.accepted_is_unsatisfiable.ensures (whole c.args.f.now) c.args.log.now accepted

pub returns-clause-ok : goal.returns-clause-ok
returns-clause-ok c = accepted_by (whole c.args.f.now) c.args.log.now (Ok c.in_ok-_derived._derived) (c.in_ok-_derived.ensures.ok (whole c.args.f.now) (sym c.in_ok-clauses.ensures))

pub returns-clause-rejects : goal.returns-clause-rejects
returns-clause-rejects c =
    let accepted = accepted_by (whole c.args.f.now) c.args.log.now (Ok c.in_ok-_derived._derived) (c.in_ok-_derived.ensures.ok (whole c.args.f.now) (sym c.in_ok-clauses.ensures)) in
    rejects_exactly c.resolvents_agree.ensures (whole c.args.f.now) c.args.log.now (Ok tt) accepted tt
