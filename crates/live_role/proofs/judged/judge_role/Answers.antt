-- A role that is not declared, a protocol that is not found safe, and a role that is accepted.
use Rattle.std.proofs.Common.{◌≡◌, false, ◌∙◌, ap}
use Rattle.tool_input.specs.Rejection.{rejection_line}
use Rattle.live_role.specs.Judgement.{no_role, not_safe}
use Rattle.live_role.proofs.judged.judge_role.Goals as goal

pub returns-in_default : goal.returns-in_default
returns-in_default c = λ text declares. no_role c.args.protocol declares (rw c.expanded.ensures.same at c.in_default.ensures) (c.in_ok-refused.ensures.0 ∙ ap rejection_line c.unknown_role.ensures) c.in_ok-refused.ensures.1

pub returns-then-not-request : goal.returns-then-not-request
returns-then-not-request c =
    let unchecked : c.args.request.now.checked ≡ false = c.if-not-request.true in
    λ text declares. record { declared = declares; is_role = rw c.expanded.ensures.same at c.in-Some.ensures; safe = λ checked. absurd (cc) }

pub returns-in-Some-2 : goal.returns-in-Some-2
returns-in-Some-2 c = λ text declares. not_safe c.args.protocol c.in-Some.role declares (rw c.expanded.ensures.same at c.in-Some.ensures) c.if-not-request.false (rw c.in-Some-2.is at c.in_ok-reply.ensures)

pub returns-in-None : goal.returns-in-None
returns-in-None c = λ text declares. record { declared = declares; is_role = rw c.expanded.ensures.same at c.in-Some.ensures; safe = λ _. rw c.in-None.is at c.in_ok-reply.ensures }
