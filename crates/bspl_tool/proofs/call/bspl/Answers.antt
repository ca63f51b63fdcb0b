-- A call is made of its two halves, and what it writes claims only what is true.
use Rattle.std.proofs.Common.{refl}
use Rattle.bspl_tool.proofs.Completion.{completed_rightly}
use Rattle.program_frame.specs.declared.prepared.Prepared.TheVariants.{Ended, Read, Replied}
use Rattle.bspl_tool.proofs.call.bspl.Goals as goal

pub returns-in-Replied-clause-call : goal.returns-in-Replied-clause-call
returns-in-Replied-clause-call g c = c.halves_are_calls.ensures.call _ _ (Replied c.in-Replied.reply) _ c.in-Replied.ensures.known c.write_reply.ensures.written

pub returns-in-Replied-clause-headline : goal.returns-in-Replied-clause-headline
returns-in-Replied-clause-headline g c = c.calls_are_true.ensures _ _ _ (returns-in-Replied-clause-call g c)

pub returns-in-Read-clause-call : goal.returns-in-Read-clause-call
returns-in-Read-clause-call g c =
    let known = c.in-Read.ensures.known in
    let right = completed_rightly _ c.answer-answer.result c.completed.result (rw c.as_slice.ensures at (c.answer-answer.ensures.right _ known.requested)) c.completed.ensures in
    c.halves_are_calls.ensures.call _ _ (Read c.in-Read.request c.in-Read.input) _ known
    (record { made = c.completed.result; right = right; written = c.write_reply-in-Read.ensures.written })

pub returns-in-Read-clause-headline : goal.returns-in-Read-clause-headline
returns-in-Read-clause-headline g c = c.calls_are_true.ensures _ _ _ (returns-in-Read-clause-call g c)

pub returns-in-Ended-clause-call : goal.returns-in-Ended-clause-call
returns-in-Ended-clause-call g c = c.halves_are_calls.ensures.call _ _ (Ended c.in-Ended.ending) _ c.in-Ended.ensures.known (refl, refl)

pub returns-in-Ended-clause-headline : goal.returns-in-Ended-clause-headline
returns-in-Ended-clause-headline g c = c.calls_are_true.ensures _ _ _ (returns-in-Ended-clause-call g c)

pub answer-answer-requires : goal.answer-answer-requires
answer-answer-requires g c =
    let known = c.in-Read.ensures.known in
    λ k. ((refl, tt), ((_, known.requested), rw c.as_slice.ensures known.short))
