-- A call is made of its two halves.
use Rattle.program_frame.specs.declared.prepared.Prepared.TheVariants.{Read}
use Rattle.program_frame.proofs.call.serve.Goals as goal

pub returns-in-Read-clause-call : goal.returns-in-Read-clause-call
returns-in-Read-clause-call g c =
    let known = c.in-Read.ensures.known in
    c.halves_are_calls.ensures.call _ _ (Read c.in-Read.request c.in-Read.input) _ known
    (record { made = c.reply_to.result; right = c.reply_to.ensures _ known.requested; written = c.write_reply-in-Read.ensures.written })
