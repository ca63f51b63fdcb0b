-- What was prepared is written, or the role is served.
use Rattle.std.proofs.Common.{Ok, refl, ap}
use Rattle.live_role.specs.Call.{declined, served}
use Rattle.live_role.specs.declared.role_end.RoleEnd.{RoleEnd}
use Rattle.live_role.proofs.CallLemmas.{ended_call, served_names}
use Rattle.live_role.proofs.call.bspl_role.Goals as goal

pub returns-in-Replied-clause-call : goal.returns-in-Replied-clause-call
returns-in-Replied-clause-call g c =
    declined _ c.in-Some.ensures (ap (λ (e : RoleEnd _). e.journal) c.unserved-in-Replied.ensures) (record {
      made = Ok c.in-Replied.reply;
      is_right = c.in-Replied.ensures.known;
      tool_end = c.write_reply-in-Replied.result;
      written = c.write_reply-in-Replied.ensures.written;
      ends = ap (λ (e : RoleEnd _). e.ending) c.unserved-in-Replied.ensures;
    })

pub returns-in-Ended-clause-call : goal.returns-in-Ended-clause-call
returns-in-Ended-clause-call g c =
    ended_call _ _ _ _ c.in-Ended.ending _ c.in-Some.ensures c.in-Ended.ensures.known refl c.unserved-in-Ended.ensures

pub returns-clause-call : goal.returns-clause-call
returns-clause-call g c =
    served _ c.in-Some.ensures (record {
      between = g.R.Source.remaining c.prepare.new.input;
      store = c.in-Read.request.role;
      journal = c.in-Read.request.journal;
      ahead = c.in-Read.input;
      begins = c.in-Read.ensures.known;
      served = c.answer_stream-served.result;
      all = rw c.as_slice.ensures at c.answer_stream-served.ensures.ok;
      stops = rw c.as_slice.ensures at c.answer_stream-served.ensures.err;
      ends = c.ending_of.ensures;
    })

pub returns-clause-faults : goal.returns-clause-faults
returns-clause-faults g c =
    served_names _ _ _ _ _ _ _ c.answer_stream-served.result _ (c.in-Read.ensures.faults.no_fault (λ is. absurd cc)) c.in-Read.ensures.unfailed c.ending_of.ensures c.answer_stream-served.ensures.faults
