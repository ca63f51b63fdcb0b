-- What an inbox holds after an envelope was put into it.
use Rattle.std.proofs.Common.{◌≡◌, ℕ, ◌<◌, List, sym, subst, arith, ⊎_elim, All}
use Rattle.std.specs.Prelude.{◌==◌, Result, Ok, Err, OnOk, OnErr}
use Rattle.std.proofs.lemmas.Bool.{cases_Bool}
use Rattle.std.proofs.lemmas.Bool.Decides.{nat_tests}
use Rattle.std.proofs.lemmas.List.Elements.{All-push}
use Rattle.bspl_types.specs.declared.envelope.Envelope.{Envelope}
use Rattle.agent_scripts.specs.Job.{Job}
use Rattle.reorder_net.specs.Inbox.{Inbox, put_last}
use Rattle.adapter.specs.Desk.{DeskState}
use Rattle.adapter.specs.Kept.{IsFor, IsKept}

-- another inbox whose envelopes are for the role leaves the desk kept
pub with_inbox : (job : Job) (role : ℕ) (d : DeskState) (inbox : Inbox) → IsKept job role d → All (IsFor job role) inbox.envelopes → IsKept job role (record d { inbox = inbox })
with_inbox job role d inbox kept all =
    record {
      protocol_is = kept.protocol_is;
      role_is = kept.role_is;
      consistent = kept.consistent;
      once = kept.once;
      held = kept.held;
      room = kept.room;
      played = kept.played;
      inbox = all;
    }

-- an envelope that has copies comes last
pub put_kept : (P : Envelope → Type 0) (held : List Envelope) (e : Envelope) → All P held → (0 < e.copies → P e) → All P (put_last held e)
put_kept P held e all own = ⊎_elim
    (λ none. rw none all)
    (λ some. rw some (All-push P held e all (own (grind (arith, nat_tests)))))
    (cases_Bool (e.copies == 0))

-- so what is held after a put is for the role
pub after_put : {A B : Type 0} (job : Job) (role : ℕ) (old new : Inbox) (e : Envelope) (result : Result A B) → All (IsFor job role) old.envelopes → (0 < e.copies → IsFor job role e) → OnOk result (new.envelopes ≡ put_last old.envelopes e) → OnErr result (new ≡ old) → All (IsFor job role) new.envelopes
after_put job role old new e (Ok done) all own ok err = subst (All (IsFor job role)) (sym ok) (put_kept (IsFor job role) old.envelopes e all own)
after_put job role old new e (Err error) all own ok err = subst (λ (i : Inbox). All (IsFor job role) i.envelopes) (sym err) all
