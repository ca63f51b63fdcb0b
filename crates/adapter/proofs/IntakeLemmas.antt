-- What a role's state keeps when an envelope comes out of its mailbox.
use Rattle.std.proofs.Common.{◌≡◌, ℕ, ◌<◌, false, List, [], ◌∷◌, ◌++◌, length, Some, slice_get, refl, sym, ◌∙◌, ap, subst, arith, All}
use Rattle.std.specs.Prelude.{◌==◌}
use Rattle.std.proofs.lemmas.List.Elements.{All-push, All-weaker, Contains-append_left, Contains-push}
use Rattle.bspl_types.specs.declared.envelope.Envelope.{Envelope}
use Rattle.agent_scripts.specs.Job.{Job}
use Rattle.local_store.specs.State.{StoreState}
use Rattle.reorder_net.specs.declared.passes.RolePasses.{RolePasses}
use Rattle.reorder_net.specs.Hold.{sender, taker, taking}
use Rattle.reorder_net.specs.Inbox.{put_last}
use Rattle.reorder_net.specs.Mail.{IsPosted}
use Rattle.reorder_net.specs.Pass.{BoxId, PassState}
use Rattle.reorder_net.specs.Passes.{ArePasses, with_taken}
use Rattle.adapter.specs.Desk.{DeskState}
use Rattle.adapter.specs.Kept.{IsKept}
use Rattle.adapter.specs.Posted.{posted_by}
use Rattle.adapter.specs.State.{HasTakenMessage, IsOfTaken, IsStateKept, StateView, taken_of}
use Rattle.adapter.proofs.StateLemmas.{AreOfTaken, own_pass}

-- with more room in the inbox a state stays kept
pub room_keeps : (job : Job) (role : ℕ) (boxes : List BoxId) (s : StateView) (d : DeskState) → IsStateKept job role boxes s → IsKept job role d → d.store ≡ s.desk.store → d.inbox.envelopes ≡ s.desk.inbox.envelopes → IsStateKept job role boxes (record s { desk = d })
room_keeps job role boxes s d kept new store envelopes = record {
  desk = new;
  known = kept.known;
  roles = kept.roles;
  passes = subst (λ (x : StoreState). ArePasses boxes role (λ q. posted_by job role q x.entries) (taken_of s) s.passes) (sym store) kept.passes;
  posted = kept.posted;
  of_taken = record {
    receipts = subst (λ (x : StoreState). AreOfTaken (taken_of s) x.entries) (sym store) kept.of_taken.receipts;
    inbox = subst (All (HasTakenMessage (taken_of s))) (sym envelopes) kept.of_taken.inbox;
  };
}

-- what goes back to the taken envelopes goes back to those and one more
more_taken : (taken : List Envelope) (e : Envelope) (d : DeskState) → IsOfTaken taken d → IsOfTaken (taken ++ e ∷ []) d
more_taken taken e d of = record {
  receipts = λ before after f i split is. let was = of.receipts before after f i split is in record { envelope = was.envelope; among = Contains-append_left taken (e ∷ []) was.envelope was.among; instance_is = was.instance_is; number_is = was.number_is; stamped = was.stamped };
  inbox = All-weaker (HasTakenMessage taken) (HasTakenMessage (taken ++ e ∷ [])) (λ x has. record { envelope = has.envelope; among = Contains-append_left taken (e ∷ []) has.envelope has.among; message_is = has.message_is }) d.inbox.envelopes of.inbox;
}

-- with the envelope in the inbox the state stays kept
pub moved_keeps : (job : Job) (role : ℕ) (boxes : List BoxId) (s : StateView) (e : Envelope) (d : DeskState) (p : RolePasses) → IsStateKept job role boxes s → IsPosted job e.from role e → p ≡ with_taken s.passes e → IsKept job role d → d.store ≡ s.desk.store → d.inbox.envelopes ≡ s.desk.inbox.envelopes ++ e ∷ []
    → IsStateKept job role boxes (record { desk = d; passes = p })
moved_keeps job role boxes s e d p kept posted is new store inbox =
    let taken = taken_of s in
    let P = HasTakenMessage (taken ++ e ∷ []) in
    let longer : p.own.hold.taken ≡ taken ++ e ∷ [] = ap (λ (x : RolePasses). x.own.hold.taken) is in
    let of = more_taken taken e s.desk kept.of_taken in
    let puts : p.puts ≡ s.passes.puts = ap (λ (x : RolePasses). x.puts) is in
    record {
      desk = new;
      known = kept.known;
      roles = kept.roles;
      passes = record {
        count = ap length puts ∙ kept.passes.count;
        puts = λ q box at. ap (λ l. slice_get l q) puts ∙ kept.passes.puts q box at ∙ ap (λ (x : StoreState). Some (record { box = box; hold = sender q role (posted_by job role q x.entries) })) (sym store);
        own = λ box at. ap (λ (x : RolePasses). x.own) is ∙ ap (λ (o : PassState). record o { hold = taking o.hold e }) (kept.passes.own box at) ∙ ap (λ l. record { box = box; hold = taker role l }) (sym longer);
      };
      posted = subst (All (λ x. IsPosted job x.from role x)) (sym longer) (All-push (λ x. IsPosted job x.from role x) taken e kept.posted posted);
      of_taken = subst (λ l. IsOfTaken l d) (sym longer) (record {
        receipts = subst (λ (x : StoreState). AreOfTaken (taken ++ e ∷ []) x.entries) (sym store) of.receipts;
        inbox = subst (All P) (sym inbox) (All-push P s.desk.inbox.envelopes e of.inbox (record { envelope = e; among = Contains-push taken e; message_is = refl }));
      });
    }

-- what comes out of the mailbox was posted to the role
pub posted_here : (named job : Job) (role : ℕ) (boxes : List BoxId) (s : StateView) (e : Envelope) → named ≡ job → IsStateKept job role boxes s → IsPosted named e.from s.passes.own.hold.home e → IsPosted job e.from role e
posted_here named job role boxes s e same kept posted =
    let home : s.passes.own.hold.home ≡ role = ap (λ h. h.home) (own_pass job role boxes s kept).1 in
    subst (λ (y : Job × ℕ). IsPosted y.0 e.from y.1 e) (λ i. (same i, home i)) posted

-- an envelope with copies comes last in the inbox
pub put_kept_last : (held new : List Envelope) (e : Envelope) → 0 < e.copies → new ≡ put_last held e → new ≡ held ++ e ∷ []
put_kept_last held new e some is = let more : (e.copies == 0) ≡ false = grind arith in rw more at is
