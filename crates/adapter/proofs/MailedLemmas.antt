-- What a role's state keeps when an envelope is put into its receiver's mailbox and then emitted.
use Rattle.std.proofs.Common.{◌≡◌, ◌≢◌, inl, inr, ℕ, ◌-◌, ◌<◌, true, false, List, [], ◌∷◌, ◌++◌, length, Some, slice_get, get_or, refl, sym, ◌∙◌, ap, subst, arith, All}
use Rattle.std.specs.Prelude.{◌==◌, slice_set}
use Rattle.std.proofs.lemmas.Bool.{cases_eq}
use Rattle.std.proofs.lemmas.Bool.Decides.{nat_tests}
use Rattle.std.proofs.lemmas.List.{append-nil, get_or-set_other, get_or-set_same, length-set}
use Rattle.std.proofs.lemmas.Option.{same_Some, slice_get-get_or, slice_get_within}
use Rattle.bspl_types.specs.declared.envelope.Envelope.{Envelope}
use Rattle.bspl_types.specs.declared.event.Event.TheVariants.{Emit}
use Rattle.bspl_types.specs.Expansion.{no_message}
use Rattle.bspl_types.specs.Value.{EqualValuesAreOne}
use Rattle.stamped_history.specs.declared.entry.Entry.{Entry}
use Rattle.agent_scripts.specs.Job.{Job}
use Rattle.reorder_net.specs.declared.passes.RolePasses.{RolePasses}
use Rattle.reorder_net.specs.Hold.{sender}
use Rattle.reorder_net.specs.Mail.{IsPosted}
use Rattle.reorder_net.specs.Pass.{BoxId, IsSender, PassState}
use Rattle.reorder_net.specs.Passes.{ArePasses, with_put}
use Rattle.adapter.specs.Desk.{DeskState}
use Rattle.adapter.specs.Kept.{IsKept}
use Rattle.adapter.specs.Laws.{IsOrderly}
use Rattle.adapter.specs.Posted.{arriving, key_number, posted_by}
use Rattle.adapter.specs.Rules.{key_of}
use Rattle.adapter.specs.State.{HasTakenMessage, IsOfTaken, IsStateKept, StateView, taken_of}
use Rattle.adapter.specs.StateSteps.{EmitsNext, IsStateAtWork}
use Rattle.adapter.specs.Steps.{IsPlanned, after_emission}
use Rattle.adapter.proofs.PostedLemmas.{number_is, posted_emission, posted_more}
use Rattle.adapter.proofs.StateLemmas.{AreOfTaken, receipts_more, same_posts}

-- an envelope with copies arrives at its receiver, and at no other role
arrives : (e : Envelope) → 0 < e.copies → arriving e.to e ≡ e ∷ []
arrives e some =
    let here : (e.to == e.to) ≡ true = grind (arith, nat_tests) in
    let more : (e.copies == 0) ≡ false = grind (arith, nat_tests) in
    rw (here, more) refl

stays_away : (q : ℕ) (e : Envelope) → q ≢ e.to → arriving q e ≡ []
stays_away q e other = let away : (e.to == q) ≡ false = grind (arith, nat_tests) in rw away refl

-- the receiver of a posted envelope has a mailbox
pub receiver_known : (job : Job) (boxes : List BoxId) (from home : ℕ) (e : Envelope) → length boxes ≡ length job.protocol.roles → IsPosted job from home e → home < length boxes
receiver_known job boxes from home e roles posted =
    let known = (job.protocol.shape.each_message e.message.instance.message no_message posted.fits.known).known_receiver in
    omega (arith, known, posted.sent_to, roles)

-- the pass to the receiver's mailbox is a sender's
pub can_put : (boxes : List BoxId) (sent : ℕ → List Envelope) (taken : List Envelope) (e : Envelope) (passes : RolePasses) → e.to < length boxes → ArePasses boxes e.from sent taken passes
    → (p : PassState) → slice_get passes.puts e.to ≡ Some p → (slice_get boxes e.to ≡ Some p.box) × IsSender e.to e.from p
can_put boxes sent taken e passes within are p at =
    let box = slice_get-get_or boxes e.to p.box within in
    let is : record { box = get_or boxes e.to p.box; hold = sender e.to e.from (sent e.to) } ≡ p = same_Some _ p (sym (are.puts e.to (get_or boxes e.to p.box) box) ∙ at) in
    (box ∙ ap (λ (x : PassState). Some x.box) is, subst (λ (x : PassState). IsSender e.to e.from x) is refl)

set_here : (ps : List PassState) (i : ℕ) (p : PassState) → i < length ps → slice_get (slice_set ps i p) i ≡ Some p
set_here ps i p within = slice_get-get_or (slice_set ps i p) i p (omega (arith, within, length-set ps i p)) ∙ ap Some (get_or-set_same ps i p p within)

set_there : (ps : List PassState) (i j : ℕ) (p q : PassState) → j ≢ i → slice_get ps j ≡ Some q → slice_get (slice_set ps i p) j ≡ Some q
set_there ps i j p q other at =
    let within = slice_get_within ps j q at in
    slice_get-get_or (slice_set ps i p) j q (omega (arith, within, length-set ps i p))
    ∙ ap Some (get_or-set_other ps i j p q other) ∙ sym (slice_get-get_or ps j q within) ∙ at

-- once the envelope is put, the passes have put it
pub put_passes : (boxes : List BoxId) (sent : ℕ → List Envelope) (taken : List Envelope) (e : Envelope) (old new : RolePasses) → e.to < length boxes → 0 < e.copies → ArePasses boxes e.from sent taken old
    → ((p : PassState) → slice_get old.puts e.to ≡ Some p → new ≡ with_put old p e) → ArePasses boxes e.from (λ q. sent q ++ arriving q e) taken new
put_passes boxes sent taken e old new within some are put =
    let first : BoxId = get_or boxes e.to old.own.box in
    let pass : PassState = record { box = first; hold = sender e.to e.from (sent e.to) } in
    let more : PassState = record { box = first; hold = sender e.to e.from (sent e.to ++ e ∷ []) } in
    let box : slice_get boxes e.to ≡ Some first = slice_get-get_or boxes e.to old.own.box within in
    let at : slice_get old.puts e.to ≡ Some pass = are.puts e.to first box in
    let is : new ≡ with_put old pass e = put pass at in
    let here : slice_get new.puts e.to ≡ Some more = ap (λ (x : RolePasses). slice_get x.puts e.to) is ∙ set_here old.puts e.to more (slice_get_within old.puts e.to pass at) in
    record {
      count = ap (λ (x : RolePasses). length x.puts) is ∙ length-set old.puts e.to more ∙ are.count;
      puts = λ q b at_q. elim (cases_eq q e.to) [
        | inl same ↦
            let one : first ≡ b = same_Some first b (sym box ∙ ap (slice_get boxes) (sym same) ∙ at_q) in
            ap (slice_get new.puts) same ∙ here
            ∙ ap (λ l. Some (record { box = first; hold = sender e.to e.from (sent e.to ++ l) })) (sym (arrives e some))
            ∙ (λ i. Some (record { box = one i; hold = sender (sym same i) e.from (sent (sym same i) ++ arriving (sym same i) e) }))
        | inr other ↦
            ap (λ (x : RolePasses). slice_get x.puts q) is ∙ set_there old.puts e.to q more _ other (are.puts q b at_q)
            ∙ ap (λ l. Some (record { box = b; hold = sender q e.from l })) (sym (append-nil (sent q)))
            ∙ ap (λ l. Some (record { box = b; hold = sender q e.from (sent q ++ l) })) (sym (stays_away q e other))
      ];
      own = λ b at_own. ap (λ (x : RolePasses). x.own) is ∙ are.own b at_own;
    }

-- without copies nothing is put
pub put_none : (boxes : List BoxId) (sent : ℕ → List Envelope) (taken : List Envelope) (e : Envelope) (passes : RolePasses) → e.copies ≡ 0 → ArePasses boxes e.from sent taken passes → ArePasses boxes e.from (λ q. sent q ++ arriving q e) taken passes
put_none boxes sent taken e passes lost are =
    same_posts boxes e.from sent (λ q. sent q ++ arriving q e) taken passes (λ q. sym (append-nil (sent q)) ∙ ap (λ l. sent q ++ l) (sym (nothing q))) are
  where
    nothing : (q : ℕ) → arriving q e ≡ []
    nothing q = elim (cases_eq q e.to) [
      | inl same ↦ let none : (e.copies == 0) ≡ true = grind (arith, nat_tests) in let here : (e.to == q) ≡ true = grind (arith, nat_tests) in rw (here, none) refl
      | inr other ↦ stays_away q e other
    ]

-- the same taken envelopes
pub same_taken : (boxes : List BoxId) (role : ℕ) (sent : ℕ → List Envelope) (taken : List Envelope) (p : RolePasses) → role < length boxes → ArePasses boxes role sent taken p → p.own.hold.taken ≡ taken
same_taken boxes role sent taken p known are = ap (λ (x : PassState). x.hold.taken) (are.own _ (slice_get-get_or boxes role p.own.box known))

-- the number of a planned envelope's key
planned_number : EqualValuesAreOne → (job : Job) (boxes : List BoxId) (s : StateView) (n : ℕ) (e : Envelope) → IsOrderly job → IsStateAtWork job boxes s n → IsPlanned job s.desk.store n e → key_number job.script.keys e.message.instance.key ≡ n
planned_number equal job boxes s n e orderly work plan =
    let keys = job.script.keys in
    let some = work.number.some in
    let at : slice_get keys (n - 1) ≡ Some (key_of job n) = slice_get-get_or keys (n - 1) [] (omega (arith, some, work.number.within)) in
    let number = number_is equal keys (n - 1) (key_of job n) orderly.fitting.distinct at in
    ap (key_number keys) plan.emission.key_is ∙ number ∙ omega (arith, some)

-- a state stays kept when the planned envelope is put and then emitted
pub emitted_keeps : EqualValuesAreOne → (job : Job) (boxes : List BoxId) (s : StateView) (n : ℕ) (e : Envelope) (d : DeskState) (p : RolePasses) → IsOrderly job → IsStateAtWork job boxes s n → IsPlanned job s.desk.store n e → IsKept job s.desk.store.role d → d ≡ after_emission s.desk (Some e)
    → ArePasses boxes s.desk.store.role (λ q. posted_by job s.desk.store.role q s.desk.store.entries ++ arriving q e) (taken_of s) p → IsStateKept job s.desk.store.role boxes (record { desk = d; passes = p })
emitted_keeps equal job boxes s n e d p orderly work plan new changed are =
    let role : ℕ = s.desk.store.role in
    let entries : List Entry = s.desk.store.entries in
    let taken : List Envelope = taken_of s in
    let kept = work.kept in
    let entry : Entry = record { event = Emit e.message.instance; stamp = e.message.stamp; number = e.message.number } in
    let longer : d.store.entries ≡ entries ++ entry ∷ [] = ap (λ (x : DeskState). x.store.entries) changed in
    let same : taken ≡ p.own.hold.taken = sym (same_taken boxes role _ taken p kept.known are) in
    let number = planned_number equal job boxes s n e orderly work plan in
    let posts = λ (q : ℕ). ap (λ l. posted_by job role q entries ++ l) (sym (posted_emission job role q n e plan.from plan.to plan.copies number)) ∙ sym (posted_more job role q entries entry) ∙ ap (posted_by job role q) (sym longer) in
    record {
      desk = new;
      known = kept.known;
      roles = kept.roles;
      passes = subst (λ (l : List Envelope). ArePasses boxes role (λ q. posted_by job role q d.store.entries) l p) same
          (same_posts boxes role (λ q. posted_by job role q entries ++ arriving q e) (λ q. posted_by job role q d.store.entries) taken p posts are);
      posted = subst (All (λ x. IsPosted job x.from role x)) same kept.posted;
      of_taken = subst (λ (l : List Envelope). IsOfTaken l d) same (record {
        receipts = subst (AreOfTaken taken) (sym longer) (receipts_more taken entries entry kept.of_taken.receipts (λ i is. absurd (cc)));
        inbox = subst (λ (x : DeskState). All (HasTakenMessage taken) x.inbox.envelopes) (sym changed) kept.of_taken.inbox;
      });
    }

-- and the desk emits its next envelope
pub step_keeps : EqualValuesAreOne → (job : Job) (boxes : List BoxId) (s : StateView) (n : ℕ) (e : Envelope) (d : DeskState) (p : RolePasses) → IsOrderly job → IsStateAtWork job boxes s n
    → IsPlanned job s.desk.store n e → IsKept job s.desk.store.role d → d ≡ after_emission s.desk (Some e)
    → ((sent : ℕ → List Envelope) (taken : List Envelope) → ArePasses boxes e.from sent taken s.passes → ArePasses boxes e.from (λ q. sent q ++ arriving q e) taken p)
    → IsStateKept job s.desk.store.role boxes (record { desk = d; passes = p }) × EmitsNext job n s (Some e) (record { desk = d; passes = p })
step_keeps equal job boxes s n e d p orderly work plan new changed put =
    let role : ℕ = s.desk.store.role in
    let sent = λ (q : ℕ). posted_by job role q s.desk.store.entries in
    let old : ArePasses boxes e.from sent (taken_of s) s.passes = subst (λ r. ArePasses boxes r sent (taken_of s) s.passes) (sym plan.from) work.kept.passes in
    let are = subst (λ r. ArePasses boxes r (λ q. sent q ++ arriving q e) (taken_of s) p) plan.from (put sent (taken_of s) old) in (
      emitted_keeps equal job boxes s n e d p orderly work plan new changed are,
      record { next = plan; desk = changed; taken = same_taken boxes role _ (taken_of s) p work.kept.known are },
    )
