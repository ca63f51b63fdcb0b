-- What the rules of the mailboxes say explains all receipts.
use Rattle.std.proofs.Common.{◌≡◌, ℕ, zero, suc, ◌+◌, ◌<◌, inl, inr, Some, List, [], ◌∷◌, ◌++◌, length, map, sym, ap, ◌∙◌, subst, arith, Contains}
use Rattle.std.specs.Prelude.{slice_get}
use Rattle.std.specs.List.{enumerate_from}
use Rattle.std.proofs.lemmas.List.{length-append, length-map}
use Rattle.std.proofs.lemmas.List.Elements.{All-contains}
use Rattle.std.proofs.lemmas.List.FromFn.{length-enumerate_from}
use Rattle.std.proofs.lemmas.Option.{slice_get_cases}
use Rattle.bspl_types.specs.declared.envelope.Envelope.{Envelope}
use Rattle.bspl_types.specs.declared.event.Instance.{Instance}
use Rattle.adapter.specs.Desk.{DeskState}
use Rattle.adapter.specs.Laws.{TakenEnvelopesExplain}
use Rattle.adapter.specs.Posted.{posted_by}
use Rattle.adapter.specs.State.{IsReceiptOfTaken}
use Rattle.agent_scripts.specs.Job.{Job}
use Rattle.reorder_net.specs.Mail.{IsPosted, IsPut}
use Rattle.stamped_history.specs.declared.entry.Entry.{Entry}
use Rattle.stamped_history.specs.Explained.{AreExplained, history_at, IsExplained}
use Rattle.stamped_history.specs.Local.{IsLocal}
use Rattle.world_run.specs.Told.{AreTold, posted_to}
use Rattle.world_run.specs.World.{histories_of}
use Rattle.world_run.proofs.EmitLemmas.{message_exists}
use Rattle.world_run.proofs.WorldLemmas.{history_is, history_past, local_at}

-- what the histories post to role `q`, if the first is that of role `n`
abbrev lists_from : Job → ℕ → ℕ → List DeskState → List (List Envelope)
lists_from job q n desks = map (λ (role, d). posted_by job role q d.store.entries) (enumerate_from n desks)

-- a list more
lists_more : (job : Job) (q n : ℕ) (desks : List DeskState) (d : DeskState) → lists_from job q n (desks ++ d ∷ []) ≡ lists_from job q n desks ++ posted_by job (n + length desks) q d.store.entries ∷ []
lists_more job q n [] d = ap (λ r. posted_by job r q d.store.entries ∷ []) (omega arith)
lists_more job q n (c ∷ desks) d =
    ap (λ l. posted_by job n q c.store.entries ∷ l)
    (lists_more job q (n + 1) desks d ∙ ap (λ r. lists_from job q (n + 1) desks ++ posted_by job r q d.store.entries ∷ []) (omega arith))

pub posted_more : (job : Job) (q : ℕ) (desks : List DeskState) (d : DeskState) → posted_to job q (desks ++ d ∷ []) ≡ posted_to job q desks ++ posted_by job (length desks) q d.store.entries ∷ []
posted_more job q desks d = lists_more job q 0 desks d ∙ ap (λ r. posted_to job q desks ++ posted_by job r q d.store.entries ∷ []) (omega arith)

-- there is a list for each desk
pub posted_length : (job : Job) (q : ℕ) (desks : List DeskState) → length (posted_to job q desks) ≡ length desks
posted_length job q desks = length-map (enumerate_from 0 desks) (λ ((role, d) : ℕ × DeskState). posted_by job role q d.store.entries) ∙ length-enumerate_from 0 desks

-- the list of a desk
list_at : (job : Job) (q n : ℕ) (desks : List DeskState) (role : ℕ) (d : DeskState) → slice_get desks role ≡ Some d → slice_get (lists_from job q n desks) role ≡ Some (posted_by job (n + role) q d.store.entries)
list_at job q n [] role d at = absurd (cc)
list_at job q n (c ∷ desks) zero d at =
    let is : c ≡ d = cc in
    let e : n ≡ n + 0 = omega arith in
    λ i. Some (posted_by job (e i) q (is i).store.entries)
list_at job q n (c ∷ desks) (suc role) d at =
    let e : n + 1 + role ≡ n + suc role = omega arith in
    list_at job q (n + 1) desks role d at ∙ ap (λ r. Some (posted_by job r q d.store.entries)) e

posted_at : (job : Job) (q : ℕ) (desks : List DeskState) (role : ℕ) (d : DeskState) → slice_get desks role ≡ Some d → slice_get (posted_to job q desks) role ≡ Some (posted_by job role q d.store.entries)
posted_at job q desks role d at = list_at job q 0 desks role d at ∙ ap (λ r. Some (posted_by job r q d.store.entries)) (omega arith)

-- an entry stands in no empty history
no_entry : (before after : List Entry) (e : Entry) → [] ≡ before ++ e ∷ after → ⊥
no_entry before after e split = omega (arith, ap length split, length-append before (e ∷ after))

module _ (law : TakenEnvelopesExplain) (job : Job) (taken : ℕ → List Envelope) (desks : List DeskState) (told : AreTold job taken desks) where
  -- a taken envelope stands in the list of its sender's history
  among_posted : (role : ℕ) (x : Envelope) (sender : DeskState) → slice_get desks x.from ≡ Some sender → IsPut (posted_to job role desks) x → Contains (posted_by job x.from role (history_at (histories_of desks) x.from)) x
  among_posted role x sender at put =
      let list : put.list ≡ posted_by job x.from role sender.store.entries = let is = sym put.at ∙ posted_at job role desks x.from sender at in cc in
      subst (λ h. Contains (posted_by job x.from role h) x) (sym (history_is desks x.from sender at)) (subst (λ l. Contains l x) list put.among)

  -- so the receipt that goes back to it is explained
  taken_explains : (role : ℕ) (before : List Entry) (i : Instance) (receipt : Entry) → role < length desks → IsReceiptOfTaken (taken role) before i receipt → IsExplained job.protocol (histories_of desks) before i receipt
  taken_explains role before i receipt within is =
      let x = is.envelope in
      let rule = told.told role within in
      let posted : IsPosted job x.from role x = All-contains (λ (e : Envelope). IsPosted job e.from role e) (taken role) x rule.posted is.among in
      let from : x.from < length desks = omega (arith, (message_exists job.protocol x.message.instance.message posted.fits.known).known_sender, posted.sent_by, told.kept.count) in
      let put : IsPut (posted_to job role desks) x = All-contains (λ (e : Envelope). e.from < length (posted_to job role desks) → IsPut (posted_to job role desks) e) (taken role) x rule.explained is.among (omega (arith, from, posted_length job role desks)) in
      elim (slice_get_cases desks x.from).1 [
        | inl found ↦
            let sender : DeskState = found.0 in
            let local = subst (λ h. IsLocal job.protocol x.from h) (sym (history_is desks x.from sender found.2)) (local_at job x.from sender (told.kept.each x.from sender found.2)) in
            law job (histories_of desks) x.from role (taken role) before i receipt local is posted (among_posted role x sender found.2 put)
        | inr past ↦ absurd (omega (arith, past.0, from))
      ]

  -- all receipts are explained
  pub explained : AreExplained job.protocol (histories_of desks)
  explained role before after e i split is = elim (slice_get_cases desks role).1 [
    | inl found ↦ taken_explains role before i e found.1 ((told.of_taken role found.0 found.2).receipts before after e i (sym (history_is desks role found.0 found.2) ∙ split) is)
    | inr past ↦ absurd (no_entry before after e (sym (history_past desks role past.0) ∙ split))
  ]
