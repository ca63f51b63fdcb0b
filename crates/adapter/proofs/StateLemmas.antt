-- What a role's state keeps when its desk changes.
use Rattle.std.proofs.Common.{◌≡◌, ◌⊎◌, inl, inr, ℕ, suc, ◌+◌, ◌-◌, true, false, List, [], ◌∷◌, ◌++◌, length, take, drop, None, Some, Option, slice_get, refl, sym, ◌∙◌, ap, subst, arith, ⊎_elim, All, get_or}
use Rattle.std.specs.Prelude.{◌==◌, max}
use Rattle.std.proofs.lemmas.Bool.{cases_Bool}
use Rattle.std.proofs.lemmas.List.Elements.{All-append, All-contains, All-drop, All-nil, All-set, All-take}
use Rattle.std.proofs.lemmas.Option.{slice_get-get_or}
use Rattle.list_base.proofs.Membership.{member_at}
use Rattle.rand_pcg.specs.Lcg.{Lcg}
use Rattle.bspl_types.specs.declared.envelope.Envelope.{Envelope}
use Rattle.bspl_types.specs.declared.event.Event.TheVariants.{Receive}
use Rattle.bspl_types.specs.declared.event.Instance.{Instance}
use Rattle.stamped_history.specs.declared.entry.Entry.{Entry}
use Rattle.stamped_history.specs.Entries.{last_stamp}
use Rattle.agent_scripts.specs.Job.{Job}
use Rattle.local_store.specs.declared.receipt.Receipt.{Receipt}
use Rattle.local_store.specs.declared.receipt.Receipt.TheVariants.{Fresh, Repeat, Differs}
use Rattle.local_store.specs.Reception.{IsReceipt}
use Rattle.local_store.specs.State.{StoreState}
use Rattle.reorder_net.specs.declared.passes.RolePasses.{RolePasses}
use Rattle.reorder_net.specs.Hold.{sender, taker}
use Rattle.reorder_net.specs.Inbox.{Inbox, after_spending}
use Rattle.reorder_net.specs.Mail.{IsPosted}
use Rattle.reorder_net.specs.Pass.{BoxId, PassState}
use Rattle.reorder_net.specs.Passes.{ArePasses}
use Rattle.adapter.specs.Desk.{DeskState}
use Rattle.adapter.specs.Kept.{IsKept}
use Rattle.adapter.specs.Laws.{NewStatesAreKept}
use Rattle.adapter.specs.Posted.{posted_by}
use Rattle.adapter.specs.State.{HasTakenMessage, IsReceiptOfTaken, IsStateKept, StateView, taken_of}
use Rattle.adapter.specs.Steps.{IsSpent, IsTaking, picked_index}
use Rattle.adapter.proofs.PostedLemmas.{posted_receipt}

-- each receipt in the entries goes back to a taken envelope
abbrev pub AreOfTaken : List Envelope → List Entry → Type 0
AreOfTaken taken entries =
    (before after : List Entry) (e : Entry) (i : Instance) →
    entries ≡ before ++ e ∷ after → e.event ≡ Receive i → IsReceiptOfTaken taken before i e

-- the taking pass of a kept state is of its own mailbox
pub own_pass : (job : Job) (role : ℕ) (boxes : List BoxId) (s : StateView) → IsStateKept job role boxes s → (slice_get boxes role ≡ Some s.passes.own.box) × (s.passes.own.hold ≡ taker role (taken_of s))
own_pass job role boxes s kept =
    let at = slice_get-get_or boxes role s.passes.own.box kept.known in
    let own = kept.passes.own _ at in
    (at ∙ ap (λ p. Some p.box) (sym own), ap (λ p. p.hold) own)

-- passes of histories that post the same
pub same_posts : (boxes : List BoxId) (role : ℕ) (one other : ℕ → List Envelope) (taken : List Envelope) (p : RolePasses) → ((q : ℕ) → one q ≡ other q) → ArePasses boxes role one taken p → ArePasses boxes role other taken p
same_posts boxes role one other taken p same are = record {
  count = are.count;
  puts = λ q box at. are.puts q box at ∙ ap (λ l. Some (record { box = box; hold = sender q role l })) (same q);
  own = are.own;
}

too_long : {X : Type 0} (zs : List X) (y : X) (after : List X) → 0 ≡ length (zs ++ y ∷ after) → ⊥
too_long [] y after is = omega (arith, is)
too_long (w ∷ zs) y after is = omega (arith, is)

-- an item of a list with one more item is that one, or one of the others
split_cases : {X : Type 0} (xs : List X) (x : X) (before : List X) (y : X) (after : List X) → xs ++ x ∷ [] ≡ before ++ y ∷ after → ((before ≡ xs) × (x ≡ y)) ⊎ ((rest : List X) × (xs ≡ before ++ y ∷ rest))
split_cases [] x [] y after same = inl (refl, ap (λ zs. get_or zs 0 x) same)
split_cases [] x (z ∷ before) y after same = absurd (too_long before y after (ap length (ap (drop 1) same)))
split_cases (z ∷ xs) x [] y after same = inr (xs, ap (λ w. w ∷ xs) (ap (λ zs. get_or zs 0 z) same))
split_cases (z ∷ xs) x (w ∷ before) y after same =
    let head : z ≡ w = ap (λ zs. get_or zs 0 z) same in
    elim (split_cases xs x before y after (ap (drop 1) same)) [
      | inl (is, item) ↦ inl ((λ i. sym head i ∷ is i), item)
      | inr (rest, is) ↦ inr (rest, (λ i. head i ∷ is i))
    ]

-- the receipts in a history with one entry more
pub receipts_more : (taken : List Envelope) (entries : List Entry) (e : Entry) → AreOfTaken taken entries → ((i : Instance) → e.event ≡ Receive i → IsReceiptOfTaken taken entries i e) → AreOfTaken taken (entries ++ e ∷ [])
receipts_more taken entries e all last before after f i split is = elim (split_cases entries e before f after split) [
  | inl (same, item) ↦ subst (λ (es : List Entry). IsReceiptOfTaken taken es i f) (sym same) (subst (λ (g : Entry). IsReceiptOfTaken taken entries i g) item (last i (ap (λ (g : Entry). g.event) item ∙ is)))
  | inr (rest, same) ↦ all before rest f i same is
]

-- with a copy less an envelope still has the message of a taken one
held_spent : (taken held : List Envelope) (i : ℕ) (e : Envelope) → All (HasTakenMessage taken) held → slice_get held i ≡ Some e → All (HasTakenMessage taken) (after_spending held i e)
held_spent taken held i e all at =
    let P = HasTakenMessage taken in
    let is : HasTakenMessage taken e = All-contains P held e all (member_at held i e at) in
    ⊎_elim
    (λ (last : (e.copies == 1) ≡ true). rw last (All-append P (take i held) (drop (suc i) held) (All-take P i held all) (All-drop P (suc i) held all)))
    (λ (more : (e.copies == 1) ≡ false). rw more (All-set P held i (record e { copies = e.copies - 1 }) (record { envelope = is.envelope; among = is.among; message_is = is.message_is }) all))
    (cases_Bool (e.copies == 1))

held_left : (taken : List Envelope) (old new : Inbox) (i : ℕ) (e : Envelope) (r : Receipt) → All (HasTakenMessage taken) old.envelopes → slice_get old.envelopes i ≡ Some e → IsSpent r old i e new → All (HasTakenMessage taken) new.envelopes
held_left taken old new i e Fresh all at spent = subst (All (HasTakenMessage taken)) (sym spent.envelopes) (held_spent taken old.envelopes i e all at)
held_left taken old new i e Repeat all at spent = subst (All (HasTakenMessage taken)) (sym spent.envelopes) (held_spent taken old.envelopes i e all at)
held_left taken old new i e (Differs p kept arrived) all at same = subst (λ (inbox : Inbox). All (HasTakenMessage taken) inbox.envelopes) (sym same) all

-- the store after the message of a taken envelope: its receipts go back to taken ones, and it has
-- posted what it had
store_taken : (job : Job) (role : ℕ) (taken : List Envelope) (old new : StoreState) (e : Envelope) (r : Receipt) → HasTakenMessage taken e → IsReceipt old e.message r new → AreOfTaken taken old.entries
    → AreOfTaken taken new.entries × ((q : ℕ) → posted_by job role q old.entries ≡ posted_by job role q new.entries)
store_taken job role taken old new e Fresh comes receipt all =
    let m = e.message in
    let entry : Entry = record { event = Receive m.instance; stamp = max (last_stamp old.entries) m.stamp + 1; number = m.number } in
    let longer : new.entries ≡ old.entries ++ entry ∷ [] = ap (λ (s : StoreState). s.entries) receipt.2 in
    let last : (i : Instance) → entry.event ≡ Receive i → IsReceiptOfTaken taken old.entries i entry = λ i is. record {
      envelope = comes.envelope;
      among = comes.among;
      instance_is = ap (λ s. s.instance) comes.message_is ∙ cc is;
      number_is = ap (λ s. s.number) (sym comes.message_is);
      stamped = ap (λ s. max (last_stamp old.entries) s.stamp + 1) (sym comes.message_is);
    } in (
      subst (AreOfTaken taken) (sym longer) (receipts_more taken old.entries entry all last),
      λ q. sym (posted_receipt job role q old.entries m.instance entry.stamp m.number) ∙ ap (posted_by job role q) (sym longer),
    )
store_taken job role taken old new e Repeat comes receipt all =
    let same : old.entries ≡ new.entries = ap (λ (s : StoreState). s.entries) (sym receipt.1) in
    (subst (AreOfTaken taken) same all, λ q. ap (posted_by job role q) same)
store_taken job role taken old new e (Differs p kept arrived) comes receipt all =
    let same : old.entries ≡ new.entries = ap (λ (s : StoreState). s.entries) (sym receipt.2) in
    (subst (AreOfTaken taken) same all, λ q. ap (posted_by job role q) same)

-- a state stays kept when its desk takes an envelope
pub taken_keeps : (job : Job) (role : ℕ) (boxes : List BoxId) (s : StateView) (d : DeskState) (g : Lcg) (r : Option Receipt) → IsStateKept job role boxes s → IsKept job role d → IsTaking g s.desk r d → IsStateKept job role boxes (record s { desk = d })
taken_keeps job role boxes s d g None kept new taking = subst (λ (x : DeskState). IsStateKept job role boxes (record s { desk = x })) (sym taking.1) kept
taken_keeps job role boxes s d g (Some r) kept new taking =
    let taken = taken_of s in
    let e = taking.envelope in
    let held = s.desk.inbox.envelopes in
    let comes : HasTakenMessage taken e = All-contains (HasTakenMessage taken) held e kept.of_taken.inbox (member_at held (picked_index g s.desk.inbox) e taking.picked) in
    let after = store_taken job role taken s.desk.store d.store e r comes taking.receipt kept.of_taken.receipts in
    record {
      desk = new;
      known = kept.known;
      roles = kept.roles;
      passes = same_posts boxes role (λ q. posted_by job role q s.desk.store.entries) (λ q. posted_by job role q d.store.entries) taken s.passes after.1 kept.passes;
      posted = kept.posted;
      of_taken = record {
        receipts = after.0;
        inbox = held_left taken s.desk.inbox d.inbox (picked_index g s.desk.inbox) e r kept.of_taken.inbox taking.picked taking.spent;
      };
    }

none_split : {X : Type 0} (xs before : List X) (y : X) (after : List X) → xs ≡ [] → xs ≡ before ++ y ∷ after → ⊥
none_split xs before y after none split = too_long before y after (ap length (sym none ∙ split))

-- a new state is kept
pub new_kept : NewStatesAreKept
new_kept job role boxes s new =
    let untaken : taken_of s ≡ [] = ap (λ (p : PassState). p.hold.taken) (new.fresh.own _ (slice_get-get_or boxes role s.passes.own.box new.known)) in
    record {
      desk = new.desk;
      known = new.known;
      roles = new.roles;
      passes = subst (λ (l : List Envelope). ArePasses boxes role (λ q. posted_by job role q s.desk.store.entries) l s.passes) (sym untaken)
          (subst (λ (es : List Entry). ArePasses boxes role (λ q. posted_by job role q es) [] s.passes) (sym new.no_entries) new.fresh);
      posted = subst (All (λ e. IsPosted job e.from role e)) (sym untaken) (All-nil (λ e. IsPosted job e.from role e));
      of_taken = record {
        receipts = λ before after e i split is. absurd (none_split s.desk.store.entries before e after new.no_entries split);
        inbox = subst (All (HasTakenMessage (taken_of s))) (sym new.no_envelopes) (All-nil (HasTakenMessage (taken_of s)));
      };
    }
