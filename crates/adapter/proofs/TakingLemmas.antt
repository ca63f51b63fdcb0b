-- What a desk keeps when a message is taken.
use Rattle.std.proofs.Common.{◌≡◌, ◌≢◌, ℕ, suc, ◌+◌, ◌-◌, ◌<◌, true, false, List, [], ◌∷◌, length, take, drop, Some, slice_get, refl, sym, ◌∙◌, ap, subst, arith, ⊎_elim, All, Contains}
use Rattle.std.specs.Prelude.{◌==◌, max}
use Rattle.std.specs.List.{zip}
use Rattle.std.proofs.lemmas.Bool.{cases_Bool, true≢false}
use Rattle.std.proofs.lemmas.Bool.Decides.{Decides-eqb}
use Rattle.std.proofs.lemmas.List.Elements.{All-append, All-contains, All-drop, All-set, All-take}
use Rattle.list_base.proofs.Members.{here, there}
use Rattle.list_base.proofs.Membership.{member_at}
use Rattle.bspl_types.specs.declared.envelope.Envelope.{Envelope}
use Rattle.bspl_types.specs.declared.event.Event.TheVariants.{Emit, Receive}
use Rattle.bspl_types.specs.declared.event.Instance.{Instance}
use Rattle.bspl_types.specs.declared.expanded.Expanded.{Expanded}
use Rattle.bspl_types.specs.declared.protocol.Carried.{Carried}
use Rattle.bspl_types.specs.declared.value.Value.{Value}
use Rattle.bspl_types.specs.Adornment.{valued}
use Rattle.bspl_types.specs.Expansion.{message_of}
use Rattle.bspl_types.specs.History.{instance_of, role_of}
use Rattle.bspl_types.specs.Instance.{Fits, pairs}
use Rattle.bspl_types.specs.Value.{EqualValuesAreOne}
use Rattle.stamped_history.specs.Entries.{last_stamp}
use Rattle.agent_scripts.specs.Job.{Job}
use Rattle.local_store.specs.declared.receipt.Receipt.{Receipt}
use Rattle.local_store.specs.declared.receipt.Receipt.TheVariants.{Fresh, Repeat, Differs}
use Rattle.local_store.specs.Consistent.{IsConsistent}
use Rattle.local_store.specs.Reception.{Agrees, AllAgree, IsReceipt, with_receipt}
use Rattle.local_store.specs.State.{StoreState, acts_of}
use Rattle.stamped_history.specs.PlayedLaws.{PlayedGrows}
use Rattle.reorder_net.specs.Inbox.{Inbox, after_spending}
use Rattle.adapter.specs.Desk.{DeskState}
use Rattle.adapter.specs.Kept.{IsFor, IsKept}
use Rattle.adapter.specs.Steps.{IsSpent}
use Rattle.adapter.specs.inner.Received.{IsAwaited, Receives}
use Rattle.adapter.proofs.EventLemmas.{two_roles, with_event}
use Rattle.adapter.proofs.InboxLemmas.{with_inbox}
use Rattle.adapter.proofs.PendingLemmas.{HasNone}

-- with a copy less an envelope is still for the role
fewer_copies : (job : Job) (role : ℕ) (e : Envelope) → IsFor job role e → 0 < e.copies - 1 → IsFor job role (record e { copies = e.copies - 1 })
fewer_copies job role e is some = record { fits = is.fits; to_role = is.to_role; own = is.own; workload = is.workload; arrives = is.arrives; some = some }

-- so what is held after a copy is spent is for the role
pub after_spent : (job : Job) (role : ℕ) (held : List Envelope) (i : ℕ) (e : Envelope) → All (IsFor job role) held → slice_get held i ≡ Some e → All (IsFor job role) (after_spending held i e)
after_spent job role held i e all at =
    let is : IsFor job role e = All-contains (IsFor job role) held e all (member_at held i e at) in
    let some : 0 < e.copies = is.some in
    ⊎_elim
    (λ (last : (e.copies == 1) ≡ true). rw last (All-append (IsFor job role) (take i held) (drop (suc i) held) (All-take (IsFor job role) i held all) (All-drop (IsFor job role) (suc i) held all)))
    (λ (more : (e.copies == 1) ≡ false).
    let apart : e.copies ≢ 1 = λ one. true≢false (sym ((Decides-eqb e.copies 1).1 one) ∙ more) in
    rw more (All-set (IsFor job role) held i (record e { copies = e.copies - 1 }) (fewer_copies job role e is (omega (arith, apart, some))) all))
    (cases_Bool (e.copies == 1))

-- the same of what the answer leaves
pub left_held : (job : Job) (role : ℕ) (old new : Inbox) (i : ℕ) (e : Envelope) (r : Receipt) → All (IsFor job role) old.envelopes → slice_get old.envelopes i ≡ Some e → IsSpent r old i e new → All (IsFor job role) new.envelopes
left_held job role old new i e Fresh all at spent = subst (All (IsFor job role)) (sym spent.envelopes) (after_spent job role old.envelopes i e all at)
left_held job role old new i e Repeat all at spent = subst (All (IsFor job role)) (sym spent.envelopes) (after_spent job role old.envelopes i e all at)
left_held job role old new i e (Differs p kept arrived) all at same = subst (λ (inbox : Inbox). All (IsFor job role) inbox.envelopes) (sym same) all

-- the values of two instances are one list if each pair is one
pub same_values : (cs : List Carried) (vs ws : List Value) → length vs ≡ length cs → length ws ≡ length cs → ((c : Carried) (v w : Value) → Contains (zip cs vs) (c, v) → Contains (zip cs ws) (c, w) → v ≡ w) → vs ≡ ws
same_values [] [] [] first second each = refl
same_values [] (v ∷ vs) ws first second each = absurd (omega (arith, first))
same_values [] [] (w ∷ ws) first second each = absurd (omega (arith, second))
same_values (c ∷ cs) [] ws first second each = absurd (omega (arith, first))
same_values (c ∷ cs) (v ∷ vs) [] first second each = absurd (omega (arith, second))
same_values (c ∷ cs) (v ∷ vs) (w ∷ ws) first second each =
    let fewer : length vs ≡ length cs = omega (arith, first) in
    let fewer_too : length ws ≡ length cs = omega (arith, second) in
    λ i. each c v w (here (c, v) (zip cs vs)) (here (c, w) (zip cs ws)) i ∷ same_values cs vs ws fewer fewer_too (λ d u t one other. each d u t (there (c, v) (zip cs vs) (d, u) one) (there (c, w) (zip cs ws) (d, t) other)) i

-- a new message that agrees with what is known has no event under its key
none_received : (s : StoreState) (i : Instance) → IsConsistent s → Fits s.protocol i → (message_of s.protocol i.message).receiver ≡ s.role → AllAgree s.protocol (acts_of s) i → ¬ Contains (acts_of s) (Receive i) → HasNone (acts_of s) i.key i.message
none_received s i consistent fits own agree never (Emit j) among under is =
    let sends = All-contains (λ e. role_of s.protocol e ≡ s.role) (acts_of s) (Emit j) consistent.local.own among in
    two_roles s.protocol i.message consistent.admitted fits.known (ap (λ m. (message_of s.protocol m).sender) (sym is) ∙ sends ∙ sym own)
none_received s i consistent fits own agree never (Receive j) among under is =
    let x = s.protocol in
    let fits_j = All-contains (λ e. Fits x (instance_of e)) (acts_of s) (Receive j) consistent.local.fits among in
    let cs = valued (message_of x i.message).carried in
    let same_zip = ap (λ m. zip (valued (message_of x m).carried) j.values) is in
    let values : j.values ≡ i.values = same_values cs j.values i.values (fits_j.each_value ∙ ap (λ m. length (valued (message_of x m).carried)) is) fits.each_value
    (λ c v w one other. All-contains (Agrees x (acts_of s) i.key) (pairs x i) (c, w) agree other v
    (record { event = Receive j; among = among; under = under; adornment = c.adornment; carries = subst (λ ps. Contains ps (c, v)) (sym same_zip) one })) in
    never (subst (Contains (acts_of s)) (λ k. Receive (record { message = is k; key = under k; values = values k })) among)

-- a message that the store received leaves the desk kept
pub with_message : PlayedGrows → EqualValuesAreOne → (job : Job) (role : ℕ) (d : DeskState) (e : Envelope) → IsKept job role d → IsFor job role e → ¬ Contains (acts_of d.store) (Receive e.message.instance) → AllAgree d.store.protocol (acts_of d.store) e.message.instance → IsConsistent (with_receipt d.store e.message) → IsKept job role (record d { store = with_receipt d.store e.message })
with_message grows equal job role d e kept is never agree consistent =
    let i = e.message.instance in
    let fits : Fits d.store.protocol i = subst (λ (x : Expanded). Fits x i) (sym kept.protocol_is) is.fits in
    let own : (message_of d.store.protocol i.message).receiver ≡ d.store.role = subst (λ (x : Expanded). (message_of x i.message).receiver ≡ d.store.role) (sym kept.protocol_is) (is.own ∙ sym kept.role_is) in
    with_event grows equal job role d (Receive i) (max (last_stamp d.store.entries) e.message.stamp + 1) e.message.number kept is.workload is.fits.known is.own
    (none_received d.store i kept.consistent fits own agree never)
    (record { kept = is.arrives; once = never })
    consistent

-- whatever the store answers, the desk is kept
pub after_receipt : PlayedGrows → EqualValuesAreOne → (job : Job) (role : ℕ) (d : DeskState) (e : Envelope) (r : Receipt) (store : StoreState) → IsKept job role d → IsFor job role e → IsReceipt d.store e.message r store → IsConsistent store → IsKept job role (record d { store = store })
after_receipt grows equal job role d e Fresh store kept is receipt consistent =
    subst (λ (s : StoreState). IsKept job role (record d { store = s })) (sym receipt.2)
    (with_message grows equal job role d e kept is receipt.0 receipt.1 (subst IsConsistent receipt.2 consistent))
after_receipt grows equal job role d e Repeat store kept is receipt consistent =
    subst (λ (s : StoreState). IsKept job role (record d { store = s })) (sym receipt.1) kept
after_receipt grows equal job role d e (Differs p known arrived) store kept is receipt consistent =
    subst (λ (s : StoreState). IsKept job role (record d { store = s })) (sym receipt.2) kept

-- the message of an envelope for the role is awaited
pub awaited : (job : Job) (role : ℕ) (d : DeskState) (e : Envelope) → IsKept job role d → IsFor job role e → IsAwaited d.store e.message
awaited job role d e kept is clock stamp = record {
  fits = subst (λ (x : Expanded). Fits x e.message.instance) (sym kept.protocol_is) is.fits;
  own = ap (λ (x : Expanded). (message_of x e.message.instance.message).receiver) kept.protocol_is ∙ is.own ∙ sym kept.role_is;
  held = All-contains (Contains d.store.keys) job.script.keys e.message.instance.key kept.held is.workload;
  spare = omega (arith, kept.room);
  clock = clock;
  stamp = stamp;
}

-- once it is received and a copy is spent, the desk is kept
pub taken_kept : PlayedGrows → EqualValuesAreOne → (job : Job) (role : ℕ) (d : DeskState) (i : ℕ) (e : Envelope) (r : Receipt) (store : StoreState) (inbox : Inbox) → IsKept job role d → slice_get d.inbox.envelopes i ≡ Some e → Receives d.store e.message (Some r) store → IsConsistent store → IsSpent r d.inbox i e inbox → IsKept job role (record { store = store; inbox = inbox })
taken_kept grows equal job role d i e r store inbox kept at receives consistent spent =
    let is : IsFor job role e = All-contains (IsFor job role) d.inbox.envelopes e kept.inbox (member_at d.inbox.envelopes i e at) in
    with_inbox job role (record d { store = store }) inbox (after_receipt grows equal job role d e r store kept is receives.2 consistent)
    (left_held job role d.inbox inbox i e r kept.inbox at spent)
