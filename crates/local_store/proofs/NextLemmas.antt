-- When an entry may come next, and what is foreseen of a message.
use Rattle.std.proofs.Common.{◌≡◌, ℕ, ◌+◌, ◌<◌, List, [], ◌∷◌, length, Some, slice_get, sym, ap, ◌∙◌, subst}
use Rattle.std.specs.List.{Contains}
use Rattle.std.proofs.lemmas.List.Elements.{All-contains, Contains-append_right}
use Rattle.std.proofs.lemmas.Option.{get_or_from_slice_get}
use Rattle.list_base.proofs.Filtered.{filtered_member}
use Rattle.list_base.proofs.Members.{here}
use Rattle.list_base.proofs.Partners.{zipped_member}
use Rattle.bspl_types.specs.declared.envelope.Stamped.{Stamped}
use Rattle.bspl_types.specs.declared.event.Event.{Event}
use Rattle.bspl_types.specs.declared.event.Instance.{Instance}
use Rattle.bspl_types.specs.declared.protocol.Adornment.TheVariants.{In}
use Rattle.bspl_types.specs.declared.protocol.Carried.{Carried}
use Rattle.bspl_types.specs.declared.value.Value.{Value}
use Rattle.bspl_types.specs.Adornment.{has_value, valued}
use Rattle.bspl_types.specs.Expansion.{Adorns, message_of}
use Rattle.bspl_types.specs.History.{instance_of, role_of}
use Rattle.bspl_types.specs.Instance.{Carries, Fits, pairs}
use Rattle.bspl_types.specs.Knowledge.{CanEmit, Knows}
use Rattle.stamped_history.specs.declared.entry.Entry.{Entry}
use Rattle.stamped_history.specs.Entries.{last_stamp}
use Rattle.stamped_history.specs.Local.{MayEmit, MayFollowAs}
use Rattle.local_store.specs.declared.act.Kind.{Kind}
use Rattle.local_store.specs.declared.receipt.Receipt.{Receipt}
use Rattle.local_store.specs.declared.receipt.Receipt.TheVariants.{Fresh, Repeat, Differs}
use Rattle.local_store.specs.Reception.{Agrees, AllAgree, IsForeseen}
use Rattle.local_store.specs.State.{StoreState, acts_of, key_at}
use Rattle.local_store.specs.inner.Acts.{event_as}
use Rattle.local_store.specs.inner.Appended.{IsAppendable}
use Rattle.local_store.specs.inner.Difference.{NamesDifference}
use Rattle.local_store.specs.inner.Kept.{IsSound}
use Rattle.local_store.proofs.LocalLemmas.{MayComeLast}
use Rattle.local_store.proofs.ReceiptLemmas.{differs_receipt}

-- a difference is foreseen
pub differs_foreseen : (s : StoreState) (m : Stamped) → IsSound s → (r : Receipt) → NamesDifference s.protocol (acts_of s) m.instance r → IsForeseen s m r
differs_foreseen s m sound Fresh names = absurd names
differs_foreseen s m sound Repeat names = absurd names
differs_foreseen s m sound (Differs p kept arrived) first =
    let receipt = differs_receipt s m sound (Differs p kept arrived) first in
    (receipt.0, receipt.1)

-- a parameter that the instance carries is one of its message
adorns : (s : StoreState) (i : Instance) (p : ℕ) (v : Value) → Carries s.protocol i In p v → Adorns s.protocol i.message In p
adorns s i p v carries =
    let carried = (message_of s.protocol i.message).carried in
    let c : Carried = record { param = p; adornment = In } in
    (filtered_member (λ d. has_value d.adornment) carried c (zipped_member (valued carried) i.values c v carries)).0

-- an emission that can be made, with the known values, the next stamp and its own index, may follow
pub emission_may_follow : (s : StoreState) (i : Instance) (stamp number : ℕ) → AllAgree s.protocol (acts_of s) i → CanEmit s.protocol (acts_of s) i.message i.key → stamp ≡ last_stamp s.entries + 1 → number ≡ length s.entries → MayEmit s.protocol s.entries i stamp number
emission_may_follow s i stamp number agree can next own = record {
  enabled = record {
    can = can;
    same = λ p v carries.
        let known = can.ins p (adorns s i p v carries) in
        let is : known.0 ≡ v = All-contains (Agrees s.protocol (acts_of s) i.key) (pairs s.protocol i) (record { param = p; adornment = In }, v) agree carries known.0 known.1 in
        subst (λ (w : Value). Knows s.protocol (acts_of s) i.key p w) is known.1;
  };
  next = next;
  own = own;
}

-- an entry that may come last can be appended
pub appendable : (s : StoreState) (e : Entry) (kind : Kind) (row : ℕ) (i : Instance) → i ≡ instance_of e.event → event_as kind i ≡ e.event → slice_get s.keys row ≡ Some i.key → MayComeLast s.protocol s.role s.entries e → 0 < s.spare → IsAppendable s kind row i e.stamp e.number
appendable s e kind row i same event key last spare = record {
  key_is = key;
  fits = subst (Fits s.protocol) (sym same) last.fits;
  own = ap (role_of s.protocol) event ∙ last.own;
  follows = subst (λ (ev : Event). MayFollowAs s.protocol s.entries ev e.stamp e.number) (sym event) last.follows;
  agree = subst (AllAgree s.protocol (acts_of s)) (sym same) last.agree;
  spare = spare;
}

-- what is blocked may not be emitted
pub blocked_stays : (s : StoreState) (row : ℕ) (i : Instance) (stamp number : ℕ) → slice_get s.keys row ≡ Some i.key → (CanEmit s.protocol (acts_of s) i.message (key_at s row) → ⊥) → MayEmit s.protocol s.entries i stamp number → ⊥
blocked_stays s row i stamp number key cannot may =
    cannot (subst (λ (k : List Value). CanEmit s.protocol (acts_of s) i.message k) (sym (get_or_from_slice_get s.keys row i.key [] key)) may.enabled.can)

-- what is not may follow, with the next stamp and its own index
pub unblocked_follows : (s : StoreState) (row : ℕ) (i : Instance) (stamp number : ℕ) → slice_get s.keys row ≡ Some i.key → AllAgree s.protocol (acts_of s) i → CanEmit s.protocol (acts_of s) i.message (key_at s row) → stamp ≡ last_stamp s.entries + 1 → number ≡ length s.entries → MayEmit s.protocol s.entries i stamp number
unblocked_follows s row i stamp number key agree can next own =
    emission_may_follow s i stamp number agree (subst (λ (k : List Value). CanEmit s.protocol (acts_of s) i.message k) (get_or_from_slice_get s.keys row i.key [] key) can) next own

-- a value that differs does not agree
pub named_differs : (s : StoreState) (i : Instance) (r : Receipt) → NamesDifference s.protocol (acts_of s) i r → AllAgree s.protocol (acts_of s) i → ⊥
named_differs s i Fresh names agree = names
named_differs s i Repeat names agree = names
named_differs s i (Differs p kept arrived) first agree =
    let x = s.protocol in
    let among : Contains (pairs x i) first.differing = subst (λ ps. Contains ps first.differing) (sym first.split) (Contains-append_right first.before (first.differing ∷ first.after) first.differing (here first.differing first.after)) in
    let known : Knows x (acts_of s) i.key first.differing.0.param kept = subst (λ (q : ℕ). Knows x (acts_of s) i.key q kept) first.param_is first.knows in
    first.differs (All-contains (Agrees x (acts_of s) i.key) (pairs x i) first.differing agree among kept known ∙ sym first.arrived_is)
