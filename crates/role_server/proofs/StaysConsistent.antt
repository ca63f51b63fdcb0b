-- What a line asks for leaves the store consistent.
use Rattle.std.proofs.Common.{◌≡◌, ◌≢◌, ℕ, ◌+◌, ◌<◌, List, [], ◌∷◌, ◌++◌, length, max, sym, subst, arith, inl, inr, length-append}
use Rattle.std.specs.List.{Contains}
use Rattle.std.proofs.lemmas.List.Elements.{All-push, All-weaker, Contains-append_left, Contains-get_or}
use Rattle.std.proofs.lemmas.List.Quantifiers.{all_pairs_push}
use Rattle.bspl_types.specs.declared.event.Event.{Event}
use Rattle.bspl_types.specs.declared.event.Event.TheVariants.{Emit, Receive}
use Rattle.bspl_types.specs.declared.value.Value.{Value}
use Rattle.bspl_types.specs.History.{instance_of}
use Rattle.bspl_types.specs.Value.{EqualValuesAreOne}
use Rattle.list_base.specs.Lines.{Line}
use Rattle.local_store.specs.declared.receipt.Receipt.{Receipt}
use Rattle.local_store.specs.declared.receipt.Receipt.TheVariants.{Fresh, Repeat, Differs}
use Rattle.local_store.specs.Consistent.{IsConsistent}
use Rattle.local_store.specs.Laws.{ReceiptStaysLocal}
use Rattle.local_store.specs.Reception.{IsReceipt}
use Rattle.local_store.specs.State.{AddsKey, StoreState, with_entry}
use Rattle.stamped_history.specs.declared.entry.Entry.{Entry}
use Rattle.stamped_history.specs.Entries.{last_stamp}
use Rattle.stamped_history.specs.Local.{IsLocal}
use Rattle.bspl_types.specs.declared.envelope.Stamped.{Stamped}
use Rattle.wire_form.specs.declared.act.Act.{Act}
use Rattle.wire_form.specs.declared.act.Act.TheVariants.{Arrival, Attempt}
use Rattle.wire_form.specs.declared.reply.Reply.{Reply}
use Rattle.wire_form.specs.Meaning.{AsksFor}
use Rattle.role_server.specs.Replies.{Acts, AnswersAct, Emits, Replies, answered, act_key, done, in_vain, last, no_room, nothing}
use Rattle.role_server.specs.inner.Acts.{HoldsKey, IsOwn}
use Rattle.role_server.proofs.ActLemmas.{held_before, held_then, own_act, own_key, some_spare}
use Rattle.role_server.proofs.OneReply.{LowerLaws, held_or_not}

-- one more key
with_key : (s : StoreState) (key : List Value) → IsConsistent s → length key ≡ length s.protocol.keys → ¬ Contains s.keys key → IsConsistent (record s { keys = s.keys ++ key ∷ [] })
with_key s key kept whole fresh = record {
  admitted = kept.admitted;
  known_role = kept.known_role;
  keys = record {
    distinct = all_pairs_push ◌≢◌ s.keys key kept.keys.distinct (λ k d within same. fresh (subst (Contains s.keys) same (Contains-get_or s.keys k d within)));
    whole = All-push (λ k. length k ≡ length s.protocol.keys) s.keys key kept.keys.whole whole;
  };
  held = All-weaker (λ (e : Entry). Contains s.keys (instance_of e.event).key) (λ (e : Entry). Contains (s.keys ++ key ∷ []) (instance_of e.event).key) (λ e held. Contains-append_left s.keys (key ∷ []) (instance_of e.event).key held) s.entries kept.held;
  local = kept.local;
  few = kept.few;
}

-- the key of an act is held then, and the store is consistent
pub holds : EqualValuesAreOne → (s : StoreState) (key : List Value) (held : StoreState) → AddsKey s key held → HoldsKey s key held
holds one s key held adds = elim (held_or_not one s.keys key) [
  | inl is ↦ subst (HoldsKey s key) (sym (adds.again is)) (held_before s key is)
  | inr fresh ↦ held_then s held key fresh adds
]

pub held_consistent : EqualValuesAreOne → (s : StoreState) (key : List Value) (held : StoreState) → IsConsistent s → length key ≡ length s.protocol.keys → AddsKey s key held → IsConsistent held
held_consistent one s key held kept whole adds = elim (held_or_not one s.keys key) [
  | inl is ↦ subst IsConsistent (sym (adds.again is)) kept
  | inr fresh ↦ subst IsConsistent (sym (adds.first fresh)) (with_key s key kept whole fresh)
]

-- one more event, with which the history is local
with_event : (s : StoreState) (event : Event) (stamp number : ℕ) → IsConsistent s → 0 < s.spare → Contains s.keys (instance_of event).key → IsLocal s.protocol s.role (s.entries ++ record { event = event; stamp = stamp; number = number } ∷ []) → IsConsistent (with_entry s event stamp number)
with_event s event stamp number kept spare held local =
    let entry : Entry = record { event = event; stamp = stamp; number = number } in
    record {
      admitted = kept.admitted;
      known_role = kept.known_role;
      keys = kept.keys;
      held = All-push (λ (e : Entry). Contains s.keys (instance_of e.event).key) s.entries entry kept.held held;
      local = local;
      few = omega (arith, kept.few, spare, length-append s.entries (entry ∷ []));
    }

-- what is emitted
emits_consistent : LowerLaws → (held : StoreState) (message : ℕ) (key outs : List Value) (reply : Reply) (new : StoreState) → IsConsistent held → 0 < held.spare → Contains held.keys key → IsOwn held.protocol held.role (Attempt message key outs) → Emits held message key outs reply new → IsConsistent new
emits_consistent laws held message key outs reply new kept spare has own e =
    let local = laws.emission held e.sent message key outs kept e.can own.own e.emission in
    subst IsConsistent (sym e.entry) (with_event held (Emit e.sent.instance) e.sent.stamp e.sent.number kept spare (subst (Contains held.keys) (sym e.emission.key_is) has) local)

-- what is received
receives_consistent : ReceiptStaysLocal → (held : StoreState) (m : Stamped) (receipt : Receipt) (new : StoreState) → IsConsistent held → 0 < held.spare → Contains held.keys m.instance.key → IsOwn held.protocol held.role (Arrival m) → IsReceipt held m receipt new → IsConsistent new
receives_consistent law held m Fresh new kept spare has own is =
    let stamp : ℕ = max (last_stamp held.entries) m.stamp + 1 in
    let local = law held m stamp kept own.fits own.own is.0 is.1 (omega arith) in
    subst IsConsistent (sym is.2) (with_event held (Receive m.instance) stamp m.number kept spare has local)
receives_consistent law held m Repeat new kept spare has own is = subst IsConsistent (sym is.1) kept
receives_consistent law held m (Differs param before arrived) new kept spare has own is = subst IsConsistent (sym is.2) kept

-- what was done
acts_consistent : LowerLaws → (held : StoreState) (act : Act) (reply : Reply) (new : StoreState) → IsConsistent held → 0 < held.spare → Contains held.keys (act_key act) → IsOwn held.protocol held.role act → Acts held act reply new → IsConsistent new
acts_consistent laws held (Arrival m) reply new kept spare has own r = receives_consistent laws.receipt held m r.receipt new kept spare has own r.received
acts_consistent laws held (Attempt message key outs) reply new kept spare has own (inl e) = emits_consistent laws held message key outs reply new kept spare has own e
acts_consistent laws held (Attempt message key outs) reply new kept spare has own (inr b) = subst IsConsistent (sym b.same) kept

-- what was answered
answers_consistent : (most : ℕ) → LowerLaws → (s : StoreState) (act : Act) (reply : Reply) (new : StoreState) → IsConsistent s → IsOwn s.protocol s.role act → AnswersAct most s act reply new → IsConsistent new
answers_consistent most laws s act reply new kept own (no_room none is same) = subst IsConsistent (sym same) kept
answers_consistent most laws s act reply new kept own (last room at is same) = subst IsConsistent (sym same) kept
answers_consistent most laws s act reply new kept own (done room before d) =
    let has = holds laws.keys s (act_key act) d.held d.adds in
    let held = held_consistent laws.keys s (act_key act) d.held kept (own_key s.protocol s.role act own) d.adds in
    let spare = subst (λ (t : StoreState). 0 < t.spare) (sym has.same) (some_spare most s (act_key act) room) in
    let own_too = subst (λ (t : StoreState). IsOwn t.protocol t.role act) (sym has.same) own in
    acts_consistent laws d.held act reply new held spare has.held own_too d.acts

-- so is the store after each line
pub replies_consistent : (most : ℕ) → LowerLaws → (s : StoreState) (line : Line) (reply : Reply) (new : StoreState) → IsConsistent s → Replies most s line reply new → IsConsistent new
replies_consistent most laws s line reply new kept (nothing none is same) = subst IsConsistent (sym same) kept
replies_consistent most laws s line reply new kept (in_vain vain is same) = subst IsConsistent (sym same) kept
replies_consistent most laws s line reply new kept (answered act asks answers) = answers_consistent most laws s act reply new kept (own_act s.protocol s.role line act asks) answers

-- and the store that holds the key of what a line asks for
pub asked_consistent : LowerLaws → (s : StoreState) (line : Line) → IsConsistent s → (act : Act) (held : StoreState) → AsksFor s.protocol s.role line act → AddsKey s (act_key act) held → IsConsistent held
asked_consistent laws s line kept act held asks adds =
    held_consistent laws.keys s (act_key act) held kept (own_key s.protocol s.role act (own_act s.protocol s.role line act asks)) adds
