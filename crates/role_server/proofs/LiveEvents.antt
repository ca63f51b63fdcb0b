-- Which acts of a live role make an event, and what its store is after one that makes none.
use Rattle.std.proofs.Common.{◌≡◌, ◌≢◌, ℕ, true, false, List, [], ◌∷◌, ◌++◌, refl, sym, ap, subst, ◌∙◌, inl, inr}
use Rattle.std.specs.List.{All, Contains}
use Rattle.std.proofs.lemmas.Bool.{cases_Bool, cond-false, cond-true, true≢false}
use Rattle.std.proofs.lemmas.List.Elements.{All-contains, All-map, All-weaker, Contains-append_right}
use Rattle.list_base.proofs.Members.{here}
use Rattle.bspl_types.specs.declared.envelope.Stamped.{Stamped}
use Rattle.bspl_types.specs.declared.event.Event.{Event}
use Rattle.bspl_types.specs.declared.event.Event.TheVariants.{Receive}
use Rattle.bspl_types.specs.declared.expanded.Expanded.{Expanded}
use Rattle.bspl_types.specs.declared.protocol.Adornment.TheVariants.{In, Out, Nil}
use Rattle.bspl_types.specs.declared.protocol.Carried.{Carried}
use Rattle.bspl_types.specs.declared.value.Value.{Value}
use Rattle.bspl_types.specs.Expansion.{message_of}
use Rattle.bspl_types.specs.History.{instance_of}
use Rattle.bspl_types.specs.Knowledge.{IsKnown}
use Rattle.local_store.specs.Consistent.{IsConsistent}
use Rattle.local_store.specs.declared.receipt.Receipt.{Receipt}
use Rattle.local_store.specs.declared.receipt.Receipt.TheVariants.{Fresh, Repeat, Differs}
use Rattle.local_store.specs.Reception.{IsReceipt}
use Rattle.local_store.specs.State.{AddsKey, StoreState, acts_of}
use Rattle.role_knowledge.specs.declared.block.Block.{Block}
use Rattle.role_knowledge.specs.declared.block.Block.TheVariants.{Missing, Bound}
use Rattle.role_knowledge.specs.Blocked.{IsBlockOf, IsFirstBlock, IsPermitted, Permits}
use Rattle.stamped_history.specs.declared.entry.Entry.{Entry}
use Rattle.wire_form.specs.declared.act.Act.{Act}
use Rattle.wire_form.specs.declared.act.Act.TheVariants.{Arrival, Attempt}
use Rattle.wire_form.specs.declared.reply.Reply.{Reply}
use Rattle.wire_form.specs.declared.reply.Reply.TheVariants.{Blocked, Received}
use Rattle.role_server.specs.Live.{with_live_room}
use Rattle.role_server.specs.Replies.{Acts, Blocks, act_key}
use Rattle.role_server.specs.Served.{tells_event}
use Rattle.role_server.specs.inner.LiveActs.{BlocksFirst, DoesLive, HasGrown, IsFirstIn, NeedsNothing}
use Rattle.role_server.proofs.LiveLemmas.{live_acts, live_adds, live_grown}
use Rattle.role_server.proofs.OneEmission.{known_from_first}

-- no event is under the key
abbrev pub IsUnused : List Event → List Value → Type 0
IsUnused history key = (e : Event) → Contains history e → (instance_of e).key ≢ key

-- a key that is not held is unused
pub unheld_unused : (s : StoreState) (key : List Value) → IsConsistent s → (¬ Contains s.keys key) → IsUnused (acts_of s) key
unheld_unused s key kept fresh = λ e among same.
    let held : All (λ f. Contains s.keys (instance_of f).key) (acts_of s) = All-map (λ f. Contains s.keys (instance_of f).key) (λ (g : Entry). g.event) s.entries kept.held in
    fresh (subst (Contains s.keys) same (All-contains (λ f. Contains s.keys (instance_of f).key) (acts_of s) e held among))

-- a receipt that makes no event leaves the store
stays_received : (s : StoreState) (m : Stamped) (receipt : Receipt) (new : StoreState) → IsReceipt s m receipt new → tells_event (Received receipt) ≡ false → new ≡ s
stays_received s m Fresh new is none = absurd (true≢false none)
stays_received s m Repeat new is none = is.1
stays_received s m (Differs param kept arrived) new is none = is.2

-- and so does each act
stays : (s : StoreState) (act : Act) (reply : Reply) (new : StoreState) → Acts s act reply new → tells_event reply ≡ false → new ≡ s
stays s (Arrival m) reply new r none = stays_received s m r.receipt new r.received (sym (ap tells_event r.reply_is) ∙ none)
stays s (Attempt message key outs) reply new (inl e) none = absurd (true≢false (sym (ap tells_event e.reply_is) ∙ none))
stays s (Attempt message key outs) reply new (inr b) none = b.same

-- a message that comes first under its key is fresh
first_received : (s : StoreState) (m : Stamped) (receipt : Receipt) (new : StoreState) → IsUnused (acts_of s) m.instance.key → IsReceipt s m receipt new → tells_event (Received receipt) ≡ true
first_received s m Fresh new unused is = refl
first_received s m Repeat new unused is = absurd (unused (Receive m.instance) is.0 refl)
first_received s m (Differs param kept arrived) new unused is =
    absurd (unused is.1.knows.event is.1.knows.among is.1.knows.under)

module _ (x : Expanded) (history : List Event) (key : List Value) (unused : IsUnused history key) where
  -- nothing is known under the key
  unknown : (p : ℕ) → ¬ IsKnown x history key p
  unknown p known = unused known.1.event known.1.among known.1.under

  -- so what has no `in` parameter is not blocked
  unblocked_by : (c : Carried) (block : Block) → c.adornment ≢ In → IsBlockOf x history key c block → ⊥
  unblocked_by c (Missing p) free why = free why.1.adorned
  unblocked_by c (Bound p kept) free why = unknown c.param (known_from_first x history key c.param kept why.1.first)

  unblocked : (carried : List Carried) (block : Block) → All (λ c. c.adornment ≢ In) carried → IsFirstBlock x history key carried block → ⊥
  unblocked carried block free first =
      let among : Contains carried first.blocked = subst (λ (cs : List Carried). Contains cs first.blocked) (sym first.split) (Contains-append_right first.before (first.blocked ∷ first.after) first.blocked (here first.blocked first.after)) in
      unblocked_by first.blocked block (All-contains (λ c. c.adornment ≢ In) carried first.blocked free among) first.why

  -- and what is not `in` is permitted
  permitted : (c : Carried) → c.adornment ≢ In → IsPermitted x history key c
  permitted c free = (elim c.adornment as (λ a. c.adornment ≡ a → Permits a (IsKnown x history key c.param)) [
    | In ↦ λ is. absurd (free is)
    | Out ↦ λ is. unknown c.param
    | Nil ↦ λ is. unknown c.param
  ]) refl

  -- the first `in` parameter blocks
  first_blocks : (carried : List Carried) (block : Block) → IsFirstIn carried block → IsFirstBlock x history key carried block
  first_blocks carried block first = record {
    before = first.before;
    blocked = first.first;
    after = first.after;
    split = first.split;
    permitted = All-weaker (λ c. c.adornment ≢ In) (IsPermitted x history key) permitted first.before first.free;
    why = subst (IsBlockOf x history key first.first) (sym first.block_is) (refl, record { adorned = first.adorned; unknown = unknown first.first.param });
  }

-- an act that needs nothing known makes an event, if it is the first under its key
first_event : (s : StoreState) (act : Act) (reply : Reply) (new : StoreState) → IsUnused (acts_of s) (act_key act) → NeedsNothing s.protocol act → Acts s act reply new → tells_event reply ≡ true
first_event s (Arrival m) reply new unused free r = ap tells_event r.reply_is ∙ first_received s m r.receipt new unused r.received
first_event s (Attempt message key outs) reply new unused free (inl e) = ap tells_event e.reply_is
first_event s (Attempt message key outs) reply new unused free (inr b) =
    absurd (unblocked s.protocol (acts_of s) key unused (message_of s.protocol message).carried b.block free b.first)

-- what is blocked under a key that is not held leaves the store without it
pub blocked_unheld : (s : StoreState) (act : Act) (block : Block) → IsUnused (acts_of s) (act_key act) → (¬ Contains s.keys (act_key act)) → BlocksFirst s.protocol act block → DoesLive s act (Blocked block) s
blocked_unheld s (Arrival m) block unused fresh blocks = absurd blocks
blocked_unheld s (Attempt message key outs) block unused fresh blocks =
    let held : StoreState = record s { keys = s.keys ++ key ∷ [] } in
    let blocked : Blocks held message key (Blocked block) held = record {
      block = block;
      reply_is = refl;
      first = first_blocks s.protocol (acts_of s) key unused (message_of s.protocol message).carried block blocks;
      same = refl;
    } in
    record {
      after = held;
      done = record { held = held; adds = record { again = λ is. absurd (fresh is); first = λ _. refl }; acts = inr blocked };
      next_is = refl;
    }

-- what is done under a key that was held
pub does_held : (s t : StoreState) (act : Act) (reply : Reply) (new : StoreState) → Contains s.keys (act_key act) → HasGrown s t → Acts t act reply new → DoesLive (with_live_room s) act reply (with_live_room new)
does_held s t act reply new held grown acts =
    let same : with_live_room t ≡ with_live_room s = live_grown s t grown in
    record {
      after = with_live_room new;
      done = record {
        held = with_live_room s;
        adds = record { again = λ _. refl; first = λ fresh. absurd (fresh held) };
        acts = subst (λ (u : StoreState). Acts u act reply (with_live_room new)) same (live_acts t act reply new acts);
      };
      next_is = elim (cases_Bool (tells_event reply)) [
        | inl event ↦ sym (cond-true (tells_event reply) (with_live_room new) (with_live_room s) event)
        | inr none ↦ ap with_live_room (stays t act reply new acts none) ∙ same ∙ sym (cond-false (tells_event reply) (with_live_room new) (with_live_room s) none)
      ];
    }

-- and under one that was added
pub does_new : (s t u : StoreState) (act : Act) (reply : Reply) (new : StoreState) → IsUnused (acts_of s) (act_key act) → (¬ Contains s.keys (act_key act)) → NeedsNothing s.protocol act → HasGrown s t → AddsKey t (act_key act) u → Acts u act reply new → DoesLive (with_live_room s) act reply (with_live_room new)
does_new s t u act reply new unused fresh free grown adds acts =
    let fresh_then : ¬ Contains t.keys (act_key act) = subst (λ (v : StoreState). ¬ Contains v.keys (act_key act)) (sym grown.same) fresh in
    let same : u ≡ record t { keys = t.keys ++ act_key act ∷ [] } = adds.first fresh_then in
    let protocol : s.protocol ≡ u.protocol = sym (ap (λ (v : StoreState). v.protocol) same ∙ ap (λ (v : StoreState). v.protocol) grown.same) in
    let history : acts_of s ≡ acts_of u = sym (ap acts_of same ∙ ap acts_of grown.same) in
    let event : tells_event reply ≡ true = first_event u act reply new (subst (λ (h : List Event). IsUnused h (act_key act)) history unused) (subst (λ (x : Expanded). NeedsNothing x act) protocol free) acts in
    record {
      after = with_live_room new;
      done = record {
        held = with_live_room u;
        adds = subst (λ (v : StoreState). AddsKey v (act_key act) (with_live_room u)) (live_grown s t grown) (live_adds t (act_key act) u adds);
        acts = live_acts u act reply new acts;
      };
      next_is = sym (cond-true (tells_event reply) (with_live_room new) (with_live_room s) event);
    }
