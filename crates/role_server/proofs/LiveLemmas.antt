-- What is done in a live role's store is done in one where each event that may come is spare.
use Rattle.std.proofs.Common.{◌≡◌, ℕ, ◌-◌, ◌+◌, ◌<◌, List, [], ◌∷◌, ◌++◌, length, max, sym, ap, subst, ◌∙◌, arith, inl, inr, length-append}
use Rattle.std.specs.List.{Contains}
use Rattle.bspl_types.specs.declared.envelope.Stamped.{Stamped}
use Rattle.bspl_types.specs.declared.event.Event.{Event}
use Rattle.bspl_types.specs.declared.event.Event.TheVariants.{Emit, Receive}
use Rattle.bspl_types.specs.declared.value.Value.{Value}
use Rattle.local_store.specs.Consistent.{IsConsistent}
use Rattle.local_store.specs.declared.receipt.Receipt.{Receipt}
use Rattle.local_store.specs.declared.receipt.Receipt.TheVariants.{Fresh, Repeat, Differs}
use Rattle.local_store.specs.Emission.{IsEmission}
use Rattle.local_store.specs.Reception.{IsReceipt}
use Rattle.local_store.specs.State.{AddsKey, StoreState, with_entry}
use Rattle.stamped_history.specs.declared.entry.Entry.{Entry}
use Rattle.stamped_history.specs.Entries.{last_stamp}
use Rattle.wire_form.specs.declared.act.Act.{Act}
use Rattle.wire_form.specs.declared.act.Act.TheVariants.{Arrival, Attempt}
use Rattle.wire_form.specs.declared.reply.Reply.{Reply}
use Rattle.role_server.specs.Live.{live_limit, with_live_room}
use Rattle.role_server.specs.Replies.{Acts, Emits, act_key}
use Rattle.role_server.specs.inner.Acts.{HoldsKey, IsReady}
use Rattle.role_server.specs.inner.LiveActs.{HasGrown, HasPlace}
use Rattle.role_server.proofs.ActLemmas.{held_then}

-- what is known of a live role is consistent if its store is
pub live_consistent : (s : StoreState) → IsConsistent s → IsConsistent (with_live_room s)
live_consistent s kept = record {
  admitted = kept.admitted;
  known_role = kept.known_role;
  keys = kept.keys;
  held = kept.held;
  local = kept.local;
  few = omega (arith, kept.few);
}

-- one event more is one spare event less
live_entry : (s : StoreState) (event : Event) (stamp number : ℕ) → with_live_room (with_entry s event stamp number) ≡ with_entry (with_live_room s) event stamp number
live_entry s event stamp number =
    let entry : Entry = record { event = event; stamp = stamp; number = number } in
    let less : live_limit - length (s.entries ++ entry ∷ []) ≡ live_limit - length s.entries - 1 = omega (arith, length-append s.entries (entry ∷ [])) in
    ap (λ (n : ℕ). record (with_entry s event stamp number) { spare = n }) less

-- what is emitted
live_emission : (s : StoreState) (message : ℕ) (key outs : List Value) (m : Stamped) → IsEmission s message key outs m → IsEmission (with_live_room s) message key outs m
live_emission s message key outs m e = record {
  fits = e.fits;
  message_is = e.message_is;
  key_is = e.key_is;
  ins = e.ins;
  outs_are = e.outs_are;
  stamp_is = e.stamp_is;
  number_is = e.number_is;
}

live_emits : (s : StoreState) (message : ℕ) (key outs : List Value) (reply : Reply) (new : StoreState) → Emits s message key outs reply new → Emits (with_live_room s) message key outs reply (with_live_room new)
live_emits s message key outs reply new e = record {
  can = e.can;
  sent = e.sent;
  reply_is = e.reply_is;
  emission = live_emission s message key outs e.sent e.emission;
  entry = ap with_live_room e.entry ∙ live_entry s (Emit e.sent.instance) e.sent.stamp e.sent.number;
}

-- what is received
live_receipt : (s : StoreState) (m : Stamped) (receipt : Receipt) (new : StoreState) → IsReceipt s m receipt new → IsReceipt (with_live_room s) m receipt (with_live_room new)
live_receipt s m Fresh new is =
    (is.0, is.1, ap with_live_room is.2 ∙ live_entry s (Receive m.instance) (max (last_stamp s.entries) m.stamp + 1) m.number)
live_receipt s m Repeat new is = (is.0, ap with_live_room is.1)
live_receipt s m (Differs param kept arrived) new is = (is.0, is.1, ap with_live_room is.2)

-- what is done
pub live_acts : (s : StoreState) (act : Act) (reply : Reply) (new : StoreState) → Acts s act reply new → Acts (with_live_room s) act reply (with_live_room new)
live_acts s (Arrival m) reply new r =
    record { receipt = r.receipt; reply_is = r.reply_is; received = live_receipt s m r.receipt new r.received }
live_acts s (Attempt message key outs) reply new (inl e) = inl (live_emits s message key outs reply new e)
live_acts s (Attempt message key outs) reply new (inr b) =
    inr (record { block = b.block; reply_is = b.reply_is; first = b.first; same = ap with_live_room b.same })

-- a key that is added
pub live_adds : (s : StoreState) (key : List Value) (new : StoreState) → AddsKey s key new → AddsKey (with_live_room s) key (with_live_room new)
live_adds s key new adds = record { again = λ held. ap with_live_room (adds.again held); first = λ fresh. ap with_live_room (adds.first fresh) }

-- memory changes nothing
pub live_grown : (s t : StoreState) → HasGrown s t → with_live_room t ≡ with_live_room s
live_grown s t grown = ap with_live_room grown.same

-- an act with a place can be done where its key is held and there is memory
can_do : (s : StoreState) (act : Act) → HasPlace s act → Contains s.keys (act_key act) → 0 < s.spare → IsReady s act
can_do s (Arrival m) place held spare = record {
  fits = place.own.fits;
  own = place.own.own;
  held = held;
  spare = spare;
  clock = place.before.clock;
  stamp = place.before.stamp;
}
can_do s (Attempt message key outs) place held spare = record {
  proposal = record { held = held; chosen = place.own.chosen; clock = place.before.clock };
  known = place.own.known;
  own = place.own.own;
  spare = spare;
}

-- it has one whatever is spare, and whichever keys are held
keeps_place : (s : StoreState) (act : Act) (keys : List (List Value)) (spare : ℕ) → HasPlace s act → HasPlace (record s { keys = keys; spare = spare }) act
keeps_place s act keys spare place =
    record { own = place.own; few = place.few; before = record { clock = place.before.clock; stamp = place.before.stamp } }

-- so it can be done under a key that was held
pub ready_held : (s t : StoreState) (act : Act) → HasPlace s act → Contains s.keys (act_key act) → HasGrown s t → IsReady t act
ready_held s t act place held grown =
    subst (λ (u : StoreState). IsReady u act) (sym grown.same) (can_do (record s { spare = t.spare }) act (keeps_place s act s.keys t.spare place) held grown.some)

-- and under one that was added
pub ready_new : (s t u : StoreState) (act : Act) → HasPlace s act → (¬ Contains s.keys (act_key act)) → HasGrown s t → AddsKey t (act_key act) u → IsReady u act
ready_new s t u act place fresh grown adds =
    let fresh_then : ¬ Contains t.keys (act_key act) = subst (λ (v : StoreState). ¬ Contains v.keys (act_key act)) (sym grown.same) fresh in
    let holds : HoldsKey t (act_key act) u = held_then t u (act_key act) fresh_then adds in
    let same : u ≡ record s { keys = u.keys; spare = t.spare } = holds.same ∙ ap (λ (v : StoreState). record v { keys = u.keys }) grown.same in
    subst (λ (v : StoreState). IsReady v act) (sym same) (can_do (record s { keys = u.keys; spare = t.spare }) act (keeps_place s act u.keys t.spare place) holds.held grown.some)
