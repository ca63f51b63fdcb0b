-- What a line asks for is an act of the role, and when the store can do it.
use Rattle.std.proofs.Common.{◌≡◌, ◌↔◌, ◌<◌, ℕ, List, Option, None, Some, Result, Ok, Err, IfOk, length, refl, sym, ap, subst, ◌∙◌, arith, inl, inr}
use Rattle.std.proofs.lemmas.Bool.{cases_lt}
use Rattle.std.proofs.lemmas.Slice.Zip.{AllZip-long}
use Rattle.std.specs.List.{Contains}
use Rattle.std.specs.Prelude.{IsSome, MatchOption, slice_get}
use Rattle.bspl_types.specs.declared.envelope.Stamped.{Stamped}
use Rattle.bspl_types.specs.declared.expanded.Expanded.{Expanded}
use Rattle.bspl_types.specs.declared.value.Value.{Value}
use Rattle.bspl_types.specs.ValueSpelling.{SpellsValue}
use Rattle.list_base.proofs.Members.{end_same}
use Rattle.list_base.proofs.Membership.{member_at}
use Rattle.list_base.specs.Lines.{Line}
use Rattle.local_store.specs.declared.receipt.Receipt.{Receipt}
use Rattle.local_store.specs.declared.receipt.Receipt.TheVariants.{Fresh, Repeat, Differs}
use Rattle.local_store.specs.Reception.{IsReceipt}
use Rattle.local_store.specs.State.{AddsKey, StoreState}
use Rattle.wire_form.specs.declared.act.Act.{Act}
use Rattle.wire_form.specs.declared.act.Act.TheVariants.{Arrival, Attempt}
use Rattle.wire_form.specs.declared.reply.Reply.{Reply}
use Rattle.wire_form.specs.Meaning.{AsksFor, Means}
use Rattle.wire_form.specs.Request.{Request, emit, receive}
use Rattle.role_server.specs.Replies.{AnswersAct, HasNoRoom, KeepsRole, Replies, answered, act_key}
use Rattle.role_server.specs.inner.Acts.{HoldsKey, IsBeforeLast, IsOwn, IsReady}

means_own : (x : Expanded) (role : ℕ) (request : Request) (act : Act) → Means x role request act → IsOwn x role act
means_own x role (receive message count stamp fields) (Arrival m) means = record { fits = means.0.fits; own = means.0.own }
means_own x role (receive message count stamp fields) (Attempt m key outs) means = absurd means
means_own x role (emit key message outs) (Arrival m) means = absurd means
means_own x role (emit key message outs) (Attempt m key_values out_values) means =
    record {
      known = means.known;
      own = means.own;
      whole_key = AllZip-long SpellsValue key key_values means.key_spelled ∙ means.whole_key;
      chosen = AllZip-long SpellsValue outs out_values means.outs_spelled ∙ means.chosen;
    }

-- what a line asks for is an act of the role
pub own_act : (x : Expanded) (role : ℕ) (line : Line) (act : Act) → AsksFor x role line act → IsOwn x role act
own_act x role line act asks = means_own x role asks.request act asks.means

-- its key is whole
pub own_key : (x : Expanded) (role : ℕ) (act : Act) → IsOwn x role act → length (act_key act) ≡ length x.keys
own_key x role (Arrival m) own = own.fits.key_length
own_key x role (Attempt message key outs) own = own.whole_key

-- a key that was held is held
pub held_before : (s : StoreState) (key : List Value) → Contains s.keys key → HoldsKey s key s
held_before s key held = record { adds = record { again = λ _. refl; first = λ fresh. absurd (fresh held) }; held = held; same = refl }

-- a key that was added is held
pub held_then : (s new : StoreState) (key : List Value) → (¬ Contains s.keys key) → AddsKey s key new → HoldsKey s key new
held_then s new key fresh adds =
    record {
      adds = adds;
      held = subst (λ (t : StoreState). Contains t.keys key) (sym (adds.first fresh)) (end_same s.keys key key refl);
      same = adds.first fresh ∙ ap (λ (t : StoreState). record s { keys = t.keys }) (sym (adds.first fresh));
    }

-- room for a key that is not held, if no more may be held than are counted
pub few_held : (most : ℕ) (s : StoreState) (key : List Value) → most < 4294967296 → (¬ HasNoRoom most s key) → (¬ Contains s.keys key) → length s.keys < 4294967295
few_held most s key counted room fresh = elim (cases_lt (length s.keys) most) [
  | inl less ↦ omega (arith, less, counted)
  | inr most ↦ absurd (room (inr (fresh, most)))
]

-- and for an event
pub some_spare : (most : ℕ) (s : StoreState) (key : List Value) → (¬ HasNoRoom most s key) → 0 < s.spare
some_spare most s key room = elim (cases_lt 0 s.spare) [
  | inl less ↦ less
  | inr none ↦ absurd (room (inl (omega (arith, none))))
]

-- the store can do the act
pub ready : (most : ℕ) (s held : StoreState) (act : Act) → IsOwn s.protocol s.role act → (¬ HasNoRoom most s (act_key act)) → IsBeforeLast s act → HoldsKey s (act_key act) held → IsReady held act
ready most s held (Arrival m) own room before holds =
    subst (λ (t : StoreState). IsReady t (Arrival m)) (sym holds.same) (record {
      fits = own.fits;
      own = own.own;
      held = holds.held;
      spare = some_spare most s m.instance.key room;
      clock = before.clock;
      stamp = before.stamp;
    })
ready most s held (Attempt message key outs) own room before holds =
    subst (λ (t : StoreState). IsReady t (Attempt message key outs)) (sym holds.same) (record {
      proposal = record { held = holds.held; chosen = own.chosen; clock = before.clock };
      known = own.known;
      own = own.own;
      spare = some_spare most s key room;
    })

-- a receipt leaves the role
pub receipt_keeps : (s : StoreState) (m : Stamped) (receipt : Receipt) (new : StoreState) → IsReceipt s m receipt new → KeepsRole s new
receipt_keeps s m Fresh new is = record { protocol = ap (λ (t : StoreState). t.protocol) is.2; role = ap (λ (t : StoreState). t.role) is.2 }
receipt_keeps s m Repeat new is = record { protocol = ap (λ (t : StoreState). t.protocol) is.1; role = ap (λ (t : StoreState). t.role) is.1 }
receipt_keeps s m (Differs param kept arrived) new is = record { protocol = ap (λ (t : StoreState). t.protocol) is.2; role = ap (λ (t : StoreState). t.role) is.2 }

-- what holds a key and what comes after it is the role's
pub keeps_after : (s held new : StoreState) (key : List Value) → HoldsKey s key held → KeepsRole held new → KeepsRole s new
keeps_after s held new key holds keeps =
    record {
      protocol = keeps.protocol ∙ ap (λ (t : StoreState). t.protocol) holds.same;
      role = keeps.role ∙ ap (λ (t : StoreState). t.role) holds.same;
    }

-- a line gets the answer to what it asks for
pub line_answered : {E : Type 0} (most : ℕ) (s : StoreState) (line : Line) (act : Act) (result : Result Reply E) (new : StoreState) → AsksFor s.protocol s.role line act → IfOk result (λ reply. AnswersAct most s act reply new) → IfOk result (λ reply. Replies most s line reply new)
line_answered most s line act (Ok reply) new asks is = answered act asks is
line_answered most s line act (Err error) new asks is = is

-- a key is held if it has a row
pub found_held : (s : StoreState) (key : List Value) (row : Option ℕ) → MatchOption row (¬ Contains s.keys key) (λ r. slice_get s.keys r ≡ Some key) → IsSome row ↔ Contains s.keys key
found_held s key None fresh = (λ some. absurd (cc), λ held. absurd (fresh held))
found_held s key (Some r) at = (λ _. member_at s.keys r key at, λ _. refl)
