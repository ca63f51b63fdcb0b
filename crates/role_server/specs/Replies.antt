-- Which reply a line gets from a role's store, and what the store is after it.
use Rattle.std.specs.Prelude.{◌≡◌, ◌⊎◌, ℕ, ◌≤◌, List, length}
use Rattle.std.specs.List.{Contains}
use Rattle.bspl_types.specs.declared.envelope.Stamped.{Stamped}
use Rattle.bspl_types.specs.declared.event.Event.TheVariants.{Emit}
use Rattle.bspl_types.specs.declared.value.Value.{Value}
use Rattle.bspl_types.specs.Expansion.{message_of}
use Rattle.bspl_types.specs.Knowledge.{CanEmit}
use Rattle.list_base.specs.Lines.{Line}
use Rattle.local_store.specs.declared.receipt.Receipt.{Receipt}
use Rattle.local_store.specs.Emission.{IsEmission}
use Rattle.local_store.specs.Reception.{IsReceipt}
use Rattle.local_store.specs.State.{AddsKey, StoreState, acts_of, with_entry}
use Rattle.role_knowledge.specs.declared.block.Block.{Block}
use Rattle.role_knowledge.specs.Blocked.{IsFirstBlock}
use Rattle.stamped_history.specs.Entries.{clock_limit, last_stamp}
use Rattle.wire_form.specs.declared.act.Act.{Act}
use Rattle.wire_form.specs.declared.act.Act.TheVariants.{Arrival, Attempt}
use Rattle.wire_form.specs.declared.reply.Refusal.TheVariants.{F1, F2, F3, F4}
use Rattle.wire_form.specs.declared.reply.Reply.{Reply}
use Rattle.wire_form.specs.declared.reply.Reply.TheVariants.{Blocked, Received, Refused, Sent}
use Rattle.wire_form.specs.Meaning.{AsksFor, AsksInVain, AsksNothing}

-- the most keys that `serve` holds
abbrev pub held_limit : ℕ
held_limit = 10000

-- under which key the act is
abbrev pub act_key : Act → List Value
act_key (Arrival m) = m.instance.key
act_key (Attempt message key outs) = key

-- the stamp that comes with the act, if one does
abbrev pub stamp_of : Act → ℕ
stamp_of (Arrival m) = m.stamp
stamp_of (Attempt message key outs) = 0

-- no event is spare, or the key would be one more than the most that are held
abbrev pub HasNoRoom : ℕ → StoreState → List Value → Type 0
HasNoRoom most s key = (s.spare ≡ 0) ⊎ ((¬ Contains s.keys key) × (most ≤ length s.keys))

-- the clock, or the stamp that comes, is at its last value
abbrev pub IsLast : StoreState → Act → Type 0
IsLast s act = (last_stamp s.entries ≡ clock_limit) ⊎ (stamp_of act ≡ clock_limit)

-- the message can be emitted, and is
pub record Emits (held : StoreState) (message : ℕ) (key outs : List Value) (reply : Reply)
    (new : StoreState) : Type 0 where
  pub can : CanEmit held.protocol (acts_of held) message key
  pub sent : Stamped
  pub reply_is : reply ≡ Sent sent
  pub emission : IsEmission held message key outs sent
  pub entry : new ≡ with_entry held (Emit sent.instance) sent.stamp sent.number

-- the message cannot be emitted, and nothing changes
pub record Blocks (held : StoreState) (message : ℕ) (key : List Value) (reply : Reply)
    (new : StoreState) : Type 0 where
  pub block : Block
  pub reply_is : reply ≡ Blocked block
  pub first : IsFirstBlock held.protocol (acts_of held) key
      (message_of held.protocol message).carried block
  pub same : new ≡ held

-- the message is received, is a repeat, or differs
pub record Receives (held : StoreState) (m : Stamped) (reply : Reply) (new : StoreState)
    : Type 0 where
  pub receipt : Receipt
  pub reply_is : reply ≡ Received receipt
  pub received : IsReceipt held m receipt new

-- the reply to the act, at a store that holds its key, and what the store is after it
abbrev pub Acts : StoreState → Act → Reply → StoreState → Type 0
Acts held (Arrival m) reply new = Receives held m reply new
Acts held (Attempt message key outs) reply new =
    Emits held message key outs reply new ⊎ Blocks held message key reply new

-- the act was done, after its key was added
pub record IsDone (s : StoreState) (act : Act) (reply : Reply) (new : StoreState) : Type 0 where
  pub held : StoreState
  pub adds : AddsKey s (act_key act) held
  pub acts : Acts held act reply new

-- the reply to the act where so many keys may be held, and the store after it
pub data AnswersAct (most : ℕ) (s : StoreState) (act : Act) (reply : Reply) (new : StoreState)
    : Type 0 where
  no_room : HasNoRoom most s (act_key act) → reply ≡ Refused F3 → new ≡ s
      → AnswersAct most s act reply new
  last : ¬ HasNoRoom most s (act_key act) → IsLast s act → reply ≡ Refused F4 → new ≡ s
      → AnswersAct most s act reply new
  done : ¬ HasNoRoom most s (act_key act) → ¬ IsLast s act → IsDone s act reply new
      → AnswersAct most s act reply new

-- the reply to the line where so many keys may be held, and the store after it; a line that is
-- refused leaves the store
pub data Replies (most : ℕ) (s : StoreState) (line : Line) (reply : Reply) (new : StoreState)
    : Type 0 where
  nothing : AsksNothing line → reply ≡ Refused F1 → new ≡ s → Replies most s line reply new
  in_vain : AsksInVain s.protocol s.role line → reply ≡ Refused F2 → new ≡ s
      → Replies most s line reply new
  answered : (act : Act) → AsksFor s.protocol s.role line act → AnswersAct most s act reply new
      → Replies most s line reply new

-- the role and its protocol stay
pub record KeepsRole (old new : StoreState) : Type 0 where
  pub protocol : new.protocol ≡ old.protocol
  pub role : new.role ≡ old.role
