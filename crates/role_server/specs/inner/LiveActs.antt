-- What a live role does with an act.
use Rattle.std.specs.Prelude.{◌≡◌, ◌≢◌, ◌<◌, ⊤, List, ◌∷◌, ◌++◌, length}
use Rattle.std.specs.List.{All}
use Rattle.bspl_types.specs.declared.expanded.Expanded.{Expanded}
use Rattle.bspl_types.specs.declared.protocol.Adornment.TheVariants.{In}
use Rattle.bspl_types.specs.declared.protocol.Carried.{Carried}
use Rattle.bspl_types.specs.Expansion.{message_of}
use Rattle.local_store.specs.State.{StoreState}
use Rattle.role_knowledge.specs.declared.block.Block.{Block}
use Rattle.role_knowledge.specs.declared.block.Block.TheVariants.{Missing}
use Rattle.wire_form.specs.declared.act.Act.{Act}
use Rattle.wire_form.specs.declared.act.Act.TheVariants.{Arrival, Attempt}
use Rattle.wire_form.specs.declared.reply.Reply.{Reply}
use Rattle.role_server.specs.Live.{live_limit, next_store}
use Rattle.role_server.specs.Replies.{AnswersAct, IsDone}
use Rattle.role_server.specs.inner.Acts.{IsBeforeLast, IsOwn}

-- the act is done, and leaves the store if it makes no event
pub record DoesLive (s : StoreState) (act : Act) (reply : Reply) (next : StoreState) : Type 0 where
  pub after : StoreState
  pub done : IsDone s act reply after
  pub next_is : next ≡ next_store s reply after

-- the act is answered, and leaves the store if it makes no event
pub record AnswersLive (s : StoreState) (act : Act) (reply : Reply) (next : StoreState)
    : Type 0 where
  pub after : StoreState
  pub answers : AnswersAct live_limit s act reply after
  pub next_is : next ≡ next_store s reply after

-- the act is one of the role's, and its event has a number and a stamp
pub record HasPlace (s : StoreState) (act : Act) : Type 0 where
  pub own : IsOwn s.protocol s.role act
  pub few : length s.entries < live_limit
  pub before : IsBeforeLast s act

-- there is memory for an event, and nothing else changed
pub record HasGrown (old new : StoreState) : Type 0 where
  pub some : 0 < new.spare
  pub same : new ≡ record old { spare = new.spare }

-- the block is that of the first of the parameters that is adorned `in`
pub record IsFirstIn (carried : List Carried) (block : Block) : Type 0 where
  pub before : List Carried
  pub first : Carried
  pub after : List Carried
  pub split : carried ≡ before ++ first ∷ after
  pub free : All (λ c. c.adornment ≢ In) before
  pub adorned : first.adornment ≡ In
  pub block_is : block ≡ Missing first.param

-- nothing has to be known for the act
abbrev pub NeedsNothing : Expanded → Act → Type 0
NeedsNothing x (Arrival m) = ⊤
NeedsNothing x (Attempt message key outs) =
    All (λ c. c.adornment ≢ In) (message_of x message).carried

-- where nothing is known, this blocks the act
abbrev pub BlocksFirst : Expanded → Act → Block → Type 0
BlocksFirst x (Arrival m) block = ⊥
BlocksFirst x (Attempt message key outs) block = IsFirstIn (message_of x message).carried block
