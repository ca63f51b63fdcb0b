-- What a command is: what it needs of an input, what it answers and for what it refuses.
use Rattle.std.specs.Prelude.{ℕ, List}
use Rattle.bspl_types.specs.declared.expanded.Expanded.{Expanded}
use Rattle.tool_input.specs.declared.rejection.Rejection.{Rejection}
use Rattle.tool_input.specs.declared.status.Status.{Status}
use Rattle.tool_input.specs.declared.need.Need.{Need}

-- the rules of a command, on the protocol that it judges and the bytes that it is given beside it
pub record CommandRules : Type 1 where
  -- what it needs of the input beside the protocol text
  pub needs : Need
  -- a right output, and its status
  pub answers : Expanded → List ℕ → List ℕ → Status → Type 0
  -- why there is none, although the protocol is admitted
  pub refuses : Expanded → List ℕ → Rejection → Type 0
  -- there is one right output at most
  pub is_determined : Type 0

-- a command that refuses no admitted protocol
abbrev pub NeverRefuses : Expanded → List ℕ → Rejection → Type 0
NeverRefuses x given rejection = ⊥
