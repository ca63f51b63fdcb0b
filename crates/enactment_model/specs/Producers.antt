-- When each parameter has one message that produces it.
use Rattle.std.specs.Prelude.{ℕ}
use Rattle.std.specs.List.{AllPairs, Contains}
use Rattle.bspl_types.specs.declared.expanded.Expanded.{Expanded}
use Rattle.bspl_types.specs.declared.protocol.Adornment.TheVariants.{Out}
use Rattle.bspl_types.specs.declared.protocol.Message.{Message}
use Rattle.bspl_types.specs.Expansion.{IsAdorned}

-- some parameter is adorned `out` by both messages
pub record SharesOut (m n : Message) : Type 0 where
  pub param : ℕ
  pub one : IsAdorned m Out param
  pub other : IsAdorned n Out param

-- no parameter has two messages that adorn it `out`
abbrev pub HasOneProducer : Expanded → Type 0
HasOneProducer x = AllPairs (λ m n. ¬ SharesOut m n) x.messages
