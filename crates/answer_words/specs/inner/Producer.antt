-- What is appended on one message.
use Rattle.std.specs.Prelude.{◌≡◌, ◌⊎◌, ℕ, List}
use Rattle.bspl_types.specs.declared.event.Event.{Event}
use Rattle.bspl_types.specs.declared.expanded.Expanded.{Expanded}
use Rattle.bspl_types.specs.declared.protocol.Adornment.TheVariants.{Out}
use Rattle.bspl_types.specs.declared.protocol.Message.{Message}
use Rattle.bspl_types.specs.Expansion.{IsAdorned}
use Rattle.answer_words.specs.Producers.{IsBlockedLine}
use Rattle.answer_words.specs.inner.Added.{Adds}

-- the line of the message, if it produces the parameter, and else nothing
abbrev pub AddsProducer : Expanded → List Event → ℕ → Message → List ℕ → List ℕ → Type 0
AddsProducer x run p m old new =
    (IsAdorned m Out p × Adds (IsBlockedLine x run m) old new) ⊎
    ((¬ IsAdorned m Out p) × (new ≡ old))
