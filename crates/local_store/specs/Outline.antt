-- What is said of an event without its values.
use Rattle.std.specs.Prelude.{ℕ, List, map}
use Rattle.bspl_types.specs.declared.event.Event.{Event}
use Rattle.bspl_types.specs.declared.event.Event.TheVariants.{Emit, Receive}
use Rattle.local_store.specs.declared.act.Kind.{Kind}
use Rattle.local_store.specs.declared.act.Kind.TheVariants.{Emitted, Received}
use Rattle.local_store.specs.State.{StoreState}

-- whether the event is an emission or a receipt, and of which message
abbrev pub outline_of : Event → Kind × ℕ
outline_of (Emit i) = (Emitted, i.message)
outline_of (Receive i) = (Received, i.message)

-- that of each entry's event
abbrev pub outlines : StoreState → List (Kind × ℕ)
outlines s = map (λ e. outline_of e.event) s.entries
