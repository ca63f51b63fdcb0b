-- One known value more.
use Rattle.std.specs.Prelude.{◌≡◌, ◌⊎◌, ℕ, List, [], ◌∷◌, ◌++◌}
use Rattle.bspl_types.specs.declared.event.Event.{Event}
use Rattle.bspl_types.specs.declared.expanded.Expanded.{Expanded}
use Rattle.bspl_types.specs.declared.value.Value.{Value}
use Rattle.bspl_types.specs.Knowledge.{IsKnown, Knows}
use Rattle.role_questions.specs.declared.form.KnownValue.{KnownValue}

-- the parameter is not known and nothing changes, or it comes last with a known value
abbrev pub AddsKnown : Expanded → List Event → List Value → ℕ → List KnownValue → List KnownValue
    → Type 0
AddsKnown x history key p old new =
    ((¬ IsKnown x history key p) × (new ≡ old)) ⊎
    ((v : Value) × Knows x history key p v × (new ≡ old ++ record { param = p; value = v } ∷ []))
