-- Strokes event by event.
use Rattle.std.proofs.Common.{◌≡◌, ℕ, List, [], ◌∷◌, ◌++◌, refl, sym, ap, ◌∙◌}
use Rattle.std.specs.List.{flat_map}
use Rattle.std.proofs.lemmas.Grind.{flat_map-append}
use Rattle.bspl_types.specs.declared.event.Event.{Event}
use Rattle.bspl_types.specs.declared.expanded.Expanded.{Expanded}
use Rattle.html.specs.Fragment.{Fragment}
use Rattle.run_chart.specs.Drawing.{drawn}
use Rattle.run_chart.specs.Strokes.{strokes_at}

-- the strokes of an event, drawn
abbrev pub drawn_at : Expanded → List Event → ℕ × Event → List Fragment
drawn_at x run event = flat_map drawn (strokes_at x run event)

-- strokes are drawn event by event
pub drawn_each : (x : Expanded) (run : List Event) (events : List (ℕ × Event)) → flat_map (drawn_at x run) events ≡ flat_map drawn (flat_map (strokes_at x run) events)
drawn_each x run [] = refl
drawn_each x run (event ∷ events) =
    ap (λ (rest : List Fragment). drawn_at x run event ++ rest) (drawn_each x run events)
    ∙ sym (flat_map-append drawn (strokes_at x run event) (flat_map (strokes_at x run) events))
