-- A run of an admitted protocol has one report.
use Rattle.std.specs.Prelude.{◌≡◌, ℕ, List}
use Rattle.bspl_types.specs.declared.event.Event.{Event}
use Rattle.bspl_types.specs.declared.expanded.Expanded.{Expanded}
use Rattle.bspl_types.specs.Admission.{IsAdmitted}
use Rattle.report.specs.ReplayText.{IsReplayText}

-- two texts that report on one run are one
abbrev pub ReplayIsOnce : Type 0
ReplayIsOnce =
    (x : Expanded) (run : List Event) (text other : List ℕ) → IsAdmitted x →
    IsReplayText x run text → IsReplayText x run other → text ≡ other
