-- What is found of a run that was given.
use Rattle.std.specs.Prelude.{List, Option, None, Some, MatchOption}
use Rattle.bspl_types.specs.declared.event.Event.{Event}
use Rattle.bspl_types.specs.declared.expanded.Expanded.{Expanded}
use Rattle.enactment_model.specs.declared.bad_event.BadEvent.{BadEvent}
use Rattle.enactment_model.specs.declared.conflicts.Conflict.{Conflict}
use Rattle.enactment_model.specs.BadEvent.{IsFirstBadEvent}
use Rattle.enactment_model.specs.LeastConflict.{IsLeastConflict}
use Rattle.enactment_model.specs.Legal.{IsLegal, IsLegalRun}
use Rattle.enactment_model.specs.Safety.{HasNoConflict}
use Rattle.run_chart.specs.declared.finding.Finding.{Finding}
use Rattle.run_chart.specs.declared.finding.Finding.TheVariants.{Clash, Plain}
use Rattle.page_sections.specs.declared.run_verdict.RunVerdict.{RunVerdict}
use Rattle.page_sections.specs.declared.run_verdict.RunVerdict.TheVariants.{Illegal, Legal}

-- the run is not legal, and this is its first event that may not follow those before it
pub record IsIllegalFrom (x : Expanded) (run : List Event) (bad : BadEvent) : Type 0 where
  pub illegal : ¬ IsLegal x run
  pub first : IsFirstBadEvent x run bad

-- the run is legal, and this is its least conflict, if it has one
pub record IsLegalWith (x : Expanded) (run : List Event) (found : Option Conflict) : Type 0 where
  pub legal : IsLegalRun x run
  pub conflict : MatchOption found (HasNoConflict x run) (IsLeastConflict x run)

-- this is found of the run
abbrev pub IsRunVerdict : Expanded → List Event → RunVerdict → Type 0
IsRunVerdict x run (Illegal bad) = IsIllegalFrom x run bad
IsRunVerdict x run (Legal found) = IsLegalWith x run found

-- what the chart of a legal run marks: both producers of its conflict
abbrev pub finding_of : Option Conflict → Finding
finding_of None = Plain
finding_of (Some found) = Clash found.param found.first found.second
