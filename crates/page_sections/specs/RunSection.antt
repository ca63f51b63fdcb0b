-- The section of a page on a run that was given, beside a report on it.
use Rattle.std.specs.Prelude.{◌≡◌, ℕ, nat_le, if◌then◌else◌, List, [], ◌∷◌, ◌++◌, length, take}
use Rattle.std.specs.Prelude.{Option}
use Rattle.bspl_types.specs.declared.event.Event.{Event}
use Rattle.bspl_types.specs.declared.expanded.Expanded.{Expanded}
use Rattle.enactment_model.specs.declared.bad_event.BadEvent.{BadEvent}
use Rattle.enactment_model.specs.declared.conflicts.Conflict.{Conflict}
use Rattle.html.specs.Fragment.{Fragment, Number, as_html, fitted}
use Rattle.run_chart.specs.Chart.{chart}
use Rattle.run_chart.specs.declared.finding.Finding.{Finding}
use Rattle.run_chart.specs.declared.finding.Finding.TheVariants.{Bad}
use Rattle.page_sections.specs.declared.played.TheConstants.{CHARTED}
use Rattle.page_sections.specs.declared.run_verdict.RunVerdict.{RunVerdict}
use Rattle.page_sections.specs.declared.run_verdict.RunVerdict.TheVariants.{Illegal, Legal}
use Rattle.page_sections.specs.declared.wording.TheConstants.{TOO_LONG}
use Rattle.page_sections.specs.RunVerdict.{IsRunVerdict, finding_of}
use Rattle.page_sections.specs.RunWords.{illegal_words, legal_words, report_part}

-- the chart of a run, or that it has too many events to be looked at
abbrev pub chart_part : Expanded → List Event → Finding → List Fragment
chart_part x run finding =
    if nat_le (length run) CHARTED then chart x run finding
    else fitted TOO_LONG.now (Number CHARTED ∷ [])

-- the section of an illegal run: its events up to the bad one, which is marked
abbrev pub illegal_section : Expanded → List Event → BadEvent → List ℕ → List Fragment
illegal_section x run bad report =
    illegal_words x bad ++ chart_part x (take bad.place run) (Bad bad.place) ++
    report_part report

-- the section of a legal run
abbrev pub legal_section : Expanded → List Event → Option Conflict → List ℕ → List Fragment
legal_section x run found report =
    legal_words x found ++ chart_part x run (finding_of found) ++ report_part report

-- the section of a run of which this is found
abbrev pub run_section : Expanded → List Event → RunVerdict → List ℕ → List Fragment
run_section x run (Illegal bad) report = illegal_section x run bad report
run_section x run (Legal found) report = legal_section x run found report

-- the section of the run
pub record ShowsRun (x : Expanded) (run : List Event) (report : List ℕ) (shown : List Fragment)
    : Type 0 where
  pub verdict : RunVerdict
  pub right : IsRunVerdict x run verdict
  pub section : shown ≡ run_section x run verdict report

-- it is written after a text
pub record AppendsRun (x : Expanded) (run : List Event) (report old new : List ℕ) : Type 0 where
  pub shown : List Fragment
  pub shows : ShowsRun x run report shown
  pub text : new ≡ old ++ as_html shown
