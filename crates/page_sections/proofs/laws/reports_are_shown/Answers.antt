-- The report stands at the end of the section.
use Rattle.std.proofs.Common.{[], ◌∷◌, ◌++◌, ℕ, List, take, sym, subst}
use Rattle.std.specs.List.{Contains, after_first, before_first}
use Rattle.std.proofs.lemmas.List.Elements.{Contains-append_right}
use Rattle.list_base.proofs.Members.{here, there}
use Rattle.bspl_types.specs.declared.event.Event.{Event}
use Rattle.bspl_types.specs.declared.expanded.Expanded.{Expanded}
use Rattle.html.specs.Fragment.{Fragment, Tag, Words, fitted, is_hole}
use Rattle.run_chart.specs.declared.finding.Finding.TheVariants.{Bad}
use Rattle.page_sections.specs.declared.run_verdict.RunVerdict.{RunVerdict}
use Rattle.page_sections.specs.declared.run_verdict.RunVerdict.TheVariants.{Illegal, Legal}
use Rattle.page_sections.specs.declared.wording.TheConstants.{REPORT}
use Rattle.page_sections.specs.RunSection.{chart_part, run_section}
use Rattle.page_sections.specs.RunVerdict.{finding_of}
use Rattle.page_sections.specs.RunWords.{illegal_words, legal_words, report_part}
use Rattle.page_sections.proofs.laws.reports_are_shown.Goals as goal

-- the report is among its lines
among_lines : (report : List ℕ) → Contains (report_part report) (Words report)
unfolding fitted
among_lines report =
    let last : List Fragment = Tag (after_first is_hole REPORT.now) ∷ [] in
    there (Tag (before_first is_hole REPORT.now)) (Words report ∷ last) (Words report) (here (Words report) last)

-- and at the end of what comes before them
in_section : (x : Expanded) (run : List Event) (verdict : RunVerdict) (report : List ℕ) → Contains (run_section x run verdict report) (Words report)
in_section x run (Illegal bad) report = Contains-append_right (illegal_words x bad ++ chart_part x (take bad.place run) (Bad bad.place)) (report_part report) (Words report) (among_lines report)
in_section x run (Legal found) report = Contains-append_right (legal_words x found ++ chart_part x run (finding_of found)) (report_part report) (Words report) (among_lines report)

pub returns : goal.returns
returns c = λ x run report shown shows.
    subst (λ (parts : List Fragment). Contains parts (Words report)) (sym shows.section) (in_section x run shows.verdict report)
