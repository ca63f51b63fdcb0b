-- The parts of a page for the two verdicts, and for the run of a world.
use Rattle.std.specs.Prelude.{ℕ, nat_le, if◌then◌else◌, List, [], ◌∷◌, ◌++◌, length}
use Rattle.bspl_types.specs.declared.event.Event.{Event}
use Rattle.bspl_types.specs.declared.expanded.Expanded.{Expanded}
use Rattle.bspl_types.specs.Expansion.{param_name}
use Rattle.run_text.specs.RunText.{run_text}
use Rattle.verdict.specs.declared.outcome.Liveness.{Liveness}
use Rattle.verdict.specs.declared.outcome.Liveness.TheVariants as liveness
use Rattle.verdict.specs.declared.outcome.Safety.{Safety}
use Rattle.verdict.specs.declared.outcome.Safety.TheVariants as safety
use Rattle.html.specs.Fragment.{Fragment, Number, Tag, Words, fitted}
use Rattle.run_chart.specs.Chart.{chart}
use Rattle.run_chart.specs.declared.finding.Finding.{Finding}
use Rattle.run_chart.specs.declared.finding.Finding.TheVariants.{Clash, Open, Plain}
use Rattle.page_sections.specs.declared.played.TheConstants.{CHARTED}
use Rattle.page_sections.specs.declared.wording.TheConstants.{LIVE_SAID, LIVENESS, NOT_LIVE_SAID}
use Rattle.page_sections.specs.declared.wording.TheConstants.{PLAYED_START, RUN_TEXT, SAFE_SAID}
use Rattle.page_sections.specs.declared.wording.TheConstants.{SAFETY, UNDECIDED_SAID, UNSAFE_SAID}

-- a run as a chart that marks the finding, and as a text from which it can be replayed
abbrev pub run_shown : Expanded → List Event → Finding → List Fragment
run_shown x run finding =
    chart x run finding ++ fitted RUN_TEXT.now (Words (run_text x run) ∷ [])

-- the run of a world, if it has at most so many events that it can be looked at
abbrev pub played_part : Expanded → List Event → List Fragment
played_part x run =
    if nat_le (length run) CHARTED
    then (Tag PLAYED_START.now ∷ []) ++ run_shown x run Plain else []

-- the positions of both producers of an unsafe protocol's run, and what they produce
abbrev pub unsafe_sentence : Expanded → ℕ → ℕ → ℕ → List Fragment
unsafe_sentence x param first second = fitted UNSAFE_SAID.now
    (Number first ∷ Number second ∷ Words (param_name x param) ∷ [])

-- the parameter that stays open
abbrev pub not_live_sentence : Expanded → ℕ → List Fragment
not_live_sentence x param = fitted NOT_LIVE_SAID.now (Words (param_name x param) ∷ [])

-- the property whose search came to no answer, and how many conflicts it met
abbrev pub undecided_sentence : List ℕ → ℕ → List Fragment
undecided_sentence property conflicts =
    fitted UNDECIDED_SAID.now (Tag property ∷ Number conflicts ∷ [])

-- what the verdict on safety says, and a run that refutes it
abbrev pub safety_section : Expanded → Safety → List Fragment
safety_section x (safety.Safe log) = Tag SAFE_SAID.now ∷ []
safety_section x (safety.Unsafe run param first second) =
    unsafe_sentence x param first second ++ run_shown x run (Clash param first second)
safety_section x (safety.Undecided log) =
    undecided_sentence SAFETY.now (length log.steps)

-- what the verdict on liveness says, and a run that refutes it
abbrev pub liveness_section : Expanded → Liveness → List Fragment
liveness_section x (liveness.Live log) = Tag LIVE_SAID.now ∷ []
liveness_section x (liveness.NotLive run param) =
    not_live_sentence x param ++ run_shown x run (Open param)
liveness_section x (liveness.Undecided log) =
    undecided_sentence LIVENESS.now (length log.steps)
