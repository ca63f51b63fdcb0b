-- The text of the verdicts on a protocol.
use Rattle.std.specs.Prelude.{ℕ, Bool, if◌then◌else◌, List, [], ◌∷◌, ◌++◌, codes, length}
use Rattle.std.specs.Fmt.{decimal}
use Rattle.bspl_types.specs.declared.expanded.Expanded.{Expanded}
use Rattle.bspl_types.specs.History.{IsRun}
use Rattle.bspl_types.specs.Expansion.{param_name}
use Rattle.refutation_log.specs.declared.refutation.Kind.{Kind}
use Rattle.refutation_log.specs.declared.refutation.Kind.TheVariants as kinds
use Rattle.refutation_log.specs.declared.refutation.Log.{Log}
use Rattle.refutation_log.specs.LogText.{line_of, log_text}
use Rattle.run_text.specs.RunText.{run_text}
use Rattle.verdict.specs.declared.outcome.Liveness.{Liveness}
use Rattle.verdict.specs.declared.outcome.Liveness.TheVariants as liveness
use Rattle.verdict.specs.declared.outcome.Safety.{Safety}
use Rattle.verdict.specs.declared.outcome.Safety.TheVariants.{Safe, Undecided, Unsafe}
use Rattle.verdict.specs.declared.outcome.Verdicts.{Verdicts}
use Rattle.verdict.specs.Verdicts.{AreRightAnswers}

-- the first line: the protocol's name
abbrev pub protocol_line : Expanded → List ℕ
protocol_line x = line_of (codes "protocol" ∷ x.name ∷ [])

-- the text of the log, unless the text is brief
abbrev pub log_part : Kind → Bool → Log → List ℕ
log_part kind brief log = if brief then [] else log_text kind log

-- the line of an unsafe protocol: the parameter, and the positions of both producers
abbrev pub unsafe_line : Expanded → ℕ → ℕ → ℕ → List ℕ
unsafe_line x param first second =
    line_of
    (codes "safety" ∷ codes "unsafe" ∷ param_name x param ∷ decimal first ∷ decimal second ∷ [])

-- the line of a protocol that is not live: the parameter that is left unbound
abbrev pub not_live_line : Expanded → ℕ → List ℕ
not_live_line x param = line_of (codes "liveness" ∷ codes "not-live" ∷ param_name x param ∷ [])

-- the line of a search that came to its budget: the property, and how many steps its log has
abbrev pub undecided_line : List ℕ → Log → List ℕ
undecided_line property log =
    line_of (property ∷ codes "undecided" ∷ decimal (length log.steps) ∷ [])

-- the line of the answer on safety
abbrev pub safety_line : Expanded → Safety → List ℕ
safety_line x (Safe log) = line_of (codes "safety" ∷ codes "safe" ∷ [])
safety_line x (Unsafe run param first second) = unsafe_line x param first second
safety_line x (Undecided log) = undecided_line (codes "safety") log

-- its evidence: a log, or always the run
abbrev pub safety_evidence : Expanded → Bool → Safety → List ℕ
safety_evidence x brief (Safe log) = log_part kinds.Safety brief log
safety_evidence x brief (Unsafe run param first second) = run_text x run
safety_evidence x brief (Undecided log) = log_part kinds.Safety brief log

-- the answer on safety, with its evidence
abbrev pub safety_text : Expanded → Bool → Safety → List ℕ
safety_text x brief safety = safety_line x safety ++ safety_evidence x brief safety

-- the line of the answer on liveness
abbrev pub liveness_line : Expanded → Liveness → List ℕ
liveness_line x (liveness.Live log) = line_of (codes "liveness" ∷ codes "live" ∷ [])
liveness_line x (liveness.NotLive run param) = not_live_line x param
liveness_line x (liveness.Undecided log) = undecided_line (codes "liveness") log

-- its evidence
abbrev pub liveness_evidence : Expanded → Bool → Liveness → List ℕ
liveness_evidence x brief (liveness.Live log) = log_part kinds.Liveness brief log
liveness_evidence x brief (liveness.NotLive run param) = run_text x run
liveness_evidence x brief (liveness.Undecided log) = log_part kinds.Liveness brief log

-- the answer on liveness, with its evidence
abbrev pub liveness_text : Expanded → Bool → Liveness → List ℕ
liveness_text x brief liveness = liveness_line x liveness ++ liveness_evidence x brief liveness

-- the protocol, and the answers on its safety and its liveness
abbrev pub verdict_text : Expanded → Verdicts → Bool → List ℕ
verdict_text x v brief =
    protocol_line x ++ safety_text x brief v.safety ++ liveness_text x brief v.liveness

-- the events of the answer's run, if it has one, fit the protocol
abbrev pub HasFittingRun : Expanded → Safety → Type 0
HasFittingRun x (Safe log) = Unit {0}
HasFittingRun x (Unsafe run param first second) = IsRun x run
HasFittingRun x (Undecided log) = Unit {0}

-- so do those of an answer on liveness
abbrev pub HasFittingRest : Expanded → Liveness → Type 0
HasFittingRest x (liveness.Live log) = Unit {0}
HasFittingRest x (liveness.NotLive run param) = IsRun x run
HasFittingRest x (liveness.Undecided log) = Unit {0}

-- and those of both answers
pub record HaveFittingRuns (x : Expanded) (v : Verdicts) : Type 0 where
  pub safety : HasFittingRun x v.safety
  pub liveness : HasFittingRest x v.liveness

-- so it is if the answers are right
abbrev pub RightRunsFit : Type 0
RightRunsFit =
    (x : Expanded) (budget : ℕ) (v : Verdicts) → AreRightAnswers x budget v → HaveFittingRuns x v
