-- What an audit answers, and the laws that a refuted list of histories has no explanation.
use Rattle.std.specs.Prelude.{ℕ, List}
use Rattle.bspl_types.specs.declared.event.Event.{Event}
use Rattle.bspl_types.specs.declared.expanded.Expanded.{Expanded}
use Rattle.enactment_model.specs.declared.bad_event.Why.{Why}
use Rattle.history_audit.specs.declared.audit_no.AuditNo.{AuditNo}
use Rattle.history_audit.specs.declared.audit_no.AuditNo.TheVariants.{Bad, Cycle, NoMemory}
use Rattle.history_audit.specs.declared.audit_no.Point.{Point}
use Rattle.history_audit.specs.BadPlace.{AllMayHappen, IsFirstBadPlace}
use Rattle.history_audit.specs.Cycle.{IsCycle}
use Rattle.history_audit.specs.Histories.{Explains}

-- no place is bad, and these points are a cycle
pub record IsOnlyCycle (x : Expanded) (histories : List (List Event)) (points : List Point)
    : Type 0 where
  pub none_bad : AllMayHappen x histories
  pub cycle : IsCycle x histories points

-- the first bad place; or a cycle, if no place is bad
abbrev pub IsAuditFault : Expanded → List (List Event) → AuditNo → Type 0
IsAuditFault x histories (Bad role place why) = IsFirstBadPlace x histories role place why
IsAuditFault x histories (Cycle points) = IsOnlyCycle x histories points
IsAuditFault x histories NoMemory = Unit {0}

-- no run explains the histories
abbrev pub HasNoExplanation : Expanded → List (List Event) → Type 0
HasNoExplanation x histories = (run : List Event) → ¬ Explains x run histories

-- histories with a bad place have no explanation
abbrev pub BadPlaceIsNotExplained : Type 0
BadPlaceIsNotExplained =
    (x : Expanded) (histories : List (List Event)) (role place : ℕ) (why : Why) →
    IsFirstBadPlace x histories role place why → HasNoExplanation x histories

-- nor have those with a cycle
abbrev pub CycleIsNotExplained : Type 0
CycleIsNotExplained =
    (x : Expanded) (histories : List (List Event)) (points : List Point) →
    IsCycle x histories points → HasNoExplanation x histories
