-- What `audit` answers, from what is read and audited.
use Rattle.std.proofs.Common.{◌≡◌, ℕ, List, inr, refl, sym, subst}
use Rattle.bspl_types.specs.declared.event.Event.{Event}
use Rattle.bspl_types.specs.declared.expanded.Expanded.{Expanded}
use Rattle.enactment_model.specs.declared.bad_event.Why.{Why}
use Rattle.history_audit.specs.declared.audit_no.Point.{Point}
use Rattle.history_audit.specs.Audit.{HasNoExplanation, IsOnlyCycle}
use Rattle.history_audit.specs.BadPlace.{IsFirstBadPlace}
use Rattle.report.specs.AuditText.{bad_place_line, cycle_line}
use Rattle.tool_input.specs.declared.status.Status.TheVariants.{Refuted}
use Rattle.evidence_commands.specs.AuditAnswer.{IsAudited, NamesFault, bad_place, cycle}

-- histories with a bad place
pub bad_place_named : (x : Expanded) (histories : List (List Event)) (role place : ℕ) (why : Why) (out : List ℕ) → IsFirstBadPlace x histories role place why → HasNoExplanation x histories → out ≡ bad_place_line x role place why → IsAudited x histories out Refuted
bad_place_named x histories role place why out first none is =
    inr (record { none = none; text = subst (NamesFault x histories) (sym is) (bad_place role place why first); refuted = refl })

-- and those with a cycle
pub cycle_named : (x : Expanded) (histories : List (List Event)) (points : List Point) (out : List ℕ) → IsOnlyCycle x histories points → HasNoExplanation x histories → out ≡ cycle_line x points → IsAudited x histories out Refuted
cycle_named x histories points out only none is =
    inr (record { none = none; text = subst (NamesFault x histories) (sym is) (cycle points only); refuted = refl })
