-- The texts that say whether one run explains the histories of all roles.
use Rattle.std.specs.Prelude.{ℕ, List, [], ◌∷◌, ◌++◌, codes}
use Rattle.std.specs.Fmt.{decimal}
use Rattle.std.specs.List.{flat_map}
use Rattle.bspl_types.specs.declared.event.Event.{Event}
use Rattle.bspl_types.specs.declared.expanded.Expanded.{Expanded}
use Rattle.bspl_types.specs.Expansion.{role_name}
use Rattle.enactment_model.specs.declared.bad_event.Why.{Why}
use Rattle.history_audit.specs.declared.audit_no.Point.{Point}
use Rattle.list_base.specs.Lines.{line_of}
use Rattle.run_text.specs.RunText.{run_text}
use Rattle.report.specs.ReplayLines.{reason_fields}

-- a run explains them: this one
abbrev pub consistent_text : Expanded → List Event → List ℕ
consistent_text x run = line_of (codes "consistent" ∷ []) ++ run_text x run

-- the place of the role's history is bad, for this reason
abbrev pub bad_place_line : Expanded → ℕ → ℕ → Why → List ℕ
bad_place_line x role place why =
    line_of (codes "inconsistent" ∷ role_name x role ∷ decimal place ∷ reason_fields x why)

-- a point: its role and its place
abbrev pub point_fields : Expanded → Point → List (List ℕ)
point_fields x p = role_name x p.role ∷ decimal p.place ∷ []

-- the receipts at these points wait for one another
abbrev pub cycle_line : Expanded → List Point → List ℕ
cycle_line x points =
    line_of (codes "inconsistent" ∷ codes "cycle" ∷ flat_map (point_fields x) points)
