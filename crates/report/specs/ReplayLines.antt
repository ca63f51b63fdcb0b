-- The lines of the text that reports on a run: an illegal one, its conflict, and its keys.
use Rattle.std.specs.Prelude.{ℕ, List, [], ◌∷◌, ◌++◌, codes, length, map}
use Rattle.std.specs.Fmt.{decimal}
use Rattle.bspl_types.specs.declared.event.Event.{Event}
use Rattle.bspl_types.specs.declared.expanded.Expanded.{Expanded}
use Rattle.bspl_types.specs.declared.value.Value.{Value}
use Rattle.bspl_types.specs.Expansion.{message_of, param_name}
use Rattle.bspl_types.specs.ValueSpelling.{value_spelling}
use Rattle.enactment_model.specs.declared.bad_event.BadEvent.{BadEvent}
use Rattle.enactment_model.specs.declared.bad_event.Why.{Why}
use Rattle.enactment_model.specs.declared.bad_event.Why.TheVariants.{Missing, Bound, Other, Unsent}
use Rattle.enactment_model.specs.declared.conflicts.Conflict.{Conflict}
use Rattle.refutation_log.specs.LogText.{line_of}
use Rattle.report.specs.declared.status.Status.{Status as KeyStatus}
use Rattle.report.specs.declared.status.Status.TheVariants.{Loose, Incomplete, Complete}

-- why an event may not follow those before it
abbrev pub reason_fields : Expanded → Why → List (List ℕ)
reason_fields x (Missing p) = codes "missing" ∷ param_name x p ∷ []
reason_fields x (Bound p kept) = codes "bound" ∷ param_name x p ∷ value_spelling kept ∷ []
reason_fields x (Other p kept) = codes "other" ∷ param_name x p ∷ value_spelling kept ∷ []
reason_fields x Unsent = codes "unsent" ∷ []

-- the line of an illegal run: the position of its first bad event, and the reason
abbrev pub illegal_line : Expanded → BadEvent → List ℕ
illegal_line x bad = line_of (codes "illegal" ∷ decimal bad.place ∷ reason_fields x bad.why)

-- the first line of a legal run: how many events it has
abbrev pub legal_line : List Event → List ℕ
legal_line run = line_of (codes "legal" ∷ decimal (length run) ∷ [])

-- the line of a conflict: the parameter, and the positions of both producers
abbrev pub conflict_line : Expanded → Conflict → List ℕ
conflict_line x found =
    line_of
    (codes "conflict" ∷ param_name x found.param ∷ decimal found.first ∷ decimal found.second ∷ [])

-- the line of a run without a conflict
abbrev pub no_conflict_line : List ℕ
no_conflict_line = line_of (codes "no" ∷ codes "conflict" ∷ [])

-- how the enactment of a key is left
abbrev pub status_fields : Expanded → KeyStatus → List (List ℕ)
status_fields x (Loose m) = codes "loose" ∷ (message_of x m).name ∷ []
status_fields x (Incomplete p) = codes "quiet" ∷ codes "unbound" ∷ param_name x p ∷ []
status_fields x Complete = codes "quiet" ∷ codes "bound" ∷ []

-- the line of a key: its values, and how its enactment is left
abbrev pub key_line : Expanded → List Value → KeyStatus → List ℕ
key_line x key status = line_of (codes "key" ∷ map value_spelling key ++ status_fields x status)
