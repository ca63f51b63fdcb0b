-- What a page says of a run that was given.
use Rattle.std.specs.Prelude.{ℕ, List, [], ◌∷◌, ◌++◌, Option, None, Some}
use Rattle.bspl_types.specs.declared.expanded.Expanded.{Expanded}
use Rattle.bspl_types.specs.declared.value.Value.{Value}
use Rattle.bspl_types.specs.Expansion.{param_name}
use Rattle.bspl_types.specs.ValueSpelling.{value_spelling}
use Rattle.enactment_model.specs.declared.bad_event.BadEvent.{BadEvent}
use Rattle.enactment_model.specs.declared.bad_event.Why.{Why}
use Rattle.enactment_model.specs.declared.bad_event.Why.TheVariants.{Bound, Missing, Other, Unsent}
use Rattle.enactment_model.specs.declared.conflicts.Conflict.{Conflict}
use Rattle.html.specs.Fragment.{Fragment, Number, Tag, Words, fitted}
use Rattle.page_sections.specs.declared.wording.TheConstants.{BOUND, CONFLICT, ILLEGAL, LEGAL}
use Rattle.page_sections.specs.declared.wording.TheConstants.{MISSING, OTHER, REPORT, SENTENCE_END}
use Rattle.page_sections.specs.declared.wording.TheConstants.{UNSENT}

-- the parameter of this name, and the value that the sender knows of it
abbrev pub kept_words : List ℕ → List ℕ → Value → List Fragment
kept_words template name kept = fitted template (Words name ∷ Words (value_spelling kept) ∷ [])

-- why an event may not follow those before it
abbrev pub why_words : Expanded → Why → List Fragment
why_words x (Missing p) = fitted MISSING.now (Words (param_name x p) ∷ [])
why_words x (Bound p kept) = kept_words BOUND.now (param_name x p) kept
why_words x (Other p kept) = kept_words OTHER.now (param_name x p) kept
why_words x Unsent = Tag UNSENT.now ∷ []

-- the position of the first bad event of an illegal run, and why it is bad
abbrev pub illegal_words : Expanded → BadEvent → List Fragment
illegal_words x bad =
    fitted ILLEGAL.now (Number bad.place ∷ []) ++ why_words x bad.why ++
    Tag SENTENCE_END.now ∷ []

-- a legal run: both producers of its conflict, and what they produce, or that there is none
abbrev pub legal_words : Expanded → Option Conflict → List Fragment
legal_words x None = Tag LEGAL.now ∷ []
legal_words x (Some found) = fitted CONFLICT.now
    (Number found.first ∷ Number found.second ∷ Words (param_name x found.param) ∷ [])

-- the lines of a report
abbrev pub report_part : List ℕ → List Fragment
report_part report = fitted REPORT.now (Words report ∷ [])
