-- Why a role does not begin.
use Rattle.std.specs.Prelude.{ℕ, ◌+◌, ◌≤◌, List, Option, None, Some, length, ⊤}
use Rattle.bspl_types.specs.declared.expanded.Expanded.{Expanded}
use Rattle.kept_lines.specs.declared.kept_text.RestoreRefusal.{RestoreRefusal}
use Rattle.kept_lines.specs.declared.kept_text.RestoreRefusal.TheVariants as restoring
use Rattle.kept_lines.specs.declared.open_refusal.OpenRefusal.{OpenRefusal}
use Rattle.kept_lines.specs.declared.open_refusal.OpenRefusal.TheVariants as opening
use Rattle.live_role.specs.Journal.{JournalsAt}
use Rattle.live_role.specs.RefusedJournal.{RefusesJournal, lf_count}
use Rattle.live_role.specs.Request.{JournalRequest}
use Rattle.live_role.specs.declared.begun.Unbegun.{Unbegun}
use Rattle.live_role.specs.declared.begun.Unbegun.TheVariants.{Refused, NoMemory}
use Rattle.live_role.specs.declared.journal_refusal.JournalRefusal.TheVariants.{AnotherJournal, Failed, InUse, NoEvent}

-- its journal is refused, or memory ran out
abbrev pub CannotBegin : {J : Type 0} → JournalsAt J → Option JournalRequest → Expanded → ℕ →
    Unbegun → Type 0
CannotBegin at None x role (Refused refusal) = ⊥
CannotBegin at (Some j) x role (Refused refusal) = RefusesJournal at j.path x role refusal
CannotBegin at wanted x role NoMemory = ⊤

-- what becomes of a refusal to open the journal
abbrev pub unbegun_by : OpenRefusal → Unbegun
unbegun_by opening.AnotherJournal = Refused AnotherJournal
unbegun_by opening.InUse = Refused InUse
unbegun_by (opening.Failed error) = Refused Failed
unbegun_by opening.NoMemory = NoMemory

-- what becomes of a refusal to restore its lines, which are numbered behind the head
abbrev pub unrestored_by : List ℕ → RestoreRefusal → Unbegun
unrestored_by head (restoring.NotKept number) = Refused (NoEvent (lf_count head + number))
unrestored_by head restoring.NoMemory = NoMemory

-- a line that is named is not past the end of the lines, each of which has a byte
abbrev pub NamesLineOf : List ℕ → RestoreRefusal → Type 0
NamesLineOf lines (restoring.NotKept number) = number ≤ length lines
NamesLineOf lines restoring.NoMemory = ⊤
