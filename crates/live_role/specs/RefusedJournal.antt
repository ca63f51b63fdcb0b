-- When a journal is refused, and the line in which that is reported.
use Rattle.std.specs.Prelude.{◌≡◌, ◌⊎◌, ℕ, ◌+◌, ◌==◌, List, ◌++◌, codes, length}
use Rattle.std.specs.Fmt.{decimal}
use Rattle.std.specs.declared.io.Error.{Error}
use Rattle.std.specs.List.{filter}
use Rattle.bspl_types.specs.declared.expanded.Expanded.{Expanded}
use Rattle.kept_lines.specs.declared.open_refusal.OpenRefusal.{OpenRefusal}
use Rattle.kept_lines.specs.declared.open_refusal.OpenRefusal.TheVariants as opening
use Rattle.kept_lines.specs.Restored.{RestoresText, StopsAtLine}
use Rattle.local_store.specs.State.{StoreState}
use Rattle.role_questions.specs.Asked.{AskedReplies}
use Rattle.role_server.specs.Live.{first_live_store}
use Rattle.tool_input.specs.Lines.{line}
use Rattle.live_role.specs.Journal.{FindsJournal, IsJournalHead, JournalsAt}
use Rattle.live_role.specs.declared.journal_refusal.JournalRefusal.{JournalRefusal}
use Rattle.live_role.specs.declared.journal_refusal.JournalRefusal.TheVariants.{AnotherJournal, Failed}
use Rattle.live_role.specs.declared.journal_refusal.JournalRefusal.TheVariants.{InUse, NoEvent}

-- how many LFs are among the bytes
abbrev pub lf_count : List ℕ → ℕ
lf_count bytes = length (filter (λ byte. byte == 10) bytes)

-- the line of the file with this number, from 1, makes no event, and each line before it and behind
-- the head makes one
pub record MakesNoEvent {J : Type 0} (at : JournalsAt J) (path : List ℕ) (x : Expanded) (role : ℕ)
    (number : ℕ) : Type 0 where
  pub head : List ℕ
  pub lines : List ℕ
  pub found : FindsJournal at path x role head lines
  pub behind_head : ℕ
  pub stops : StopsAtLine AskedReplies (first_live_store x role) lines behind_head
  pub number_is : number ≡ lf_count head + behind_head

-- a journal of the role at the path is refused
pub record RefusesHead {J : Type 0} (at : JournalsAt J) (path : List ℕ) (x : Expanded) (role : ℕ)
    (refusal : OpenRefusal) : Type 0 where
  pub head : List ℕ
  pub is_head : IsJournalHead x role head
  pub refused : at.refuses path head refusal

-- a journal of the role at the path cannot be opened, made or read; or it is there, each of its
-- lines makes an event, and it cannot be gone on with
abbrev pub FailsToUse : {J : Type 0} → JournalsAt J → List ℕ → Expanded → ℕ → Type 0
FailsToUse at path x role =
    ((error : Error) × RefusesHead at path x role (opening.Failed error)) ⊎
    ((head lines : List ℕ) × (store : StoreState) × FindsJournal at path x role head lines ×
    RestoresText AskedReplies (first_live_store x role) lines store)

-- why the journal at the path is refused
abbrev pub RefusesJournal : {J : Type 0} → JournalsAt J → List ℕ → Expanded → ℕ → JournalRefusal →
    Type 0
RefusesJournal at path x role (NoEvent number) = MakesNoEvent at path x role number
RefusesJournal at path x role AnotherJournal = RefusesHead at path x role opening.AnotherJournal
RefusesJournal at path x role InUse = RefusesHead at path x role opening.InUse
RefusesJournal at path x role Failed = FailsToUse at path x role

-- the line in which a refused journal is reported
abbrev pub journal_line : JournalRefusal → List ℕ
journal_line (NoEvent number) = line (codes "refused J1 " ++ decimal number)
journal_line AnotherJournal = line (codes "refused J2")
journal_line InUse = line (codes "refused J3")
journal_line Failed = line (codes "refused J4")
