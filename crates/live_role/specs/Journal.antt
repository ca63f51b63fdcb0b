-- How a role begins: with no journal, or with the lines of one.
use Rattle.std.specs.Prelude.{◌≡◌, ℕ, Bool, List, ◌++◌, Option, None, Some, IfSome, codes}
use Rattle.bspl_types.specs.declared.expanded.Expanded.{Expanded}
use Rattle.history_audit.specs.HistoryText.{role_line}
use Rattle.kept_lines.specs.declared.open_refusal.OpenRefusal.{OpenRefusal}
use Rattle.kept_lines.specs.Restored.{RestoresText}
use Rattle.local_store.specs.State.{StoreState}
use Rattle.protocol_expand.specs.Printed.{IsPrinted}
use Rattle.role_questions.specs.Asked.{AskedReplies}
use Rattle.role_server.specs.Live.{first_live_store}
use Rattle.live_role.specs.Request.{JournalRequest}
use Rattle.live_role.specs.declared.journal_choice.RoleJournal.{RoleJournal}
use Rattle.live_role.specs.declared.journal_choice.RoleJournal.TheVariants.{Unkept, Kept}

-- what is known of journals: at a path, with a head, which lines are found, and why none is; which
-- lines every crash leaves of a journal, and whether they are synced
pub record JournalsAt (J : Type 0) : Type 1 where
  pub finds : List ℕ → List ℕ → List ℕ → Type 0
  pub refuses : List ℕ → List ℕ → OpenRefusal → Type 0
  pub kept : J → Option (List ℕ)
  pub is_synced : J → Bool → Type 0

-- these facts, for the journals of this place
abbrev pub journals_at : {F J : Type 0} → (F → List ℕ → List ℕ → List ℕ → Type 0) →
    (F → List ℕ → List ℕ → OpenRefusal → Type 0) → (J → Option (List ℕ)) →
    (J → Bool → Type 0) → F → JournalsAt J
journals_at finds refuses kept is_synced place = record {
  finds = finds place;
  refuses = refuses place;
  kept = kept;
  is_synced = is_synced;
}

-- the head of the journals of a role: the expansion of the protocol, as `bspl expand` prints it,
-- and the lines after which an input of `bspl serve` goes on with the lines for the role
pub record IsJournalHead (x : Expanded) (role : ℕ) (head : List ℕ) : Type 0 where
  pub expansion : List ℕ
  pub printed : IsPrinted x expansion
  pub whole : head ≡ expansion ++ (codes "%% wire\n" ++ role_line x role)

-- a journal of the role is found at the path, with these lines behind its head
pub record FindsJournal {J : Type 0} (at : JournalsAt J) (path : List ℕ) (x : Expanded) (role : ℕ)
    (head lines : List ℕ) : Type 0 where
  pub is_head : IsJournalHead x role head
  pub found : at.finds path head lines

-- the lines that every crash leaves, if there is a journal and they are known
abbrev pub kept_by : {J : Type 0} → (J → Option (List ℕ)) → RoleJournal J → Option (List ℕ)
kept_by kept Unkept = None
kept_by kept (Kept journal) = kept journal

-- how often keeping failed; without a journal it does not
abbrev pub faults_by : {J : Type 0} → (J → ℕ) → RoleJournal J → ℕ
faults_by faults Unkept = 0
faults_by faults (Kept journal) = faults journal

-- the role begins with what the lines of its journal restore, each of which makes an event; these
-- are what the journal keeps, which syncs as it was asked to
pub record RestoresRole {J : Type 0} (at : JournalsAt J) (j : JournalRequest) (x : Expanded)
    (role : ℕ) (store : StoreState) (journal : J) : Type 0 where
  pub head : List ℕ
  pub lines : List ℕ
  pub found : FindsJournal at j.path x role head lines
  pub restored : RestoresText AskedReplies (first_live_store x role) lines store
  pub kept : IfSome (at.kept journal) (λ known. known ≡ lines)
  pub synced : at.is_synced journal j.syncs

-- the role begins with a new store where no journal is asked for, and else with its journal
abbrev pub BeginsFrom : {J : Type 0} → JournalsAt J → Option JournalRequest → Expanded → ℕ →
    StoreState → RoleJournal J → Type 0
BeginsFrom at None x role store Unkept = store ≡ first_live_store x role
BeginsFrom at None x role store (Kept journal) = ⊥
BeginsFrom at (Some j) x role store Unkept = ⊥
BeginsFrom at (Some j) x role store (Kept journal) = RestoresRole at j x role store journal
