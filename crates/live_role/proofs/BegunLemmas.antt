-- A line of a journal that makes no event, and its number in the file.
use Rattle.std.proofs.Common.{◌≡◌, ◌==◌, ◌≤◌, ◌+◌, ℕ, Bool, true, false, List, [], ◌∷◌, ◌++◌, Some, ap, refl, arith, length, length-append}
use Rattle.std.specs.Prelude.{if◌then◌else◌}
use Rattle.std.specs.List.{filter, onto_first}
use Rattle.bspl_types.specs.declared.expanded.Expanded.{Expanded}
use Rattle.kept_lines.specs.declared.kept_text.RestoreRefusal.{RestoreRefusal}
use Rattle.kept_lines.specs.declared.kept_text.RestoreRefusal.TheVariants as restoring
use Rattle.kept_lines.specs.Restored.{FailsToRestore}
use Rattle.list_base.specs.Lines.{lines_of}
use Rattle.role_questions.specs.Asked.{AskedReplies}
use Rattle.role_server.specs.Live.{first_live_store}
use Rattle.live_role.specs.Journal.{FindsJournal, JournalsAt}
use Rattle.live_role.specs.RefusedJournal.{lf_count}
use Rattle.live_role.specs.Request.{JournalRequest}
use Rattle.live_role.specs.inner.Begun.{CannotBegin, NamesLineOf, unrestored_by}

-- either list is short
short_both : {X : Type 0} (test : Bool) (xs ys : List X) (most : ℕ) → length xs ≤ most → length ys ≤ most → length (if test then xs else ys) ≤ most
short_both true xs ys most first second = first
short_both false xs ys most first second = second

-- at most each byte is an LF
pub lf_few : (bytes : List ℕ) → lf_count bytes ≤ length bytes
lf_few [] = omega arith
lf_few (x ∷ xs) = short_both (x == 10) (x ∷ filter (λ byte. byte == 10) xs) (filter (λ byte. byte == 10) xs) (length (x ∷ xs)) (omega (arith, lf_few xs)) (omega (arith, lf_few xs))

-- a byte begins at most one line
onto_one : (x : ℕ) (lines : List (List ℕ)) → length (onto_first x lines) ≤ length lines + 1
onto_one x [] = omega arith
onto_one x (line ∷ lines) = omega arith

-- each line has a byte
lines_few : (bytes : List ℕ) → length (lines_of bytes) ≤ length bytes
lines_few [] = omega arith
lines_few (x ∷ xs) = short_both (x == 10) ((x ∷ []) ∷ lines_of xs) (onto_first x (lines_of xs)) (length (x ∷ xs)) (omega (arith, lines_few xs)) (omega (arith, lines_few xs, onto_one x (lines_of xs)))

module _ (x : Expanded) (role : ℕ) (lines : List ℕ) where
  -- the line that is named is one of the text
  pub names_line : (refusal : RestoreRefusal) → FailsToRestore AskedReplies (first_live_store x role) lines refusal → NamesLineOf lines refusal
  names_line restoring.NoMemory stops = tt
  names_line (restoring.NotKept number) stops =
      let whole : length (lines_of lines) ≡ length (lines_of stops.before ++ stops.line ∷ stops.after) = ap length stops.whole in
      omega (arith, stops.numbered, whole, length-append (lines_of stops.before) (stops.line ∷ stops.after), lines_few lines)

  -- the journal is refused for it
  pub no_event : {J : Type 0} (at : JournalsAt J) (j : JournalRequest) (head : List ℕ) (refusal : RestoreRefusal) → FindsJournal at j.path x role head lines → FailsToRestore AskedReplies (first_live_store x role) lines refusal → CannotBegin at (Some j) x role (unrestored_by head refusal)
  no_event at j head restoring.NoMemory found stops = tt
  no_event at j head (restoring.NotKept number) found stops = record { head = head; lines = lines; found = found; behind_head = number; stops = stops; number_is = refl }
