-- What is learnt by reading the lines of a text, one after the other.
use Rattle.std.specs.Prelude.{◌≡◌, ◌⊎◌, ℕ, true, false, List, [], ◌∷◌, ◌++◌, Result, Ok, Err}
use Rattle.bspl_types.specs.declared.expanded.Expanded.{Expanded}
use Rattle.agent_scripts.specs.declared.refusal.ScriptRefusal.{ScriptRefusal}
use Rattle.agent_scripts.specs.declared.refusal.ScriptRefusal.TheVariants as refusals
use Rattle.agent_scripts.specs.declared.statement.Stated.{Stated}
use Rattle.agent_scripts.specs.Rules.{KeepsRules}
use Rattle.agent_scripts.specs.ScriptText.{IsRefusedNext, MeansAt, is_passed_over}
use Rattle.agent_scripts.specs.ScriptText.{statements_of}
use Rattle.list_base.specs.declared.memory.NoMemory.{NoMemory}
use Rattle.script_text.specs.declared.next_line.Progress.{Progress}
use Rattle.script_text.specs.declared.next_line.Progress.TheVariants.{More, Refused}
use Rattle.script_text.specs.Reading.{HasNumbers}
use Rattle.text_lines.specs.Fields.{fields_of}

-- the line says what keeps the rules after the statements
pub record GoesOn (x : Expanded) (stated : List Stated) (line : ℕ × List ℕ) (s : Stated)
    : Type 0 where
  pub says : MeansAt x line s
  pub rules : KeepsRules (statements_of stated) s.statement
  pub numbers : HasNumbers s.statement

-- the line goes on, or it is refused
abbrev pub ReadsNext
    : Expanded → List Stated → ℕ × List ℕ → Result Stated ScriptRefusal → Type 0
ReadsNext x stated line (Ok s) = GoesOn x stated line s
ReadsNext x stated line (Err refusals.NoMemory) = Unit {0}
ReadsNext x stated line (Err refusal) = IsRefusedNext x stated (line ∷ []) refusal

-- there is one statement more, that of the line
pub record HasOneMore
    (x : Expanded) (stated : List Stated) (line : ℕ × List ℕ) (more : List Stated) : Type 0 where
  pub s : Stated
  pub goes_on : GoesOn x stated line s
  pub more_are : more ≡ stated ++ s ∷ []

-- the line is passed over, or has its statement, or is refused
abbrev pub ReadsLine : Expanded → List Stated → ℕ × List ℕ → Result Progress NoMemory → Type 0
ReadsLine x stated (n, line) (Ok (More more)) =
    ((is_passed_over (fields_of line) ≡ true) × (more ≡ stated))
    ⊎ ((is_passed_over (fields_of line) ≡ false) × HasOneMore x stated (n, line) more)
ReadsLine x stated (n, line) (Ok (Refused same refusal)) =
    (is_passed_over (fields_of line) ≡ false) × (same ≡ stated)
    × IsRefusedNext x stated ((n, line) ∷ []) refusal
ReadsLine x stated (n, line) (Err _) = Unit {0}
