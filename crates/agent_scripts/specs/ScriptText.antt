-- Which text gives which script and plan, and which line of a text is the first bad one.
use Rattle.std.specs.Prelude.{◌≡◌, ℕ, Bool, true, not, List, [], ◌∷◌, ◌++◌, length, map, take}
use Rattle.std.specs.Prelude.{◌⊎◌, codes}
use Rattle.std.specs.List.{AllZip, filter, enumerate_from}
use Rattle.std.specs.Str.{bytes_eq}
use Rattle.bspl_types.specs.declared.expanded.Expanded.{Expanded}
use Rattle.agent_scripts.specs.declared.refusal.ScriptRefusal.{ScriptRefusal}
use Rattle.agent_scripts.specs.declared.refusal.ScriptRefusal.TheVariants.{Form, Unknown, NoMemory}
use Rattle.agent_scripts.specs.declared.statement.Stated.{Stated}
use Rattle.agent_scripts.specs.declared.statement.Statement.{Statement}
use Rattle.agent_scripts.specs.Lines.{script_lines}
use Rattle.agent_scripts.specs.Statement.{HasLineForm, Means}
use Rattle.agent_scripts.specs.Rules.{KeepsRules, ValueFits}
use Rattle.agent_scripts.specs.StatedScript.{keys_given}
use Rattle.text_lines.specs.Fields.{Field, fields_of}

-- a line without fields and a comment are passed over
abbrev pub is_passed_over : List Field → Bool
is_passed_over [] = true
is_passed_over (first ∷ _) = bytes_eq (take 2 first) (codes "//")

-- the other lines of a text, each with its number, counted from 1
abbrev pub telling_lines : List ℕ → List (ℕ × List ℕ)
telling_lines text =
    filter (λ (_, line). not (is_passed_over (fields_of line)))
    (enumerate_from 1 (script_lines text))

-- the line says the statement, which has its number
abbrev pub MeansAt : Expanded → ℕ × List ℕ → Stated → Type 0
MeansAt x (n, line) s = (s.line ≡ n) × Means x (fields_of line) s.statement

-- what is stated
abbrev pub statements_of : List Stated → List Statement
statements_of stated = map (λ s. s.statement) stated

-- each statement keeps the rules after those before it
abbrev pub KeepRules : List Statement → Type 0
KeepRules statements =
    (before after : List Statement) (s : Statement) → statements ≡ before ++ s ∷ after →
    KeepsRules before s

-- the line says nothing that keeps the rules after what is stated
abbrev pub IsBadLine : Expanded → List Stated → List ℕ → Type 0
IsBadLine x stated line = ¬ HasLineForm x (fields_of line)
    ⊎ ((s : Statement) × Means x (fields_of line) s × ¬ KeepsRules (statements_of stated) s)

-- the line has the form of the table, but says nothing of the protocol
abbrev pub NamesUndeclared : Expanded → List ℕ → Type 0
NamesUndeclared x line =
    HasLineForm x (fields_of line) × ((s : Statement) → ¬ Means x (fields_of line) s)

-- of the lines that follow what is stated the first is bad, in that way
abbrev pub IsRefusedNext
    : Expanded → List Stated → List (ℕ × List ℕ) → ScriptRefusal → Type 0
IsRefusedNext x stated [] refusal = ⊥
IsRefusedNext x stated ((n, line) ∷ _) (Form k) = (k ≡ n) × IsBadLine x stated line
IsRefusedNext x stated ((n, line) ∷ _) (Unknown k) = (k ≡ n) × NamesUndeclared x line
IsRefusedNext x stated (_ ∷ _) NoMemory = ⊥

-- nothing follows, or a bad line
abbrev pub EndsScript : Expanded → List Stated → List (ℕ × List ℕ) → Type 0
EndsScript x stated rest =
    (rest ≡ []) ⊎ ((refusal : ScriptRefusal) × IsRefusedNext x stated rest refusal)

-- the lines up to the first that is bad by its form, its names or those before it: what they state,
-- and the lines from there on
pub record IsReadTo
    (x : Expanded) (text : List ℕ) (stated : List Stated) (rest : List (ℕ × List ℕ))
    : Type 0 where
  pub before : List (ℕ × List ℕ)
  pub lines : telling_lines text ≡ before ++ rest
  pub said : AllZip (MeansAt x) before stated
  pub rules : KeepRules (statements_of stated)
  pub end : EndsScript x stated rest

-- the value of the statement fits 64 bits at each workload number that is stated
abbrev pub HasValueInRange : Expanded → List Stated → Stated → Type 0
HasValueInRange x stated s =
    ValueFits (length (keys_given (length x.keys) (statements_of stated))) s.statement
