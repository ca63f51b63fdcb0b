-- What is read of a text: its statements, and why the line after them is refused.
use Rattle.std.specs.Prelude.{◌≡◌, ℕ, List, [], MatchOption, Option}
use Rattle.bspl_types.specs.declared.expanded.Expanded.{Expanded}
use Rattle.agent_scripts.specs.declared.refusal.ScriptRefusal.{ScriptRefusal}
use Rattle.agent_scripts.specs.declared.statement.Stated.{Stated}
use Rattle.agent_scripts.specs.declared.statement.Statement.{Statement}
use Rattle.agent_scripts.specs.declared.statement.Statement.TheVariants.{Set, Decline}
use Rattle.agent_scripts.specs.ScriptText.{IsReadTo, IsRefusedNext}
use Rattle.agent_scripts.specs.Table.{IsSetting, IsEvery}

-- the lines of the text were read up to the first that is bad, which is refused in that way
pub record IsScriptRead
    (x : Expanded) (text : List ℕ) (stated : List Stated) (refusal : Option ScriptRefusal)
    : Type 0 where
  pub rest : List (ℕ × List ℕ)
  pub to : IsReadTo x text stated rest
  pub refused : MatchOption refusal (rest ≡ []) (IsRefusedNext x stated rest)

-- the numbers of a setting and of a declined message are those that the table has
abbrev pub HasNumbers : Statement → Type 0
HasNumbers (Set setting n) = IsSetting setting n
HasNumbers (Decline _ every) = IsEvery every
HasNumbers _ = Unit {0}
