-- The answer to a text: its script and plan, or its first bad line.
use Rattle.std.specs.Prelude.{◌≡◌, ℕ, List, [], ◌∷◌, ◌++◌, ◌⊎◌}
use Rattle.std.specs.List.{All}
use Rattle.bspl_types.specs.declared.expanded.Expanded.{Expanded}
use Rattle.agent_scripts.specs.declared.plan.Plan.{Plan}
use Rattle.agent_scripts.specs.declared.refusal.ScriptRefusal.{ScriptRefusal}
use Rattle.agent_scripts.specs.declared.refusal.ScriptRefusal.TheVariants.{Form}
use Rattle.agent_scripts.specs.declared.statement.Stated.{Stated}
use Rattle.agent_scripts.specs.StatedScript.{IsGivenScript, IsGivenPlan}
use Rattle.agent_scripts.specs.Script.{Script}
use Rattle.agent_scripts.specs.ScriptText.{IsReadTo, IsRefusedNext, HasValueInRange, statements_of}

-- no line of the text is bad, and its statements give the script and the plan
pub record IsScriptText (x : Expanded) (text : List ℕ) (script : Script) (plan : Plan)
    : Type 0 where
  pub stated : List Stated
  pub read : IsReadTo x text stated []
  pub in_range : All (HasValueInRange x stated) stated
  pub script_given : IsGivenScript x (statements_of stated) script
  pub plan_given : IsGivenPlan (statements_of stated) plan

-- some text gives the script
pub record IsScriptFor (x : Expanded) (script : Script) : Type 0 where
  pub text : List ℕ
  pub plan : Plan
  pub gives : IsScriptText x text script plan

-- the statement of line n is the first whose value is out of range
pub record IsFirstOutOfRange (x : Expanded) (stated : List Stated) (n : ℕ) : Type 0 where
  pub before : List Stated
  pub after : List Stated
  pub s : Stated
  pub parts : stated ≡ before ++ s ∷ after
  pub in_range : All (HasValueInRange x stated) before
  pub out : ¬ HasValueInRange x stated s
  pub number : n ≡ s.line

-- the refusal names the first bad line: one with a value out of range, or else the line after
pub record IsRefusedScript (x : Expanded) (text : List ℕ) (refusal : ScriptRefusal)
    : Type 0 where
  pub stated : List Stated
  pub rest : List (ℕ × List ℕ)
  pub read : IsReadTo x text stated rest
  pub bad : ((n : ℕ) × (refusal ≡ Form n) × IsFirstOutOfRange x stated n)
      ⊎ (All (HasValueInRange x stated) stated × IsRefusedNext x stated rest refusal)
