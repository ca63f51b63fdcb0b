-- What `restart` answers on an admitted protocol and the text of its agents.
use Rattle.std.specs.Prelude.{◌≡◌, ℕ, Bool, List, [], ◌++◌, length}
use Rattle.bspl_types.specs.declared.expanded.Expanded.{Expanded}
use Rattle.tool_input.specs.declared.need.Need.TheVariants.{Part}
use Rattle.tool_input.specs.Rules.{CommandRules}
use Rattle.tool_input.specs.declared.parts.Part.TheVariants as part
use Rattle.tool_input.specs.declared.status.Status.{Status}
use Rattle.verdict.specs.declared.outcome.Safety.{Safety}
use Rattle.verdict.specs.declared.outcome.Safety.TheVariants.{Safe, Undecided, Unsafe}
use Rattle.agent_commands.specs.RestartedText.{SaysRestarts}
use Rattle.agent_commands.specs.RunAnswer.{IsRunAnswer, IsRunRefused}

-- a line on the agents of a protocol that is found safe says how many roles were restarted; no
-- others play
abbrev pub RestartsText : Safety → ℕ → List ℕ → Type 0
RestartsText (Safe log) roles text = SaysRestarts roles text
RestartsText (Unsafe run param first second) roles text = text ≡ []
RestartsText (Undecided log) roles text = text ≡ []

-- the output is an answer of `run` without threads, and then that line, if agents played; the
-- status is that of `run`
pub record IsRestartAnswer (brief : Bool) (budget : ℕ) (x : Expanded) (part out : List ℕ)
    (status : Status) : Type 0 where
  pub ran : List ℕ
  pub answer : IsRunAnswer brief budget 0 x part ran status
  pub restarts_text : List ℕ
  pub restarts : RestartsText answer.answer.verdicts.safety (length x.roles) restarts_text
  pub text : out ≡ ran ++ restarts_text

-- it needs agents, and refuses their text as `run` does; its evidence may be another
abbrev pub restart_rules : Bool → ℕ → CommandRules
restart_rules brief budget = record {
  needs = Part part.Agents;
  answers = IsRestartAnswer brief budget;
  refuses = IsRunRefused;
  is_determined = ⊥;
}
