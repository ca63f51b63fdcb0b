-- What the commands that play agents have in common: what is written of these, and how their text is refused.
use Rattle.std.proofs.Common.{◌≡◌, ℕ, List, Some, sym, ◌∙◌, ap, subst}
use Rattle.std.specs.Prelude.{IfSome}
use Rattle.agent_scripts.specs.declared.plan.Plan.{Plan}
use Rattle.agent_scripts.specs.declared.refusal.ScriptRefusal.{ScriptRefusal}
use Rattle.agent_scripts.specs.declared.refusal.ScriptRefusal.TheVariants.{Form, NoMemory, Unknown}
use Rattle.agent_scripts.specs.Job.{Job}
use Rattle.agent_scripts.specs.Refusal.{IsScriptText}
use Rattle.agent_scripts.specs.Script.{Script}
use Rattle.bspl_types.specs.declared.expanded.Expanded.{Expanded}
use Rattle.bspl_types.specs.Admission.{IsAdmitted}
use Rattle.script_text.specs.Laws.{OneRefusal, ScriptIsNotRefused}
use Rattle.verdict.specs.declared.outcome.Safety.{Safety}
use Rattle.verdict.specs.declared.outcome.Safety.TheVariants.{Safe, Undecided, Unsafe}
use Rattle.tool_input.specs.declared.rejection.Rejection.{Rejection}
use Rattle.agent_commands.specs.declared.world_report.WorldReport.{WorldReport}
use Rattle.agent_commands.specs.PlayedText.{AgentsText, IsPlayedText}
use Rattle.agent_commands.specs.RunAnswer.{IsRunRefused}
use Rattle.rejections.specs.PartRejection.{script_rejection}
use Rattle.bspl_tool.proofs.ClaimsNothing.{IsBlock, no_lines}
use Rattle.bspl_tool.proofs.RejectedNames.{HasNames}
use Rattle.bspl_tool.proofs.WorldLines.{report_is_block}

-- the text of agents is read once
pub record OneAgents : Type 0 where
  pub refusals : OneRefusal
  pub exclusive : ScriptIsNotRefused

-- what is written of the agents claims nothing
pub agents_are_block : (report : WorldReport) (threads : ℕ) (job : Job) (safety : Safety) (text : List ℕ) → AgentsText (IsPlayedText report threads job) safety text → IsBlock text
agents_are_block report threads job (Safe log) text played = report_is_block report job.protocol job.script played.finished.run text played.text_is
agents_are_block report threads job (Unsafe run param first second) text none = subst IsBlock (sym none) no_lines
agents_are_block report threads job (Undecided log) text none = subst IsBlock (sym none) no_lines

-- a line of a text is no name
line_names : (refusal : ScriptRefusal) → IfSome (script_rejection refusal) HasNames
line_names (Form number) = record { first = tt; second = tt }
line_names (Unknown number) = record { first = tt; second = tt }
line_names NoMemory = tt

-- so its refusals have no names but such
pub agents_names : (x : Expanded) (part : List ℕ) (r : Rejection) → IsRunRefused x part r → HasNames r
agents_names x part r refused = subst (λ o. IfSome o HasNames) refused.rejection_is (line_names refused.refusal)

-- a text is refused for one line
pub refused_once : OneAgents → (x : Expanded) (part : List ℕ) (r s : Rejection) → IsAdmitted x → IsRunRefused x part r → IsRunRefused x part s → r ≡ s
refused_once once x part r s admitted one other =
    let same = once.refusals x part one.refusal other.refusal admitted one.refused other.refused in
    let rejections : Some r ≡ Some s = sym one.rejection_is ∙ ap script_rejection same ∙ other.rejection_is in
    cc

-- or it gives a script
pub script_or_refusal : OneAgents → (x : Expanded) (part : List ℕ) (script : Script) (plan : Plan) (r : Rejection) → IsAdmitted x → IsScriptText x part script plan → IsRunRefused x part r → ⊥
script_or_refusal once x part script plan r admitted given refused = once.exclusive x part script plan refused.refusal admitted given refused.refused
