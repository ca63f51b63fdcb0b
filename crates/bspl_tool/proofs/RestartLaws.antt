-- The laws of `restart`.
use Rattle.std.proofs.Common.{◌≡◌, ℕ, Bool, List, ◌++◌, take, codes, refl, sym, ◌∙◌, ap, subst, append_assoc, length}
use Rattle.agent_scripts.specs.Job.{Job}
use Rattle.bspl_types.specs.declared.expanded.Expanded.{Expanded}
use Rattle.report.specs.VerdictText.{verdict_text}
use Rattle.tool_input.specs.declared.status.Status.{Status}
use Rattle.verdict.specs.declared.outcome.Safety.{Safety}
use Rattle.verdict.specs.declared.outcome.Safety.TheVariants.{Safe, Undecided, Unsafe}
use Rattle.agent_commands.specs.declared.world_report.WorldReport.TheVariants.{Table}
use Rattle.agent_commands.specs.RestartAnswer.{IsRestartAnswer, RestartsText, restart_rules}
use Rattle.bspl_tool.proofs.AgentsLaws.{OneAgents, agents_are_block, agents_names, refused_once, script_or_refusal}
use Rattle.bspl_tool.proofs.ClaimsNothing.{IsBlock, block_joined, no_lines}
use Rattle.bspl_tool.proofs.CommandLaws.{CommandLaws, IsHonest}
use Rattle.bspl_tool.proofs.VerifyLaws.{verdict_is_honest}
use Rattle.bspl_tool.proofs.WorldLines.{count_is_block}

-- how many roles were restarted claims nothing
restarts_are_block : (safety : Safety) (roles : ℕ) (text : List ℕ) → RestartsText safety roles text → IsBlock text
restarts_are_block (Safe log) roles text says = subst IsBlock (sym says.text_is) (count_is_block (codes "restarts") says.restarts refl refl)
restarts_are_block (Unsafe run param first second) roles text none = subst IsBlock (sym none) no_lines
restarts_are_block (Undecided log) roles text none = subst IsBlock (sym none) no_lines

-- an answer claims only what is true
restart_is_honest : (brief : Bool) (budget : ℕ) (x : Expanded) (part out : List ℕ) (status : Status) (n : ℕ) → IsRestartAnswer brief budget x part out status → IsHonest x (take n out)
restart_is_honest brief budget x part out status n answer =
    let job : Job = record { protocol = x; script = answer.answer.script; plan = answer.answer.plan } in
    let of = answer.answer.answer in
    let agents = agents_are_block Table 0 job of.verdicts.safety of.agents_text of.played in
    let restarts = restarts_are_block of.verdicts.safety (length x.roles) answer.restarts_text answer.restarts in
    let ran : answer.ran ≡ verdict_text x of.verdicts brief ++ of.agents_text = of.text ∙ ap (λ verdicts. verdicts ++ of.agents_text) of.verified.text in
    let is : out ≡ verdict_text x of.verdicts brief ++ (of.agents_text ++ answer.restarts_text) =
    answer.text ∙ ap (λ text. text ++ answer.restarts_text) ran ∙ append_assoc (verdict_text x of.verdicts brief) of.agents_text answer.restarts_text in
    subst (λ text. IsHonest x (take n text)) (sym is)
    (verdict_is_honest brief budget x of.verdicts (of.agents_text ++ answer.restarts_text) n of.verified.right (block_joined agents restarts))

-- the laws of the command
pub restart_laws : (brief : Bool) (budget : ℕ) → CommandLaws OneAgents (restart_rules brief budget)
restart_laws brief budget = record {
  honest = restart_is_honest brief budget;
  names = agents_names;
  distinct = λ once x part out status r admitted answer refused. script_or_refusal once x part answer.answer.script answer.answer.plan r admitted answer.answer.given refused;
  one_refusal = refused_once;
  one_answer = λ once x part out out' status status' admitted determined one other. absurd determined;
}
