-- The laws of `generate`.
use Rattle.std.proofs.Common.{ℕ, List, ◌++◌, take, codes, length, refl, sym, subst}
use Rattle.agent_scripts.specs.Job.{Job}
use Rattle.bspl_types.specs.declared.expanded.Expanded.{Expanded}
use Rattle.report.specs.Summary.{count_line, generated_text}
use Rattle.report.specs.VerdictText.{liveness_line, safety_line}
use Rattle.verdict.specs.declared.outcome.Verdicts.{Verdicts}
use Rattle.verdict.specs.Verdicts.{AreRightAnswers}
use Rattle.tool_input.specs.declared.status.Status.{Status}
use Rattle.agent_commands.specs.declared.world_report.WorldReport.TheVariants.{Summary}
use Rattle.agent_commands.specs.GenerateAnswer.{IsGenerateAnswer, generate_rules}
use Rattle.bspl_tool.proofs.AgentsLaws.{OneAgents, agents_are_block, agents_names, refused_once, script_or_refusal}
use Rattle.bspl_tool.proofs.ClaimsNothing.{IsBlock, block_joined}
use Rattle.bspl_tool.proofs.CommandLaws.{CommandLaws, IsHonest}
use Rattle.bspl_tool.proofs.VerdictLines.{liveness_line_alone, liveness_line_claim, liveness_line_of_none, parts_are_honest, safety_line_alone, safety_line_claim, safety_line_of_none}
use Rattle.bspl_tool.proofs.WorldLines.{count_is_block}

-- each prefix of the lines of right verdicts, and lines that claim nothing, claims only what is true
generated_is_honest : (stages budget : ℕ) (x : Expanded) (v : Verdicts) (more : List ℕ) (n : ℕ) → AreRightAnswers x budget v → IsBlock more → IsHonest x (take n (generated_text stages x v ++ more))
generated_is_honest stages budget x v more n right block =
    let messages = length x.messages in
    let before = count_line (codes "generate") stages ++ count_line (codes "messages") messages in
    let counts = block_joined (count_is_block (codes "generate") stages refl refl) (count_is_block (codes "messages") messages refl refl) in
    parts_are_honest x before (safety_line x v.safety) (liveness_line x v.liveness) more n counts
    (safety_line_claim budget x v.safety right.safety) (safety_line_alone x v.safety) (liveness_line_claim budget x v.liveness right.liveness) (liveness_line_alone x v.liveness) block
    (safety_line_of_none x v.safety) (liveness_line_of_none x v.liveness)

-- so an answer claims only what is true
generate_is_honest : (stages budget threads : ℕ) (x : Expanded) (part out : List ℕ) (status : Status) (n : ℕ) → IsGenerateAnswer stages budget threads x part out status → IsHonest x (take n out)
generate_is_honest stages budget threads x part out status n answer =
    let job : Job = record { protocol = x; script = answer.script; plan = answer.plan } in
    let of = answer.answer in
    let agents = agents_are_block Summary threads job of.verdicts.safety of.agents_text of.played in
    subst (λ text. IsHonest x (take n text)) (sym of.text) (generated_is_honest stages budget x of.verdicts of.agents_text n of.right agents)

-- the laws of the command
pub generate_laws : (stages budget threads : ℕ) → CommandLaws OneAgents (generate_rules stages budget threads)
generate_laws stages budget threads = record {
  honest = generate_is_honest stages budget threads;
  names = agents_names;
  distinct = λ once x part out status r admitted answer refused. script_or_refusal once x part answer.script answer.plan r admitted answer.given refused;
  one_refusal = refused_once;
  one_answer = λ once x part out out' status status' admitted determined one other. absurd determined;
}
