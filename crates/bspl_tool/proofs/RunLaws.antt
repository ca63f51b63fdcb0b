-- The laws of `run`.
use Rattle.std.proofs.Common.{ℕ, Bool, List, ◌++◌, take, sym, ◌∙◌, ap, subst}
use Rattle.agent_scripts.specs.Job.{Job}
use Rattle.bspl_types.specs.declared.expanded.Expanded.{Expanded}
use Rattle.tool_input.specs.declared.status.Status.{Status}
use Rattle.agent_commands.specs.declared.world_report.WorldReport.TheVariants.{Table}
use Rattle.agent_commands.specs.RunAnswer.{IsRunAnswer, run_rules}
use Rattle.bspl_tool.proofs.AgentsLaws.{OneAgents, agents_are_block, agents_names, refused_once, script_or_refusal}
use Rattle.bspl_tool.proofs.CommandLaws.{CommandLaws, IsHonest}
use Rattle.bspl_tool.proofs.VerifyLaws.{verdict_is_honest}

-- an answer claims only what is true
run_is_honest : (brief : Bool) (budget threads : ℕ) (x : Expanded) (part out : List ℕ) (status : Status) (n : ℕ) → IsRunAnswer brief budget threads x part out status → IsHonest x (take n out)
run_is_honest brief budget threads x part out status n answer =
    let job : Job = record { protocol = x; script = answer.script; plan = answer.plan } in
    let of = answer.answer in
    let agents = agents_are_block Table threads job of.verdicts.safety of.agents_text of.played in
    let is = of.text ∙ ap (λ verdicts. verdicts ++ of.agents_text) of.verified.text in
    subst (λ text. IsHonest x (take n text)) (sym is) (verdict_is_honest brief budget x of.verdicts of.agents_text n of.verified.right agents)

-- the laws of the command
pub run_laws : (brief : Bool) (budget threads : ℕ) → CommandLaws OneAgents (run_rules brief budget threads)
run_laws brief budget threads = record {
  honest = run_is_honest brief budget threads;
  names = agents_names;
  distinct = λ once x part out status r admitted answer refused. script_or_refusal once x part answer.script answer.plan r admitted answer.given refused;
  one_refusal = refused_once;
  one_answer = λ once x part out out' status status' admitted determined one other. absurd determined;
}
