-- What is answered of agents, from what is read, found and played.
use Rattle.std.proofs.Common.{◌≡◌, ◌≢◌, ℕ, List, [], refl, sym, ◌∙◌, subst, append-nil}
use Rattle.adapter.specs.Desk.{DeskState}
use Rattle.agent_scripts.specs.declared.plan.Plan.{Plan}
use Rattle.agent_scripts.specs.declared.refusal.ScriptRefusal.{ScriptRefusal}
use Rattle.agent_scripts.specs.declared.refusal.ScriptRefusal.TheVariants.{Form, NoMemory, Unknown}
use Rattle.agent_scripts.specs.Job.{Job}
use Rattle.agent_scripts.specs.Refusal.{IsRefusedScript, IsScriptText}
use Rattle.agent_scripts.specs.Script.{Script}
use Rattle.bspl_types.specs.declared.event.Event.{Event}
use Rattle.bspl_types.specs.declared.expanded.Expanded.{Expanded}
use Rattle.enactment_model.specs.Safety.{SafeProtocol}
use Rattle.refutation_log.specs.declared.refutation.Log.{Log}
use Rattle.rejections.specs.PartRejection.{script_rejection}
use Rattle.stamped_history.specs.Explained.{AreLocal}
use Rattle.verdict.specs.declared.outcome.Safety.{Safety}
use Rattle.verdict.specs.declared.outcome.Safety.TheVariants.{Safe, Undecided, Unsafe}
use Rattle.verdict.specs.Right.{IsRight}
use Rattle.world_run.specs.Finished.{IsFinished}
use Rattle.world_run.specs.Settling.{HaveRunWhole}
use Rattle.world_run.specs.World.{AreDesksOf, AreKept, HasHistories, histories_of}
use Rattle.program_frame.specs.declared.reply.Reply.{Reply}
use Rattle.tool_input.specs.declared.status.Status.{Status}
use Rattle.agent_commands.specs.declared.answer.Answer.TheVariants.{Whole, Play}
use Rattle.agent_commands.specs.declared.play_mode.PlayMode.{PlayMode}
use Rattle.agent_commands.specs.declared.play_mode.PlayMode.TheVariants.{InThreads}
use Rattle.agent_commands.specs.declared.world_report.WorldReport.{WorldReport}
use Rattle.agent_commands.specs.PlayedText.{AgentsText, IsPlayedText, ReportsOn}
use Rattle.agent_commands.specs.Answer.{Completes, IsModeText}
use Rattle.agent_commands.specs.RunAnswer.{IsRunRefused}
use Rattle.agent_commands.specs.inner.IfSafe.{IsFoundSafe, PlaysIfSafe}
use Rattle.agent_commands.specs.inner.Job.{IsGivenJob}
use Rattle.tool_input.specs.Answer.{IsRightAnswer}
use Rattle.tool_input.specs.Error.{RejectsFor, error_for}

-- a text that is no agents' is refused at its first bad line
pub script_refused : (x : Expanded) (part : List ℕ) (refusal : ScriptRefusal) → (refusal ≢ NoMemory → IsRefusedScript x part refusal) → RejectsFor (IsRunRefused x part) (error_for (script_rejection refusal))
script_refused x part (Form number) refused = record { refusal = Form number; refused = refused (λ is. absurd (cc)); rejection_is = refl }
script_refused x part (Unknown number) refused = record { refusal = Unknown number; refused = refused (λ is. absurd (cc)); rejection_is = refl }
script_refused x part NoMemory refused = tt

-- the job of a protocol, and of what its agents' text gives
pub given_job : (x : Expanded) (part : List ℕ) (script : Script) (plan : Plan) (job : Job) → job ≡ record { protocol = x; script = script; plan = plan } → IsScriptText x part script plan → IsGivenJob x part job
given_job x part script plan job is given = rw is (record { protocol = refl; given = given })

-- kept desks are those of the job's protocol
pub desks_of : (job : Job) (desks : List DeskState) → AreKept job desks → AreDesksOf job.protocol desks
desks_of job desks kept = record {
  count = kept.count;
  each = λ role d at. record { protocol_is = (kept.each role d at).protocol_is; role_is = (kept.each role d at).role_is };
}

-- the report on a world which has come to its end
pub finished_text : (report : WorldReport) (threads : ℕ) (job : Job) (desks : List DeskState) (text : List ℕ) → IsFinished job desks → (threads ≡ 0 → HaveRunWhole job desks) → ((run : List Event) → AreLocal job.protocol (histories_of desks) → HasHistories job.protocol desks run → ReportsOn report job.protocol job.script run text) → IsPlayedText report threads job text
finished_text report threads job desks text finished course reports = record {
  desks = desks;
  finished = finished;
  course = course;
  text_is = reports finished.run finished.local finished.played_out.run_is.histories_kept;
}

-- the report, if the protocol is found safe
pub report_if_safe : (threads : ℕ) (report : WorldReport) (job : Job) (safety : Safety) (text : List ℕ) → AgentsText (IsModeText (InThreads threads report) job) safety text → AgentsText (IsPlayedText report threads job) safety text
report_if_safe threads report job (Safe log) text is = is
report_if_safe threads report job (Unsafe run param first second) text is = is
report_if_safe threads report job (Undecided log) text is = is

-- no agents play a protocol that is not found safe
nothing_played : (mode : PlayMode) (job : Job) (safety : Safety) → ((log : Log) → safety ≢ Safe log) → AgentsText (IsModeText mode job) safety []
nothing_played mode job (Safe log) other = absurd (other log refl)
nothing_played mode job (Unsafe run param first second) other = refl
nothing_played mode job (Undecided log) other = refl

-- so the reply is the answer
pub whole_if_not_safe : (job : Job) (mode : PlayMode) (safety : Safety) (reply : Reply Status) → ¬ IsFoundSafe safety → IsRightAnswer Completes (PlaysIfSafe job mode safety reply) (Whole reply)
whole_if_not_safe job mode safety reply other = λ out status completes. record {
  agents_text = [];
  played = nothing_played mode job safety (λ log is. other (log, is));
  text = completes.0 ∙ sym (append-nil reply.text);
  ends = completes.1;
}

-- of one that is, the answer is the reply and then what they play
pub playing_if_safe : (job : Job) (mode : PlayMode) (safety : Safety) (reply : Reply Status) → IsFoundSafe safety → IsRightAnswer Completes (PlaysIfSafe job mode safety reply) (Play job mode reply)
playing_if_safe job mode safety reply safe = λ out status completes. record {
  agents_text = completes.played;
  played = subst (λ (s : Safety). AgentsText (IsModeText mode job) s completes.played) (sym safe.1) completes.is_played;
  text = completes.text;
  ends = completes.ends;
}

-- a protocol that is found safe by right verdicts is safe
pub found_safe : (budget : ℕ) (x : Expanded) (s : Safety) → IsRight x budget s → IsFoundSafe s → SafeProtocol x
found_safe budget x s right safe = (subst (IsRight x budget) safe.1 right).holds
