-- What `restart` answers, from what is found and played over disks.
use Rattle.std.proofs.Common.{◌≡◌, ◌≤◌, ℕ, suc, Bool, List, [], ◌∷◌, ◌++◌, length, refl, sym, ◌∙◌, ap, subst, append_assoc, arith, codes}
use Rattle.std.specs.Prelude.{nat_lt}
use Rattle.std.specs.List.{filter}
use Rattle.std.proofs.lemmas.Bool.{cond_both}
use Rattle.std.proofs.lemmas.List.{length-map}
use Rattle.adapter.specs.Desk.{DeskState}
use Rattle.agent_scripts.specs.Job.{Job}
use Rattle.bspl_types.specs.declared.event.Event.{Event}
use Rattle.bspl_types.specs.declared.expanded.Expanded.{Expanded}
use Rattle.bspl_types.specs.History.{history_of}
use Rattle.program_frame.specs.declared.reply.Reply.{Reply}
use Rattle.report.specs.ExitStatus.{verdict_status}
use Rattle.report.specs.Summary.{count_line}
use Rattle.restart_run.specs.Restarted.{IsRestarted}
use Rattle.role_journal.specs.Counts.{Counts}
use Rattle.stamped_history.specs.declared.entry.Entry.{Entry}
use Rattle.stamped_history.specs.Entries.{events_of}
use Rattle.stamped_history.specs.Explained.{AreLocal, history_at}
use Rattle.tool_input.specs.Answer.{IsRightAnswer}
use Rattle.tool_input.specs.declared.status.Status.{Status}
use Rattle.verdict.specs.declared.outcome.Safety.{Safety}
use Rattle.verdict.specs.declared.outcome.Safety.TheVariants.{Safe, Undecided, Unsafe}
use Rattle.verdict.specs.declared.outcome.Verdicts.{Verdicts}
use Rattle.world_run.specs.World.{HasHistories, WorldState, histories_of}
use Rattle.agent_commands.specs.declared.answer.Answer.{Answer}
use Rattle.agent_commands.specs.declared.play_mode.PlayMode.TheVariants.{OverDisks}
use Rattle.agent_commands.specs.declared.wording.TheConstants.{RESTARTS}
use Rattle.agent_commands.specs.declared.world_report.WorldReport.TheVariants.{Table}
use Rattle.agent_commands.specs.PlayedText.{AgentsText, IsPlayedText, ReportsOn}
use Rattle.agent_commands.specs.Answer.{Completes, IsModeText}
use Rattle.agent_commands.specs.RestartAnswer.{IsRestartAnswer, RestartsText}
use Rattle.agent_commands.specs.RestartedText.{IsRestartedText}
use Rattle.verdict_commands.specs.VerifyAnswer.{IsVerdictAnswer}
use Rattle.agent_commands.specs.inner.IfSafe.{PlaysIfSafe}
use Rattle.agent_commands.specs.inner.Job.{IsGivenJob}
use Rattle.agent_commands.specs.inner.Restart.{IsPlayedOver}

-- a filtered list is not longer
filter_short : {X : Type 0} (test : X → Bool) (xs : List X) → length (filter test xs) ≤ length xs
filter_short test [] = omega arith
filter_short test (x ∷ xs) = cond_both (test x) (x ∷ filter test xs) (filter test xs) (λ ys. length ys ≤ suc (length xs))
    (λ yes. omega (arith, filter_short test xs)) (λ no. omega (arith, filter_short test xs))

-- a world that was played over disks, without the disks
pub played_over : {D : Type 0} (may_leave : D → List ℕ → Type 0) (counts : D → Counts) (job : Job) (world : WorldState) (restarts : ℕ) (disks : List D) → IsRestarted may_leave counts job world restarts disks → IsPlayedOver job world restarts
played_over {D} may_leave counts job world restarts disks is = record {
  desks = is.desks;
  finished = is.finished;
  course = is.course;
  few = (let histories : length (histories_of world.desks) ≡ length world.desks = length-map world.desks (λ (d : DeskState). d.store.entries) in
      omega (arith, is.counted, filter_short (λ (d : D). nat_lt 0 (counts d).faults) disks, is.written.count, histories, is.desks.count));
}

-- the report is that on a run of the desks that were played
reported : (job : Job) (world : WorldState) (restarts : ℕ) (text : List ℕ) → IsPlayedOver job world restarts → ((run : List Event) → AreLocal job.protocol (histories_of world.desks) → HasHistories job.protocol world.desks run → ReportsOn Table job.protocol job.script run text) → IsPlayedText Table 0 job text
reported job world restarts text is reports =
    let finished = is.course.course.settles.finished in
    record {
      desks = is.course.played;
      finished = finished;
      course = λ none. is.course.course;
      text_is = reports finished.run is.finished.local (λ role. subst (λ (hs : List (List Entry)). history_of job.protocol role finished.run ≡ events_of (history_at hs role)) (sym is.course.same) (finished.played_out.run_is.histories_kept role));
    }

-- with the line on restarts after it
pub restarted_report : (job : Job) (world : WorldState) (restarts : ℕ) (played text : List ℕ) → IsPlayedOver job world restarts → ((run : List Event) → AreLocal job.protocol (histories_of world.desks) → HasHistories job.protocol world.desks run → ReportsOn Table job.protocol job.script run played) → text ≡ played ++ count_line (RESTARTS.now) restarts → IsRestartedText job text
restarted_report job world restarts played text is reports text_is = record {
  played = played;
  is_played = reported job world restarts played is reports;
  last = count_line (RESTARTS.now) restarts;
  restarts = record { restarts = restarts; few = is.few; text_is = refl };
  text_is = text_is;
}

-- the two texts of agents over disks, by what was found of the protocol's safety
record HasRestarts (job : Job) (safety : Safety) (text : List ℕ) : Type 0 where
  agents_text : List ℕ
  played : AgentsText (IsPlayedText Table 0 job) safety agents_text
  restarts_text : List ℕ
  restarts : RestartsText safety (length job.protocol.roles) restarts_text
  text_is : text ≡ agents_text ++ restarts_text

-- each text of the mode is made of these
restarts_if_safe : (job : Job) (safety : Safety) (text : List ℕ) → AgentsText (IsModeText OverDisks job) safety text → HasRestarts job safety text
restarts_if_safe job (Safe log) text is = record { agents_text = is.played; played = is.is_played; restarts_text = is.last; restarts = is.restarts; text_is = is.text_is }
restarts_if_safe job (Unsafe run param first second) text is = record { agents_text = []; played = refl; restarts_text = []; restarts = refl; text_is = is }
restarts_if_safe job (Undecided log) text is = record { agents_text = []; played = refl; restarts_text = []; restarts = refl; text_is = is }

-- what begins with the reply of right verdicts is an answer
pub restart_answer : (brief : Bool) (budget : ℕ) (x : Expanded) (part : List ℕ) (job : Job) (v : Verdicts) (reply : Reply Status) (a : Answer) → IsGivenJob x part job → IsVerdictAnswer brief budget job.protocol v reply.text → reply.status ≡ verdict_status v.safety v.liveness → IsRightAnswer Completes (PlaysIfSafe job OverDisks v.safety reply) a → IsRightAnswer Completes (IsRestartAnswer brief budget x part) a
restart_answer brief budget x part job v reply a given verified ends plays = λ out status completes.
    let said = plays out status completes in
    let has = restarts_if_safe job v.safety said.agents_text said.played in
    record {
      ran = reply.text ++ has.agents_text;
      answer = record {
        script = job.script;
        plan = job.plan;
        given = given.given;
        answer = record {
          verdicts = v;
          verdict_text = reply.text;
          verified = subst (λ (y : Expanded). IsVerdictAnswer brief budget y v reply.text) given.protocol verified;
          ends = said.ends ∙ ends;
          agents_text = has.agents_text;
          played = subst (λ (y : Expanded). AgentsText (IsPlayedText Table 0 (record { protocol = y; script = job.script; plan = job.plan })) v.safety has.agents_text) given.protocol has.played;
          text = refl;
        };
      };
      restarts_text = has.restarts_text;
      restarts = subst (λ (y : Expanded). RestartsText v.safety (length y.roles) has.restarts_text) given.protocol has.restarts;
      text = said.text ∙ ap (λ (t : List ℕ). reply.text ++ t) has.text_is ∙ sym (append_assoc reply.text has.agents_text has.restarts_text);
    }
