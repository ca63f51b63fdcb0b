-- What `page` answers on an admitted protocol, its rules, and what is given with it.
use Rattle.std.specs.Prelude.{◌≡◌, ◌⊎◌, ℕ, List, [], ◌++◌}
use Rattle.adapter.specs.Desk.{DeskState}
use Rattle.agent_scripts.specs.Job.{Job}
use Rattle.ask_commands.specs.declared.rule_list.AskedRules.{AskedRules}
use Rattle.ask_commands.specs.AskedRules.{AreAskedRules}
use Rattle.ask_commands.specs.RulesAnswer.{IsRulesRefused}
use Rattle.bspl_types.specs.declared.event.Event.{Event}
use Rattle.bspl_types.specs.declared.expanded.Expanded.{Expanded}
use Rattle.html.specs.Fragment.{Fragment, as_html}
use Rattle.message_fates.specs.declared.fate.Fate.{Fate}
use Rattle.page_sections.specs.RulesSection.{ShowsRules}
use Rattle.page_sections.specs.RunSection.{ShowsRun}
use Rattle.page_sections.specs.Page.{page}
use Rattle.page_sections.specs.VerdictSections.{played_part}
use Rattle.protocol_rules.specs.declared.rule.Rule.{Rule}
use Rattle.protocol_rules.specs.Rules.{AreRulesOf}
use Rattle.report.specs.ExitStatus.{verdict_status}
use Rattle.report.specs.ReplayText.{IsReplayText}
use Rattle.tool_input.specs.declared.need.Need.TheVariants.{Input}
use Rattle.tool_input.specs.Parts.{protocol_text}
use Rattle.tool_input.specs.Rules.{CommandRules}
use Rattle.tool_input.specs.declared.rejection.Rejection.{Rejection}
use Rattle.tool_input.specs.declared.status.Status.{Status}
use Rattle.verdict.specs.declared.outcome.Safety.{Safety}
use Rattle.verdict.specs.declared.outcome.Safety.TheVariants.{Safe, Undecided, Unsafe}
use Rattle.verdict.specs.declared.outcome.Verdicts.{Verdicts}
use Rattle.verdict.specs.Verdicts.{AreRightAnswers}
use Rattle.world_run.specs.Finished.{IsFinished}
use Rattle.world_run.specs.Settling.{HaveRunWhole}
use Rattle.page_sections.specs.WorldSection.{ShowsWorld, unplayed_section}
use Rattle.message_fates.specs.Fates.{AreFates}
use Rattle.more_commands.specs.Given.{Agents, Given, Gives, Nothing, RefusesAgents, RefusesRun, Run}

-- the section of the run, with what `replay` reports on it
pub record ShowsReplay (x : Expanded) (run : List Event) (shown : List Fragment) : Type 0 where
  pub report : List ℕ
  pub reports : IsReplayText x run report
  pub shows : ShowsRun x run report shown

-- the section of the world that the job's agents play from new desks to its end, in the order that
-- the plan's seed gives, and its run if it is short
pub record ShowsPlayed (job : Job) (shown : List Fragment) : Type 0 where
  pub desks : List DeskState
  pub finished : IsFinished job desks
  pub course : HaveRunWhole job desks
  pub tables : List Fragment
  pub shows : ShowsWorld job.protocol job.script finished.run tables
  pub section : shown ≡ tables ++ played_part job.protocol finished.run

-- the agents of a protocol that is found safe play; else the section says that none do
abbrev pub ShowsAgents : Job → Safety → List Fragment → Type 0
ShowsAgents job (Safe log) shown = ShowsPlayed job shown
ShowsAgents job (Unsafe run param first second) shown = shown ≡ unplayed_section
ShowsAgents job (Undecided log) shown = shown ≡ unplayed_section

-- what is shown of what an input gives
abbrev pub ShowsGiven : Expanded → Safety → Given → List Fragment → Type 0
ShowsGiven x s Nothing shown = shown ≡ []
ShowsGiven x s (Run run) shown = ShowsReplay x run shown
ShowsGiven x s (Agents script plan) shown =
    ShowsAgents (record { protocol = x; script = script; plan = plan }) s shown

-- the page of right verdicts, of the rules, of right fates and of what is given; each search may
-- meet 10000 conflicts; the status is that of the verdicts
pub record IsPageAnswer (x : Expanded) (rules : List Rule) (given : Given) (out : List ℕ)
    (status : Status) : Type 0 where
  pub verdicts : Verdicts
  pub right : AreRightAnswers x 10000 verdicts
  pub fates : List Fate
  pub fated : AreFates x 10000 fates
  pub ruled : List Fragment
  pub judges : ShowsRules x 10000 rules ruled
  pub shown : List Fragment
  pub shows : ShowsGiven x verdicts.safety given shown
  pub text : out ≡ as_html (page x verdicts fates (ruled ++ shown))
  pub ends : status ≡ verdict_status verdicts.safety verdicts.liveness

-- the page of the protocol, of the rules in its text, and of what the input gives beside it
pub record ShowsInput (x : Expanded) (input out : List ℕ) (status : Status) : Type 0 where
  pub rules : List Rule
  pub of_text : AreRulesOf (protocol_text input) x.name rules
  pub given : Given
  pub gives : Gives x input given
  pub answer : IsPageAnswer x rules given out status

-- what the input is to give beside the rules has a bad line
abbrev pub RefusesBeside : Expanded → List ℕ → Rejection → Type 0
RefusesBeside x input r = RefusesRun x input r ⊎ RefusesAgents x input r

-- so it is, and the rules can be asked
pub record IsRefusedBeside (x : Expanded) (input : List ℕ) (r : Rejection) : Type 0 where
  pub asked : AskedRules
  pub are_asked : AreAskedRules x input asked
  pub refused : RefusesBeside x input r

-- the text has a bad rule; or it has none, and what the input is to give a bad line
abbrev pub IsPageRefused : Expanded → List ℕ → Rejection → Type 0
IsPageRefused x input r = IsRulesRefused x input r ⊎ IsRefusedBeside x input r

-- it looks at the whole input; its evidence may be another
abbrev pub page_rules : CommandRules
page_rules = record {
  needs = Input;
  answers = ShowsInput;
  refuses = IsPageRefused;
  is_determined = ⊥;
}
