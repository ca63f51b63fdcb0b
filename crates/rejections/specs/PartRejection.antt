-- Why the text of a part is rejected, by its code: its first bad line.
use Rattle.std.specs.Prelude.{Option, None, Some}
use Rattle.agent_scripts.specs.declared.refusal.ScriptRefusal.{ScriptRefusal}
use Rattle.agent_scripts.specs.declared.refusal.ScriptRefusal.TheVariants as script
use Rattle.history_audit.specs.declared.refusal.HistoryRefusal.{HistoryRefusal}
use Rattle.history_audit.specs.declared.refusal.HistoryRefusal.TheVariants as histories
use Rattle.refutation_log.specs.declared.refusal.LogRefusal.{LogRefusal}
use Rattle.refutation_log.specs.declared.refusal.LogRefusal.TheVariants as log
use Rattle.run_text.specs.declared.refusal.RunRefusal.{RunRefusal}
use Rattle.run_text.specs.declared.refusal.RunRefusal.TheVariants as run
use Rattle.tool_input.specs.Rejection.{with_one}
use Rattle.tool_input.specs.declared.rejection.Code.TheVariants.{H, L, S, W}
use Rattle.tool_input.specs.declared.rejection.Field.TheVariants as field
use Rattle.tool_input.specs.declared.rejection.Rejection.{Rejection}

-- the rejection of a log's text
abbrev pub log_rejection : LogRefusal → Option Rejection
log_rejection (log.Form number) = Some (with_one (L 1) (field.Number number))
log_rejection (log.Number number) = Some (with_one (L 2) (field.Number number))
log_rejection log.NoMemory = None

-- the rejection of a run's text
abbrev pub run_rejection : RunRefusal → Option Rejection
run_rejection (run.Form number) = Some (with_one (W 1) (field.Number number))
run_rejection run.NoMemory = None

-- the rejection of the agents' text
abbrev pub script_rejection : ScriptRefusal → Option Rejection
script_rejection (script.Form number) = Some (with_one (S 1) (field.Number number))
script_rejection (script.Unknown number) = Some (with_one (S 2) (field.Number number))
script_rejection script.NoMemory = None

-- the rejection of the text of histories
abbrev pub histories_rejection : HistoryRefusal → Option Rejection
histories_rejection (histories.Form number) = Some (with_one (H 1) (field.Number number))
histories_rejection histories.NoMemory = None
