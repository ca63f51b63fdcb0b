-- The commands as a program.
use Rattle.std.specs.Prelude.{◌≡◌, ℕ, List}
use Rattle.answer_words.specs.Refusal.{IsRefusalText}
use Rattle.tool_input.specs.Interface.{Interface}
use Rattle.tool_input.specs.declared.rejection.Rejection.{Rejection}
use Rattle.tool_input.specs.Rejection.{rejection_line}
use Rattle.more_commands.specs.declared.wording.TheConstants as wording
use Rattle.more_commands.specs.ExplainAsk.{IsAskRefusal}
use Rattle.more_commands.specs.Task.{Explain, ExplainAsk, MoreTask, RequestsMore, more_own_text}
use Rattle.more_commands.specs.Task.{more_refused_at_once, more_rules}

-- how a refusal is written: in words, or in its line
abbrev pub IsMoreRefusal : MoreTask → List ℕ → Rejection → List ℕ → Type 0
IsMoreRefusal (Explain task) input r out = IsRefusalText input r out
IsMoreRefusal (ExplainAsk task) input r out = IsAskRefusal task input r out
IsMoreRefusal task input r out = out ≡ rejection_line r

-- the commands together
abbrev pub more_interface : Interface MoreTask
more_interface = record {
  usage = wording.USAGE.now;
  requests = RequestsMore;
  rules = more_rules;
  own_text = more_own_text;
  refused_at_once = more_refused_at_once;
  refusal_text = IsMoreRefusal;
}
