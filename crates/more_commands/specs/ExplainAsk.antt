-- What `explain ask` is asked, and what it answers on an admitted protocol.
use Rattle.std.specs.Prelude.{◌≡◌, ℕ, List, [], ◌∷◌, ◌++◌}
use Rattle.answer_words.specs.Refusal.{IsRefusalText}
use Rattle.ask_commands.specs.AskRules.{ask_rules}
use Rattle.ask_commands.specs.AskTask.{AskTask, Misput, RequestsAsk}
use Rattle.bspl_types.specs.declared.expanded.Expanded.{Expanded}
use Rattle.more_commands.specs.declared.wording.TheConstants as wording
use Rattle.more_commands.specs.AskWords.{ask_words}
use Rattle.tool_input.specs.Rules.{CommandRules}
use Rattle.tool_input.specs.declared.rejection.Rejection.{Rejection}
use Rattle.tool_input.specs.declared.status.Status.{Status}

-- the arguments are the word `ask`, and then request what is asked
pub record NamesAsk (args : List (List ℕ)) (task : AskTask) (name : List ℕ) : Type 0 where
  pub rest : List (List ℕ)
  pub arguments : args ≡ wording.ASK.now ∷ rest
  pub requested : RequestsAsk rest task name

-- a right answer of `ask` with that status; then the words on such an answer
pub record AnswersAskInWords (task : AskTask) (x : Expanded) (given out : List ℕ)
    (status : Status) : Type 0 where
  pub answer : List ℕ
  pub right : (ask_rules task).answers x given answer status
  pub text : out ≡ answer ++ ask_words task status

-- the rules of what is asked, with words
abbrev pub explain_ask_rules : AskTask → CommandRules
explain_ask_rules task = record {
  needs = (ask_rules task).needs;
  answers = AnswersAskInWords task;
  refuses = (ask_rules task).refuses;
  is_determined = ⊥;
}

-- the words of a refusal of what is asked: if nothing is read, they show nothing of the input
abbrev pub IsAskRefusal : AskTask → List ℕ → Rejection → List ℕ → Type 0
IsAskRefusal (Misput misput) input r out = IsRefusalText [] r out
IsAskRefusal task input r out = IsRefusalText input r out
