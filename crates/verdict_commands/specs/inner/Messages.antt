-- What the answers on the messages so far come to.
use Rattle.std.specs.Prelude.{◌≡◌, ℕ, Bool, List, length}
use Rattle.std.specs.List.{list_any}
use Rattle.bspl_types.specs.declared.expanded.Expanded.{Expanded}
use Rattle.enactability.specs.declared.outcome.Enact.{Enact}
use Rattle.verdict_commands.specs.declared.dead_text.Answered.{Answered}
use Rattle.verdict_commands.specs.DeadAnswer.{AreAnswersFromFirst, is_dead, is_undecided, messages_text}

-- so many messages are answered, and this is known and written of them
pub record HasAnswered (brief : Bool) (budget : ℕ) (x : Expanded) (count : ℕ) (so_far : Answered)
    : Type 0 where
  pub answers : List Enact
  pub counted : length answers ≡ count
  pub right : AreAnswersFromFirst x budget answers
  pub text : so_far.text ≡ messages_text x brief answers
  pub dead : so_far.dead ≡ list_any is_dead answers
  pub undecided : so_far.undecided ≡ list_any is_undecided answers
