-- What becomes of each message of a protocol.
use Rattle.std.specs.Prelude.{◌≡◌, ℕ, List, length}
use Rattle.std.specs.List.{All, enumerate_from}
use Rattle.bspl_types.specs.declared.expanded.Expanded.{Expanded}
use Rattle.enactability.specs.Enactable.{Enactable}
use Rattle.enactability.specs.EnactFormula.{IsEnactFormula}
use Rattle.message_fates.specs.declared.fate.Fate.{Fate}
use Rattle.message_fates.specs.declared.fate.Fate.TheVariants.{Dead, Sent, Undecided}
use Rattle.refutation_log.specs.declared.refutation.Log.{Log}
use Rattle.verdict.specs.Decision.{IsUndecidedVerdict}

-- there is a log as a search for a run that emits the message leaves it when its budget is spent: so
-- many new clauses, and none of them empty
pub record IsUndecidedMessage (x : Expanded) (budget m : ℕ) : Type 0 where
  pub log : Log
  pub spent : IsUndecidedVerdict (IsEnactFormula x m) budget log

-- some legal run emits a message that is said to be sent, and none one that is said to be dead; of
-- one that is said to be undecided there is such a log
abbrev pub HasFate : Expanded → ℕ → ℕ × Fate → Type 0
HasFate x budget (m, Sent) = Enactable x m
HasFate x budget (m, Dead) = ¬ Enactable x m
HasFate x budget (m, Undecided) = IsUndecidedMessage x budget m

-- these are the fates of the messages, from the first one on
pub record AreFates (x : Expanded) (budget : ℕ) (fates : List Fate) : Type 0 where
  pub one_each : length fates ≡ length x.messages
  pub right : All (HasFate x budget) (enumerate_from 0 fates)
