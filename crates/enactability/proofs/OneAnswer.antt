-- What is answered of a text is the one answer that it has.
use Rattle.std.proofs.Common.{◌≡◌, ◌≢◌, inl, inr, ℕ, List, Result, Ok, Err, refl, ap, ◌∙◌}
use Rattle.std.specs.Prelude.{MatchResult}
use Rattle.bspl_types.specs.declared.expanded.Expanded.{Expanded}
use Rattle.refutation_log.specs.declared.refusal.LogRefusal.{LogRefusal}
use Rattle.refutation_log.specs.declared.refusal.LogRefusal.TheVariants.{Form, NoMemory, Number}
use Rattle.refutation_log.specs.declared.refutation.Log.{Log}
use Rattle.enactability.specs.DeadText.{IsDeadText}
use Rattle.enactability.specs.Laws.{DeadLogIsNotRefused, TextHasOneDeadLog, TextHasOneDeadRefusal}
use Rattle.enactability.specs.Refusal.{GivesOrNoMemory, IsRefusedDead}

-- what the answer says of the text
abbrev pub AnswerHolds : Expanded → List ℕ → Result (ℕ × Log) LogRefusal → Type 0
AnswerHolds x text answer = MatchResult answer (λ read. IsDeadText x text read.0 read.1) (IsRefusedDead x text)

module _ (x : Expanded) (text : List ℕ) where
  pub reads_one : TextHasOneDeadLog → DeadLogIsNotRefused → (r : Result (ℕ × Log) LogRefusal) → AnswerHolds x text r → (m : ℕ) (log : Log) → IsDeadText x text m log → GivesOrNoMemory r (Ok (m, log))
  reads_one logs exclusive (Ok read) holds m log is =
      let (messages, same) = logs x text read.0 m read.1 log holds is in
      inl (ap Ok (ap (λ (n : ℕ). (n, read.1)) messages ∙ ap (λ (l : Log). (m, l)) same))
  reads_one logs exclusive (Err NoMemory) holds m log is = inr refl
  reads_one logs exclusive (Err (Form n)) holds m log is = absurd (exclusive x text m log (Form n) (λ e. cc) is holds)
  reads_one logs exclusive (Err (Number n)) holds m log is = absurd (exclusive x text m log (Number n) (λ e. cc) is holds)

  pub refuses_one : TextHasOneDeadRefusal → DeadLogIsNotRefused → (r : Result (ℕ × Log) LogRefusal) → AnswerHolds x text r → (refusal : LogRefusal) → refusal ≢ NoMemory → IsRefusedDead x text refusal → GivesOrNoMemory r (Err refusal)
  refuses_one refusals exclusive (Ok read) holds refusal some due = absurd (exclusive x text read.0 read.1 refusal some holds due)
  refuses_one refusals exclusive (Err NoMemory) holds refusal some due = inr refl
  refuses_one refusals exclusive (Err (Form n)) holds refusal some due = inl (ap Err (refusals x text (Form n) refusal (λ e. cc) some holds due))
  refuses_one refusals exclusive (Err (Number n)) holds refusal some due = inl (ap Err (refusals x text (Number n) refusal (λ e. cc) some holds due))
