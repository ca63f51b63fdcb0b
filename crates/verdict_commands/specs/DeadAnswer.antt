-- What `dead` answers on an admitted protocol: of each message, whether some legal run emits it.
use Rattle.std.specs.Prelude.{◌≡◌, ℕ, Bool, true, false, if◌then◌else◌, List, [], ◌++◌, length}
use Rattle.std.specs.List.{All, enumerate_from, flat_map, list_any}
use Rattle.bspl_types.specs.declared.expanded.Expanded.{Expanded}
use Rattle.bspl_types.specs.Expansion.{message_name}
use Rattle.enactability.specs.declared.outcome.Enact.{Enact}
use Rattle.enactability.specs.declared.outcome.Enact.TheVariants.{Dead, Enacted, Undecided}
use Rattle.enactability.specs.Answer.{IsRightEnact}
use Rattle.enactability.specs.DeadText.{dead_text}
use Rattle.report.specs.VerdictText.{protocol_line}
use Rattle.run_text.specs.RunText.{run_text}
use Rattle.tool_input.specs.declared.status.Status.{Status}
use Rattle.tool_input.specs.declared.status.Status.TheVariants as status
use Rattle.tool_input.specs.Lines.{line}
use Rattle.tool_input.specs.declared.need.Need.TheVariants.{Nothing}
use Rattle.tool_input.specs.Rules.{CommandRules, NeverRefuses}
use Rattle.verdict_commands.specs.MessageLines.{dead_line, enacted_line, undecided_message_line}

-- the line of the answer on the message of that name
abbrev pub enact_line : List ℕ → Enact → List ℕ
enact_line name (Enacted run) = enacted_line name
enact_line name (Dead log) = dead_line name
enact_line name (Undecided log) = undecided_message_line name (length log.steps)

-- its evidence: a run that ends with the message, or a log on it
abbrev pub message_evidence : Expanded → ℕ → Enact → List ℕ
message_evidence x m (Enacted run) = run_text x run
message_evidence x m (Dead log) = dead_text x m log
message_evidence x m (Undecided log) = dead_text x m log

-- the evidence, unless the text is brief
abbrev pub message_part : Expanded → Bool → ℕ → Enact → List ℕ
message_part x brief m answer = if brief then [] else message_evidence x m answer

-- the answer on a message
abbrev pub message_text : Expanded → Bool → ℕ → Enact → List ℕ
message_text x brief m answer =
    line (enact_line (message_name x m) answer) ++ message_part x brief m answer

-- the protocol, and the answers on its messages from the first one on
abbrev pub messages_text : Expanded → Bool → List Enact → List ℕ
messages_text x brief answers =
    protocol_line x ++
    flat_map (λ one. message_text x brief one.0 one.1) (enumerate_from 0 answers)

-- the answers on the messages from the first one on are right
abbrev pub AreAnswersFromFirst : Expanded → ℕ → List Enact → Type 0
AreAnswersFromFirst x budget answers =
    All (λ one. IsRightEnact x one.0 budget one.1) (enumerate_from 0 answers)

-- the message is dead
abbrev pub is_dead : Enact → Bool
is_dead (Dead log) = true
is_dead answer = false

-- it is not known whether it is
abbrev pub is_undecided : Enact → Bool
is_undecided (Undecided log) = true
is_undecided answer = false

-- the status, by whether some message is dead, which counts first, and whether one is undecided
abbrev pub status_of : Bool → Bool → Status
status_of true undecided = status.Refuted
status_of false true = status.Undecided
status_of false false = status.Done

-- the text and the status of right answers, one for each message
pub record IsDeadAnswer (brief : Bool) (budget : ℕ) (x : Expanded) (out : List ℕ)
    (status : Status) : Type 0 where
  pub answers : List Enact
  pub one_each : length answers ≡ length x.messages
  pub right : AreAnswersFromFirst x budget answers
  pub text : out ≡ messages_text x brief answers
  pub ends : status ≡ status_of (list_any is_dead answers) (list_any is_undecided answers)

-- it needs nothing more, and answers each admitted protocol; its evidence may be another
abbrev pub dead_rules : Bool → ℕ → CommandRules
dead_rules brief budget = record {
  needs = Nothing;
  answers = λ x given. IsDeadAnswer brief budget x;
  refuses = NeverRefuses;
  is_determined = ⊥;
}
