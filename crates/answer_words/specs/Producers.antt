-- The messages that could produce a parameter after a run, and what keeps each from being sent.
use Rattle.std.specs.Prelude.{◌≡◌, ℕ, List, [], ◌∷◌, ◌++◌, codes}
use Rattle.bspl_types.specs.declared.event.Event.{Event}
use Rattle.bspl_types.specs.declared.expanded.Expanded.{Expanded}
use Rattle.bspl_types.specs.declared.protocol.Adornment.TheVariants.{Out}
use Rattle.bspl_types.specs.declared.protocol.Message.{Message}
use Rattle.bspl_types.specs.Expansion.{Adorns, IsAdorned, param_name, role_name}
use Rattle.bspl_types.specs.History.{history_of, sender_history}
use Rattle.bspl_types.specs.Knowledge.{CanEmit}
use Rattle.bspl_types.specs.ValueSpelling.{value_spelling}
use Rattle.role_knowledge.specs.declared.block.Block.{Block}
use Rattle.role_knowledge.specs.declared.block.Block.TheVariants.{Bound, Missing}
use Rattle.role_knowledge.specs.Blocked.{IsFirstBlock}
use Rattle.witness_replay.specs.Witness.{key_of_ones}
use Rattle.answer_words.specs.Messages.{message_phrase}
use Rattle.answer_words.specs.declared.wording.TheConstants as wording
use Rattle.answer_words.specs.declared.wording.verdicts.TheConstants as verdicts

-- what the sender does not know, or what it knows already
abbrev pub block_words : Expanded → Block → List ℕ
block_words x (Missing p) = verdicts.DOES_NOT_KNOW.now ++ param_name x p
block_words x (Bound p kept) =
    verdicts.KNOWS.now ++ param_name x p ++ codes "=" ++ value_spelling kept ++ verdicts.ALREADY.now

-- the line of a message and of what blocks it
abbrev pub blocked_line : Expanded → Message → Block → List ℕ
blocked_line x m block =
    message_phrase x m ++ verdicts.WOULD_PRODUCE.now ++ role_name x m.sender ++
    block_words x block ++ wording.FULL_STOP.now

-- the line has what first blocks the message after the run, under the key of all ones
pub record IsBlockedLine (x : Expanded) (run : List Event) (m : Message) (line : List ℕ)
    : Type 0 where
  pub block : Block
  pub first : IsFirstBlock x (history_of x m.sender run) (key_of_ones x) m.carried block
  pub is_line : line ≡ blocked_line x m block

-- the text has, in order, a line for each of the messages that produces the parameter
pub data ListsProducers (x : Expanded) (run : List Event) (p : ℕ)
    : List Message → List ℕ → Type 0 where
  none : ListsProducers x run p [] []
  producer : (m : Message) (more : List Message) (line text : List ℕ) → IsAdorned m Out p
      → IsBlockedLine x run m line → ListsProducers x run p more text
      → ListsProducers x run p (m ∷ more) (line ++ text)
  other : (m : Message) (more : List Message) (text : List ℕ) → ¬ IsAdorned m Out p
      → ListsProducers x run p more text → ListsProducers x run p (m ∷ more) text

-- after the run no message that produces the parameter can be sent under the key of all ones
abbrev pub AreBlocked : Expanded → List Event → ℕ → Type 0
AreBlocked x run p =
    (m : ℕ) → Adorns x m Out p → ¬ CanEmit x (sender_history x run m) m (key_of_ones x)
