-- Which bytes are a rule, and at which offset others are refused.
use Rattle.std.specs.Prelude.{◌≡◌, ℕ, ◌+◌, if◌then◌else◌, List, take, drop, codes}
use Rattle.std.specs.Prelude.{Option, Some, None, MatchOption}
use Rattle.std.specs.Char.{is_ascii_alphabetic}
use Rattle.std.specs.List.{prefix_len}
use Rattle.std.specs.Str.{bytes_eq}
use Rattle.question_text.specs.declared.fault.QuestionFault.{QuestionFault}
use Rattle.question_text.specs.declared.fault.QuestionFault.TheVariants as question
use Rattle.question_text.specs.QuestionText.{IsMisread, IsQuestionText}
use Rattle.protocol_rules.specs.declared.fault.RuleFault.{RuleFault}
use Rattle.protocol_rules.specs.declared.fault.RuleFault.TheVariants.{Byte, TooLong, Syntax, NoMemory}
use Rattle.protocol_rules.specs.declared.rule.Rule.{Rule}
use Rattle.protocol_rules.specs.declared.rule.Sense.{Sense}
use Rattle.protocol_rules.specs.declared.rule.Sense.TheVariants as sense
use Rattle.protocol_rules.specs.RuleLine.{RuleBody, blanks_len}

-- how many letters the bytes begin with
abbrev pub letters_len : List ℕ → ℕ
letters_len bytes = prefix_len is_ascii_alphabetic bytes

-- the bytes after the blanks with which they begin
abbrev pub after_blanks : List ℕ → List ℕ
after_blanks bytes = drop (blanks_len bytes) bytes

-- the word with which the bytes begin after blanks
abbrev pub first_word : List ℕ → List ℕ
first_word bytes = take (letters_len (after_blanks bytes)) (after_blanks bytes)

-- what follows that word
abbrev pub after_word : List ℕ → List ℕ
after_word bytes = drop (letters_len (after_blanks bytes)) (after_blanks bytes)

-- how many bytes come before that
abbrev pub word_end : List ℕ → ℕ
word_end bytes = blanks_len bytes + letters_len (after_blanks bytes)

-- the sense of a word
abbrev pub sense_named : List ℕ → Option Sense
sense_named word =
    if bytes_eq word (codes "never") then Some sense.Never else
    (if bytes_eq word (codes "some") then Some sense.Some else None)

-- the first word is the sense, and a question follows it
pub record StatesRule (body : RuleBody) (rule : Rule) : Type 0 where
  pub sensed : sense_named (first_word body.text) ≡ Some rule.sense
  pub asked : IsQuestionText (after_word body.text) rule.question

-- the fault of a question that begins at that offset in the text
abbrev pub fault_at : ℕ → QuestionFault → RuleFault
fault_at start (question.Byte offset) = Byte (start + offset)
fault_at start (question.TooLong count) = TooLong start count
fault_at start (question.Syntax offset) = Syntax (start + offset)
fault_at start question.NoMemory = NoMemory

-- why the bytes, which begin at that offset in the text, are no question
pub record IsFaultAt (start : ℕ) (bytes : List ℕ) (fault : RuleFault) : Type 0 where
  pub cause : QuestionFault
  pub misread : IsMisread bytes cause
  pub placed : fault ≡ fault_at start cause

-- the first word is no sense, or no question follows it
abbrev pub IsRuleFault : RuleBody → RuleFault → Type 0
IsRuleFault body fault =
    MatchOption (sense_named (first_word body.text))
    (fault ≡ Syntax (body.offset + blanks_len body.text))
    (λ _. IsFaultAt (body.offset + word_end body.text) (after_word body.text) fault)
