-- The words of a refusal.
use Rattle.std.specs.Prelude.{◌≡◌, ℕ, List, [], ◌++◌, drop, Option, None, Some}
use Rattle.tool_input.specs.declared.rejection.Rejection.{Rejection}
use Rattle.tool_input.specs.Rejection.{rejection_line}
use Rattle.answer_words.specs.declared.fault.Fault.{Fault}
use Rattle.answer_words.specs.declared.fault.Fault.TheVariants as fault
use Rattle.answer_words.specs.ByteAdvice.{byte_advice}
use Rattle.answer_words.specs.Detail.{IsDetail}
use Rattle.answer_words.specs.Fault.{fault_of}
use Rattle.answer_words.specs.Place.{Spot, spot_text}
use Rattle.answer_words.specs.RefusedPlace.{field_place, name_of, number_of, shown_line}
use Rattle.answer_words.specs.ScriptRule.{line_fields, line_rule, naming_words, word_of}
use Rattle.answer_words.specs.Sentences.{line_advice, wrong}
use Rattle.answer_words.specs.declared.wording.TheConstants as wording

-- the text of a place, if there is one
abbrev pub place_text : Option Spot → List ℕ
place_text None = []
place_text (Some spot) = spot_text spot

-- what to do
abbrev pub advice_at : List ℕ → Fault → ℕ → Option Spot → List ℕ
advice_at input fault.BadByte offset place = byte_advice (drop offset input)
advice_at input fault.ScriptForm n place = line_rule (word_of (line_fields (shown_line place)))
advice_at input fault.ScriptName n place = naming_words (word_of (line_fields (shown_line place)))
advice_at input fault n place = line_advice fault n

-- a sentence in its line
abbrev pub sentence : List ℕ → List ℕ → List ℕ
sentence head said = head ++ said ++ wording.FULL_STOP.now

-- the place, what is wrong, the detail, and what to do
abbrev pub fault_text : List ℕ → Rejection → Fault → List ℕ → List ℕ
fault_text input r fault detail =
    let place = field_place input r.code r.first in
    place_text place ++
    sentence wording.WHAT_IS_WRONG.now (wrong fault (name_of r.first) (name_of r.second)) ++
    detail ++
    sentence wording.WHAT_TO_DO.now (advice_at input fault (number_of r.first) place)

-- the line of the refusal, and then the words, with the detail of its fault
pub record IsFaultText (input : List ℕ) (r : Rejection) (fault : Fault) (out : List ℕ)
    : Type 0 where
  pub detail : List ℕ
  pub is_detail : IsDetail input fault r detail
  pub text : out ≡ rejection_line r ++ fault_text input r fault detail

-- a code that stands for no fault has no words
abbrev pub IsTextFor : List ℕ → Rejection → Option Fault → List ℕ → Type 0
IsTextFor input r None out = out ≡ rejection_line r
IsTextFor input r (Some fault) out = IsFaultText input r fault out

-- the output explains the refusal of the input
abbrev pub IsRefusalText : List ℕ → Rejection → List ℕ → Type 0
IsRefusalText input r out = IsTextFor input r (fault_of r.code) out
