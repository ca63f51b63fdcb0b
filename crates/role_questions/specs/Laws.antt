-- What forms are for: they are filled in; and a line puts one question. Each statement is the
-- contract of a public function.
use Rattle.std.specs.Prelude.{◌≡◌, ◌↔◌, ℕ, List}
use Rattle.std.specs.List.{Contains}
use Rattle.bspl_types.specs.declared.event.Instance.{Instance}
use Rattle.bspl_types.specs.declared.expanded.Expanded.{Expanded}
use Rattle.bspl_types.specs.declared.protocol.Adornment.TheVariants.{In}
use Rattle.bspl_types.specs.declared.value.Value.{Value}
use Rattle.bspl_types.specs.Expansion.{message_of}
use Rattle.bspl_types.specs.Instance.{Carries}
use Rattle.bspl_types.specs.Knowledge.{IsEnabled}
use Rattle.list_base.specs.Lines.{Line}
use Rattle.local_store.specs.State.{StoreState, acts_of}
use Rattle.wire_form.specs.Request.{Asks, Request}
use Rattle.role_questions.specs.declared.form.Form.{Form}
use Rattle.role_questions.specs.declared.question.Question.{Question}
use Rattle.role_questions.specs.Forms.{AreForms}
use Rattle.role_questions.specs.Known.{ListsValue}
use Rattle.role_questions.specs.Meaning.{PutsQuestion}
use Rattle.role_questions.specs.Questions.{Puts, TextQuestion}

-- the instance fills the form in: its `in` values are the form's; its other values may be any
pub record FillsIn (x : Expanded) (f : Form) (i : Instance) : Type 0 where
  pub message_is : i.message ≡ f.message
  pub ins_are : (p : ℕ) (v : Value) → Carries x i In p v → ListsValue f.ins p v

-- an instance under the key, of a message of the role, is enabled exactly if it fills in one of the
-- forms; so the role may emit it if it fits
abbrev pub FormsAreEnabled : Type 0
FormsAreEnabled = (s : StoreState) (key : List Value) (forms : List Form) → AreForms s key forms →
    (i : Instance) → i.key ≡ key → (message_of s.protocol i.message).sender ≡ s.role →
    IsEnabled s.protocol (acts_of s) i ↔
    ((f : Form) × Contains forms f × FillsIn s.protocol f i)

-- two questions of a line are one
abbrev pub LinePutsOneQuestion : Type 0
LinePutsOneQuestion = (x : Expanded) (line : Line) (one other : Question) →
    PutsQuestion x line one → PutsQuestion x line other → one ≡ other

-- a line that asks for an act puts no question
abbrev pub QuestionIsNoRequest : Type 0
QuestionIsNoRequest = (line : Line) (request : Request) (asked : TextQuestion) →
    Asks line request → Puts line asked → ⊥
