-- An answer does not speak of how many events are spare.
use Rattle.std.proofs.Common.{ℕ, List, map}
use Rattle.std.proofs.lemmas.List.Elements.{All-weaker}
use Rattle.bspl_types.specs.declared.value.Value.{Value}
use Rattle.local_store.specs.State.{StoreState}
use Rattle.serde_json.specs.Data.{Data}
use Rattle.role_server.specs.Live.{with_live_room}
use Rattle.role_questions.specs.declared.form.Form.{Form}
use Rattle.role_questions.specs.declared.question.Question.{Question}
use Rattle.role_questions.specs.declared.question.Question.TheVariants.{Enabled, History, Keys, Known, Status}
use Rattle.role_questions.specs.Answers.{AnswersAsked, IsAnswerText}
use Rattle.role_questions.specs.Forms.{AreForms, IsForm, MaySend}

module _ (s : StoreState) (key : List Value) where
  -- what may be sent
  may_there : (m : ℕ) → MaySend s key m → MaySend (with_live_room s) key m
  may_there m may = record { own = may.own; can = may.can }

  may_back : (m : ℕ) → MaySend (with_live_room s) key m → MaySend s key m
  may_back m may = record { own = may.own; can = may.can }

  -- the form of a message
  form_there : (f : Form) → IsForm s key f → IsForm (with_live_room s) key f
  form_there f is = record {
    may = may_there f.message is.may;
    before = is.before;
    ins_are = is.ins_are;
    ins_in_order = is.ins_in_order;
    outs_are = is.outs_are;
  }

  -- and all forms
  forms_there : (forms : List Form) → AreForms s key forms → AreForms (with_live_room s) key forms
  forms_there forms are = record {
    messages = record {
      each = All-weaker (MaySend s key) (MaySend (with_live_room s) key) may_there (map (λ (f : Form). f.message) forms) are.messages.each;
      all = λ m may. are.messages.all m (may_back m may);
      in_order = are.messages.in_order;
    };
    each = All-weaker (IsForm s key) (IsForm (with_live_room s) key) form_there forms are.each;
  }

-- the answer to each question
answers_there : (s : StoreState) (q : Question) (d : Data) → AnswersAsked s q d → AnswersAsked (with_live_room s) q d
answers_there s (Enabled key) d is = (is.0, forms_there s key is.0 is.1, is.2)
answers_there s (Known key) d is = is
answers_there s (Keys from most) d is = is
answers_there s (History from most) d is = is
answers_there s Status d is = is

-- so its text is that of a live role
pub text_there : (s : StoreState) (q : Question) (text : List ℕ) → IsAnswerText s q text → IsAnswerText (with_live_room s) q text
text_there s q text is = record { answer = is.answer; answers = answers_there s q is.answer is.answers; written = is.written }
