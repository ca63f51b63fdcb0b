-- The form of one message.
use Rattle.std.specs.Prelude.{◌≡◌, ℕ, List}
use Rattle.bspl_types.specs.declared.value.Value.{Value}
use Rattle.local_store.specs.State.{StoreState}
use Rattle.role_questions.specs.declared.form.Form.{Form}
use Rattle.role_questions.specs.Forms.{IsForm}

-- the message's form
pub record IsFormOf (s : StoreState) (key : List Value) (message : ℕ) (f : Form) : Type 0 where
  pub message_is : f.message ≡ message
  pub is : IsForm s key f
