-- What an answer says of the reply that it comes to.
use Rattle.std.specs.Prelude.{◌≡◌, ℕ, List}
use Rattle.program_frame.specs.declared.reply.Reply.{Reply}
use Rattle.tool_input.specs.declared.status.Status.{Status}

-- the text and the status are those of the reply
abbrev pub RepliesWith : Reply Status → List ℕ → Status → Type 0
RepliesWith reply out status = (out ≡ reply.text) × (status ≡ reply.status)

-- whatever completes the answer is right
abbrev pub IsRightAnswer : {A : Type 0} → (A → List ℕ → Status → Type 0)
    → (List ℕ → Status → Type 0) → A → Type 0
IsRightAnswer completes right answer = (out : List ℕ) (status : Status)
    → completes answer out status → right out status
