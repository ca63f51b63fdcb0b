-- What the arguments request of a program.
use Rattle.std.specs.Prelude.{ℕ, List, Option, None, Some}
use Rattle.tool_input.specs.Interface.{HasTask, Interface}

-- the arguments request exactly what is asked: the task of the question on its name, or no task
abbrev pub IsRequest : {Task Q : Type 0} → Interface Task → (Q → Task) → (Q → List ℕ)
    → List (List ℕ) → Option Q → Type 0
IsRequest i task name args None = ¬ HasTask i args
IsRequest i task name args (Some q) = i.requests args (task q) (name q)
