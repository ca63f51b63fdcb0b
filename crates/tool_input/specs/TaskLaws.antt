-- What has to hold of the interface of a program.
use Rattle.std.specs.Prelude.{◌≡◌, ℕ, List, Some}
use Rattle.bspl_types.specs.Limits.{input_limit}
use Rattle.tool_input.specs.declared.rejection.Rejection.{Rejection}
use Rattle.tool_input.specs.Rejection.{over_limit}
use Rattle.tool_input.specs.Interface.{Interface}

-- arguments request one task on one name at most
abbrev pub OneTask : {Task : Type 0} → Interface Task → Type 0
OneTask {Task} i = (args : List (List ℕ)) (task other : Task) (name again : List ℕ)
    → i.requests args task name → i.requests args other again → (task ≡ other) × (name ≡ again)

-- the refusal of an input that is too long is written alike for each
abbrev pub LongIsRefusedAlike : {Task : Type 0} → Interface Task → Type 0
LongIsRefusedAlike {Task} i = (task : Task) (input other out : List ℕ)
    → i.refusal_text task input (over_limit input_limit) out
    → i.refusal_text task other (over_limit input_limit) out

-- so is the refusal of a task at once
abbrev pub AtOnceIsRefusedAlike : {Task : Type 0} → Interface Task → Type 0
AtOnceIsRefusedAlike {Task} i = (task : Task) (r : Rejection) (input other out : List ℕ)
    → i.refused_at_once task ≡ Some r → i.refusal_text task input r out
    → i.refusal_text task other r out
