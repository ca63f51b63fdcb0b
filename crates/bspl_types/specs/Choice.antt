-- The parameters of a message whose values are its sender's choice.
use Rattle.std.specs.Prelude.{ℕ, ◌==◌, Bool, true, false, ◌&&◌, not, List}
use Rattle.std.specs.List.{filter, list_any}
use Rattle.bspl_types.specs.declared.expanded.Expanded.{Expanded}
use Rattle.bspl_types.specs.declared.protocol.Adornment.{Adornment}
use Rattle.bspl_types.specs.declared.protocol.Adornment.TheVariants.{In, Out, Nil}
use Rattle.bspl_types.specs.declared.protocol.Carried.{Carried}
use Rattle.bspl_types.specs.Expansion.{message_of}

-- adorned `out`
abbrev pub is_out : Adornment → Bool
is_out In = false
is_out Out = true
is_out Nil = false

-- adorned `out`, and no key
abbrev pub is_chosen : List ℕ → Carried → Bool
is_chosen keys c = is_out c.adornment && not (list_any (λ key. key == c.param) keys)

-- the parameters of the message whose values its sender chooses, in the message's order
abbrev pub chosen_params : Expanded → ℕ → List Carried
chosen_params x m = filter (is_chosen x.keys) (message_of x m).carried
