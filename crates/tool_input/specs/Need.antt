-- What a command is given of an input beside the protocol.
use Rattle.std.specs.Prelude.{◌≡◌, ℕ, List, [], Some}
use Rattle.tool_input.specs.declared.parts.Part.{Part}
use Rattle.tool_input.specs.NeededPart.{HasPart}
use Rattle.tool_input.specs.declared.need.Need.{Need}
use Rattle.tool_input.specs.declared.need.Need.TheVariants as need

-- no bytes, those of the part, or the whole input
abbrev pub HasGiven : Need → List ℕ → List ℕ → Type 0
HasGiven need.Nothing input bytes = bytes ≡ []
HasGiven (need.Part part) input bytes = HasPart (Some part) input bytes
HasGiven need.Input input bytes = bytes ≡ input

-- the command needs that part, and no part line is there, or the first one begins another part
pub record LacksGiven (needs : Need) (input : List ℕ) (part : Part) : Type 0 where
  pub is_needed : needs ≡ need.Part part
  pub missing : (bytes : List ℕ) → ¬ HasPart (Some part) input bytes
