-- Whether an input has the part that is needed of it.
use Rattle.std.specs.Prelude.{◌≡◌, ℕ, List, [], Option, None, Some}
use Rattle.tool_input.specs.declared.parts.Part.{Part}
use Rattle.tool_input.specs.Parts.{first_part}

-- the bytes of the part that is needed; none if none is needed
abbrev pub HasPart : Option Part → List ℕ → List ℕ → Type 0
HasPart None input bytes = bytes ≡ []
HasPart (Some part) input bytes = first_part input ≡ Some (part, bytes)

-- that part is needed, and no part line is there, or the first one begins another part
pub record LacksPart (needed : Option Part) (input : List ℕ) (part : Part) : Type 0 where
  pub is_needed : needed ≡ Some part
  pub missing : (bytes : List ℕ) → ¬ HasPart (Some part) input bytes
