-- What a protocol text declares once, and for what it is refused once.
use Rattle.std.specs.Prelude.{◌≡◌, ℕ, List}
use Rattle.bspl_types.specs.declared.expanded.Expanded.{Expanded}
use Rattle.bspl_types.specs.declared.refusals.Refusal.{Refusal}
use Rattle.tool_input.specs.Input.{Declares}
use Rattle.tool_input.specs.TextRefusal.{RefusesText}

-- a protocol text declares one protocol at most for a name
abbrev pub OneDeclaration : Type 0
OneDeclaration = (name text : List ℕ) (x y : Expanded) → Declares name text x
    → Declares name text y → x ≡ y

-- there is one reason at most to refuse it
abbrev pub OneTextRefusal : Type 0
OneTextRefusal = (name text : List ℕ) (r s : Refusal) → RefusesText name text r
    → RefusesText name text s → r ≡ s

-- and a text that declares one is not refused
abbrev pub DeclaredIsNotRefused : Type 0
DeclaredIsNotRefused = (name text : List ℕ) (x : Expanded) (r : Refusal) → Declares name text x
    → ¬ RefusesText name text r
