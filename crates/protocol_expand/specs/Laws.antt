-- The laws on expansions and refusals.
use Rattle.std.specs.Prelude.{◌≡◌, ◌≢◌, ℕ, List, [], ◌∷◌}
use Rattle.bspl_types.specs.declared.expanded.Expanded.{Expanded}
use Rattle.bspl_types.specs.declared.refusals.Refusal.{Refusal}
use Rattle.bspl_types.specs.declared.refusals.Refusal.TheVariants.{NoMemory}
use Rattle.bspl_parser.specs.declared.document.Declaration.{Declaration}
use Rattle.bspl_parser.specs.declared.document.Document.{Document}
use Rattle.protocol_expand.specs.FlatExpansion.{IsExpansionOf}
use Rattle.protocol_expand.specs.Expansion.{Expands, IsExpansion, IsPlain}
use Rattle.protocol_expand.specs.Printed.{IsPrinted}
use Rattle.protocol_expand.specs.Refusals.{IsNotExpanded}

-- a name has one expansion at most
abbrev pub ExpansionsAreUnique : Type 0
ExpansionsAreUnique = (d : Document) (name : List ℕ) (x y : Expanded) → IsExpansion d name x
    → IsExpansion d name y → x ≡ y

-- it is refused for one reason at most, out of memory aside
abbrev pub RefusalsAreUnique : Type 0
RefusalsAreUnique = (d : Document) (name : List ℕ) (r s : Refusal) → r ≢ NoMemory → s ≢ NoMemory
    → IsNotExpanded d name r → IsNotExpanded d name s → r ≡ s

-- what expands is not refused
abbrev pub AnswersAreDistinct : Type 0
AnswersAreDistinct = (d : Document) (name : List ℕ) (x : Expanded) (r : Refusal) → r ≢ NoMemory
    → Expands d name x → ¬ IsNotExpanded d name r

-- in a document of one plain protocol, the protocol's own expansion is that of its name, and no
-- other is
pub record PlainStandsForItself : Type 0 where
  pub own : (d : Document) (p : Declaration) (x : Expanded) → d.protocols ≡ p ∷ [] → IsPlain p
      → IsExpansionOf p x → Expands d p.name.text x
  pub alone : (d : Document) (p : Declaration) (x : Expanded) → d.protocols ≡ p ∷ [] → IsPlain p
      → IsExpansion d p.name.text x → IsExpansionOf p x

-- an expansion has one text
abbrev pub TextsAreUnique : Type 0
TextsAreUnique = (x : Expanded) (one other : List ℕ) → IsPrinted x one → IsPrinted x other
    → one ≡ other
