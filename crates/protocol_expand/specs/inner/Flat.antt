-- Why a flat protocol has no expansion.
use Rattle.std.specs.Prelude.{◌≡◌, ℕ, List}
use Rattle.bspl_types.specs.declared.expanded.Expanded.{Expanded}
use Rattle.bspl_types.specs.declared.refusals.Refusal.{Refusal}
use Rattle.bspl_types.specs.declared.refusals.Refusal.TheVariants.{Duplicate, NoMemory}
use Rattle.bspl_parser.specs.declared.document.Declaration.{Declaration}
use Rattle.bspl_parser.specs.declared.word.Word.{Word}
use Rattle.protocol_names.specs.Names.{texts}
use Rattle.protocol_paths.specs.Flat.{IsFlat}
use Rattle.protocol_expand.specs.FlatExpansion.{IsExpansionOf}
use Rattle.protocol_expand.specs.WellScoped.{AreDistinct}
use Rattle.protocol_expand.specs.Repeats.{RepeatsName}

-- two of its names are equal, unless memory ran out
abbrev pub RefusesFlat : Declaration → Refusal → Type 0
RefusesFlat flat (Duplicate offset) = RepeatsName flat offset
RefusesFlat flat NoMemory = Unit {0}
RefusesFlat flat other = ⊥

-- the expansion of a protocol of messages alone that this one stands for
pub record ExpandsFlat (protocols : List Declaration) (top : Declaration)
    (x : Expanded) : Type 0 where
  pub flat : Declaration
  pub is_flat : IsFlat protocols top flat
  pub expands : IsExpansionOf flat x

-- two of the names of such a protocol are equal, unless memory ran out
abbrev pub RefusesTop : List Declaration → Declaration → Refusal → Type 0
RefusesTop protocols top (Duplicate offset) =
    (flat : Declaration) × IsFlat protocols top flat × RepeatsName flat offset
RefusesTop protocols top NoMemory = Unit {0}
RefusesTop protocols top other = ⊥

-- the names of the words are noted in order, and are distinct
pub record AreNoted (words : List Word) (names : List (List ℕ)) : Type 0 where
  pub in_order : names ≡ texts words
  pub distinct : AreDistinct words
