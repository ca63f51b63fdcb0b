-- Paths along references, and protocols that are met twice on one.
use Rattle.std.specs.Prelude.{◌≡◌, ◌≢◌, ℕ, zero, suc, ◌≤◌, List, [], ◌∷◌, length, map, slice_get}
use Rattle.std.specs.Prelude.{Option, Some, None}
use Rattle.std.specs.List.{AllPairs}
use Rattle.bspl_parser.specs.declared.document.Declaration.{Declaration}
use Rattle.bspl_parser.specs.declared.document.Item.{Item}
use Rattle.bspl_parser.specs.declared.document.Item.TheVariants.{Reference}
use Rattle.protocol_names.specs.Names.{protocol_of}
use Rattle.protocol_paths.specs.Path.{Step}

-- the item at a position of a body, counted from 1
abbrev pub item_at : Declaration → ℕ → Option Item
item_at p zero = None
item_at p (suc k) = slice_get p.body k

-- the step is by the reference at its position, to the first protocol of the name
pub record IsStepOf (protocols : List Declaration) (p : Declaration) (s : Step) : Type 0 where
  pub item : item_at p s.position ≡ Some (Reference s.reference)
  pub target : protocol_of protocols s.reference.protocol.text ≡ Some s.target

-- each step leads on from the protocol that the step before it leads to
abbrev pub IsReferencePath : List Declaration → Declaration → List Step → Type 0
IsReferencePath protocols p [] = Unit {0}
IsReferencePath protocols p (s ∷ path) =
    IsStepOf protocols p s × IsReferencePath protocols s.target path

-- no path from the protocol has more references
abbrev pub IsWithinDepth : List Declaration → Declaration → ℕ → Type 0
IsWithinDepth protocols p n =
    (path : List Step) → IsReferencePath protocols p path → length path ≤ n

-- the protocols on a path, in order
abbrev pub protocols_on : Declaration → List Step → List Declaration
protocols_on p path = p ∷ map (λ s. s.target) path

-- no path from the protocol closes: none meets a protocol twice
abbrev pub HasNoCycle : List Declaration → Declaration → Type 0
HasNoCycle protocols p =
    (path : List Step) → IsReferencePath protocols p path → AllPairs ◌≢◌ (protocols_on p path)
