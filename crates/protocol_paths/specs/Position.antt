-- Paths of positions, and lists of the protocols and of the messages to which they lead.
use Rattle.std.specs.Prelude.{◌≡◌, ◌↔◌, ℕ, ◌<◌, ◌⊎◌, List, [], ◌∷◌, ◌++◌, map, Some}
use Rattle.std.specs.List.{All, AllPairs, AllZip, Contains}
use Rattle.bspl_parser.specs.declared.document.Declaration.{Declaration}
use Rattle.bspl_parser.specs.declared.document.Item.TheVariants.{Message, Reference}
use Rattle.bspl_parser.specs.declared.document.Reference.{Reference as SpecReference}
use Rattle.bspl_parser.specs.declared.document.Schema.{Schema}
use Rattle.protocol_names.specs.Names.{protocol_of}
use Rattle.protocol_paths.specs.Path.{Step, end_of}
use Rattle.protocol_paths.specs.ReferencePath.{IsReferencePath, item_at}

-- the reference at the position leads to the protocol
pub record RefersTo (protocols : List Declaration) (p : Declaration) (k : ℕ) (q : Declaration)
    : Type 0 where
  pub reference : SpecReference
  pub item : item_at p k ≡ Some (Reference reference)
  pub target : protocol_of protocols reference.protocol.text ≡ Some q

-- at each position is a reference that leads on, and after the last the protocol
abbrev pub LeadsOn : List Declaration → Declaration → List ℕ → Declaration → Type 0
LeadsOn protocols p [] q = p ≡ q
LeadsOn protocols p (k ∷ more) q =
    (r : Declaration) × RefersTo protocols p k r × LeadsOn protocols r more q

-- at the last position is the message, at each one before it a reference that leads on
abbrev pub LeadsTo : List Declaration → Declaration → List ℕ → Schema → Type 0
LeadsTo protocols p [] m = ⊥
LeadsTo protocols p (k ∷ []) m = item_at p k ≡ Some (Message m)
LeadsTo protocols p (k ∷ j ∷ more) m =
    (q : Declaration) × RefersTo protocols p k q × LeadsTo protocols q (j ∷ more) m

-- the lexicographic order of paths of positions
abbrev pub IsLexBelow : List ℕ → List ℕ → Type 0
IsLexBelow ks [] = ⊥
IsLexBelow [] (l ∷ ls) = Unit {0}
IsLexBelow (k ∷ ks) (l ∷ ls) = (k < l) ⊎ ((k ≡ l) × IsLexBelow ks ls)

-- the positions of the references of a path
abbrev pub positions_of : List Step → List ℕ
positions_of path = map (λ s. s.position) path

-- these, and the protocol at the end of the path
abbrev pub path_end : Declaration → List Step → List ℕ × Declaration
path_end top path = (positions_of path, end_of top path)

-- the list has exactly the paths of positions that lead to a protocol, each once, in rising order
pub record ListsPaths (protocols : List Declaration) (top : Declaration)
    (found : List (List Step)) : Type 0 where
  pub steps : All (IsReferencePath protocols top) found
  pub exact : (positions : List ℕ) (q : Declaration) →
      Contains (map (path_end top) found) (positions, q) ↔ LeadsOn protocols top positions q
  pub rising : AllPairs IsLexBelow (map positions_of found)

-- the positions of the references that were passed, and then that of the message
pub record HasPositions (protocols : List Declaration) (top : Declaration) (end : List ℕ × Schema)
    (found : List Step × Schema) : Type 0 where
  pub steps : IsReferencePath protocols top found.0
  pub last : ℕ
  pub positions : end.0 ≡ positions_of found.0 ++ last ∷ []
  pub message : end.1 ≡ found.1

-- the list has exactly the paths of positions that lead to a message, each once, in rising order
pub record ListsMessages (protocols : List Declaration) (top : Declaration)
    (found : List (List Step × Schema)) : Type 0 where
  pub ends : List (List ℕ × Schema)
  pub each : AllZip (HasPositions protocols top) ends found
  pub exact : (positions : List ℕ) (m : Schema) →
      Contains ends (positions, m) ↔ LeadsTo protocols top positions m
  pub rising : AllPairs (λ e f. IsLexBelow e.0 f.0) ends
