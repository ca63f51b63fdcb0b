-- Facts on paths and flat protocols, each the contract of a law.
use Rattle.std.specs.Prelude.{◌≡◌, ℕ, ◌≤◌, List, [], ◌∷◌, length, Some}
use Rattle.std.specs.Prelude.{reverse}
use Rattle.std.specs.List.{All}
use Rattle.bspl_parser.specs.declared.document.Declaration.{Declaration}
use Rattle.bspl_parser.specs.declared.document.Item.TheVariants.{Message, Reference}
use Rattle.bspl_parser.specs.declared.document.Reference.{Reference as SpecReference}
use Rattle.bspl_parser.specs.declared.document.Schema.{Schema}
use Rattle.protocol_names.specs.Names.{IsSameArity, protocol_of}
use Rattle.protocol_names.specs.Plain.{IsUnkeyed}
use Rattle.protocol_paths.specs.Composition.{param_composed, prefix_composed, role_composed}
use Rattle.protocol_paths.specs.Flat.{IsFlat}
use Rattle.protocol_paths.specs.Path.{Step, end_of, item_messages, message_paths, paths, steps_at}
use Rattle.protocol_paths.specs.Path.{private_words}
use Rattle.protocol_paths.specs.Position.{ListsMessages, ListsPaths}
use Rattle.protocol_paths.specs.ReferencePath.{HasNoCycle, IsWithinDepth}
use Rattle.protocol_paths.specs.Scope.{Scope, param_at, role_at, scope_at, start}

-- if no path closes, no path has more references than there are protocols
abbrev pub NoCycleBoundsDepth : Type 0
NoCycleBoundsDepth = (protocols : List Declaration) (p : Declaration) →
    HasNoCycle protocols p → IsWithinDepth protocols p (length protocols)

-- a bound that no path exceeds cuts off nothing: a longer bound gives the same lists
pub record LongerBoundsAddNothing : Type 0 where
  pub paths : (n m : ℕ) (protocols : List Declaration) (p : Declaration) →
      IsWithinDepth protocols p n → n ≤ m → paths m protocols p ≡ paths n protocols p
  pub messages : (n m : ℕ) (protocols : List Declaration) (p : Declaration) →
      IsWithinDepth protocols p n → n ≤ m →
      message_paths m protocols p ≡ message_paths n protocols p
  pub privates : (n m : ℕ) (protocols : List Declaration) (p : Declaration) →
      IsWithinDepth protocols p n → n ≤ m →
      private_words m protocols p ≡ private_words n protocols p

-- within a bound that no path exceeds, the messages listed are those at the ends of all paths
abbrev pub MessagePathsAreAll : Type 0
MessagePathsAreAll = (n : ℕ) (protocols : List Declaration) (top : Declaration) →
    IsWithinDepth protocols top n → ListsMessages protocols top (message_paths n protocols top)

-- within such a bound, the paths listed are all paths, by their positions: the private parameters
-- of a flat protocol are those of the protocols at their ends, path after path
abbrev pub PathsAreAll : Type 0
PathsAreAll = (n : ℕ) (protocols : List Declaration) (top : Declaration) →
    IsWithinDepth protocols top n → ListsPaths protocols top (paths n protocols top)

-- in the scope at the end of a path, a name is what the composed maps of its references give
pub record NamesAreComposed (top : Declaration) (outward : List Step) : Type 0 where
  pub prefixes : (scope_at (start top) (reverse outward)).prefix ≡ prefix_composed outward
  pub roles : (name result : List ℕ) → role_composed outward name ≡ Some result →
      role_at (scope_at (start top) (reverse outward)) name ≡ result
  pub params : (name result : List ℕ) → param_composed outward name ≡ Some result →
      param_at (scope_at (start top) (reverse outward)) name ≡ result

-- this holds of each path whose references give as many names as their targets declare
abbrev pub ScopesCompose : Type 0
ScopesCompose = (top : Declaration) (outward : List Step) →
    All (λ s. IsSameArity s.reference s.target) outward → NamesAreComposed top outward

-- a protocol of messages alone, without the word `key` in them, is its own flat protocol
abbrev pub PlainProtocolsAreFlat : Type 0
PlainProtocolsAreFlat = (protocols : List Declaration) (p : Declaration) →
    All IsUnkeyed p.body → IsFlat protocols p p

-- where a path ends, and what one item of a body leads to
pub record PathsByItems : Type 0 where
  pub ends : (scope : Scope) (path : List Step) →
      (scope_at scope path).protocol ≡ end_of scope.protocol path
  pub message : (n : ℕ) (protocols : List Declaration) (position : ℕ) (m : Schema) →
      item_messages n protocols (position, Message m) ≡ ([], m) ∷ []
  pub reference : (protocols : List Declaration) (k : ℕ) (r : SpecReference) (q : Declaration) →
      protocol_of protocols r.protocol.text ≡ Some q →
      steps_at protocols (k, Reference r) ≡ record { position = k; reference = r; target = q } ∷ []
