-- The private parameters of the protocols on a path, under the prefixes of the path.
use Rattle.std.specs.Prelude.{◌≡◌, List, [], ◌∷◌, ◌++◌, map}
use Rattle.bspl_parser.specs.declared.document.Declaration.{Declaration}
use Rattle.bspl_parser.specs.declared.word.Word.{Word}
use Rattle.protocol_paths.specs.declared.link.PathLink.{PathLink}
use Rattle.protocol_paths.specs.Flat.{entry, privates_at}
use Rattle.protocol_paths.specs.Scope.{Scope}
use Rattle.protocol_paths.specs.inner.Links.{scope_along}

-- the words are the private parameters of the scope's protocol, their names with the prefix
abbrev pub AreOwnWords : Scope → List Word → Type 0
AreOwnWords scope own = map entry own ≡ privates_at scope

-- each link has those of the scope at its end
pub record HaveOwnWords (top : Declaration) (links : List PathLink) : Type 0 where
  pub each : (outer rest : List PathLink) (l : PathLink) → links ≡ outer ++ l ∷ rest →
      AreOwnWords (scope_along top (outer ++ l ∷ [])) l.own.now
