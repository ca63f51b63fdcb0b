-- Paths as lists of links.
use Rattle.std.specs.Prelude.{◌≡◌, ℕ, List, map, Some}
use Rattle.bspl_parser.specs.declared.document.Declaration.{Declaration}
use Rattle.bspl_parser.specs.declared.document.Reference.{Reference as SpecReference}
use Rattle.protocol_names.specs.Names.{protocol_of}
use Rattle.protocol_paths.specs.declared.link.Link.{Link}
use Rattle.protocol_paths.specs.declared.link.PathLink.{PathLink}
use Rattle.protocol_paths.specs.Path.{Step}
use Rattle.protocol_paths.specs.Scope.{Scope, scope_at, start}

-- the step of a link
abbrev pub step_of : Link → Step
step_of l = record {
  position = l.position;
  reference = l.reference.now;
  target = l.target.now;
}

-- the steps of the links
abbrev pub path_of : List PathLink → List Step
path_of links = map (λ l. step_of l.link) links

-- the scope at the end of the links from a top protocol
abbrev pub scope_along : Declaration → List PathLink → Scope
scope_along top links = scope_at (start top) (path_of links)

-- the link is that of the reference at the position, and leads to the first protocol of its name
pub record IsLinkBy (protocols : List Declaration) (position : ℕ) (r : SpecReference) (l : Link)
    : Type 0 where
  pub at : l.position ≡ position
  pub gives : l.reference.now ≡ r
  pub leads : protocol_of protocols r.protocol.text ≡ Some l.target.now
