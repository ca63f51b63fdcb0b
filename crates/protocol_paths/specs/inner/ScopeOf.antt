-- What contracts see of a scope and of a context.
use Rattle.std.specs.Prelude.{◌≡◌, ℕ, List, Some}
use Rattle.bspl_parser.specs.declared.document.Declaration.{Declaration}
use Rattle.protocol_names.specs.Names.{protocol_of}
use Rattle.protocol_paths.specs.declared.context.Context.{Context}
use Rattle.protocol_paths.specs.declared.scope.Scope.{Scope}
use Rattle.protocol_paths.specs.Followed.{IsSkipped}
use Rattle.protocol_paths.specs.Scope.{Scope as SpecScope}
use Rattle.protocol_paths.specs.inner.Links.{scope_along}

-- the scope at the end of its links
abbrev pub scope_of : Scope → SpecScope
scope_of s = record (scope_along s.top.now s.links.now) { protocol = s.protocol.now }

-- the protocols of the document
abbrev pub protocols_of : Context → List Declaration
protocols_of context = context.table.now.protocols.now

-- the protocol of the name, if there is one, leads to no message and to no private parameter
abbrev pub SkipsName : Context → List ℕ → Type 0
SkipsName context name = (q : Declaration) → protocol_of (protocols_of context) name ≡ Some q →
    IsSkipped (protocols_of context) context.followed.now.messages.now q
    × IsSkipped (protocols_of context) context.followed.now.privates.now q
