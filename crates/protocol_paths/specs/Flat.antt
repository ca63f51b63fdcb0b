-- The flat protocol of a protocol: each reference replaced by what it leads to.
use Rattle.std.specs.Prelude.{◌≡◌, ℕ, List, ◌++◌, length, map, None}
use Rattle.std.specs.List.{AllZip, flat_map}
use Rattle.bspl_parser.specs.declared.document.Declaration.{Declaration}
use Rattle.bspl_parser.specs.declared.document.Formal.{Formal}
use Rattle.bspl_parser.specs.declared.document.Item.{Item}
use Rattle.bspl_parser.specs.declared.document.Item.TheVariants.{Message, Reference}
use Rattle.bspl_parser.specs.declared.document.Schema.{Schema}
use Rattle.bspl_parser.specs.declared.word.Word.{Word}
use Rattle.protocol_paths.specs.Path.{Step, message_paths, paths}
use Rattle.protocol_paths.specs.Scope.{Scope, param_at, scope_at, role_at, start}
use Rattle.protocol_paths.specs.Substituted.{IsSubstituted}

-- a parameter of a message, under the name that is substituted for its own, without `key`
pub record IsImageFormal (scope : Scope) (f f' : Formal) : Type 0 where
  pub name : IsSubstituted (param_at scope f.name.text) f.name f'.name
  pub adorn : f'.adorn ≡ f.adorn
  pub offset : f'.offset ≡ f.offset
  pub bare : f'.key ≡ None

-- a message of the scope's protocol: its name with the prefix, its roles and parameters substituted
pub record IsImage (scope : Scope) (m m' : Schema) : Type 0 where
  pub named : IsSubstituted (scope.prefix ++ m.name.text) m.name m'.name
  pub sent : IsSubstituted (role_at scope m.sender.text) m.sender m'.sender
  pub received : IsSubstituted (role_at scope m.receiver.text) m.receiver m'.receiver
  pub carries : AllZip (IsImageFormal scope) m.params m'.params

-- the message at the end of a path from the scope; a reference is no message
abbrev pub IsImageItem : Scope → List Step × Schema → Item → Type 0
IsImageItem scope (path, m) (Message m') = IsImage (scope_at scope path) m m'
IsImageItem scope (path, m) (Reference r) = ⊥

-- the name and the offset of a word
abbrev pub entry : Word → List ℕ × ℕ
entry w = (w.text, w.offset)

-- the private parameters of the scope's protocol, their names with the prefix
abbrev pub privates_at : Scope → List (List ℕ × ℕ)
privates_at scope = map (λ w. (scope.prefix ++ w.text, w.offset)) scope.protocol.private

-- those at the ends of the paths of at most `n` references from the scope
abbrev pub private_entries : ℕ → List Declaration → Scope → List (List ℕ × ℕ)
private_entries n protocols scope =
    flat_map (λ path. privates_at (scope_at scope path)) (paths n protocols scope.protocol)

-- the top protocol with what is at the ends of its paths of at most `n` references
pub record IsFlatTo (n : ℕ) (protocols : List Declaration) (top p : Declaration) : Type 0 where
  pub name : p.name ≡ top.name
  pub roles : p.roles ≡ top.roles
  pub public : p.public ≡ top.public
  pub private : map entry p.private ≡ private_entries n protocols (start top)
  pub body : AllZip (IsImageItem (start top)) (message_paths n protocols top) p.body

-- where no path closes, a path has at most as many references as there are protocols
abbrev pub IsFlat : List Declaration → Declaration → Declaration → Type 0
IsFlat protocols top p = IsFlatTo (length protocols) protocols top p
