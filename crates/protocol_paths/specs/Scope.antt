-- What a path makes of the names of the protocol at its end.
use Rattle.std.specs.Prelude.{ℕ, List, [], ◌++◌, map, slice_index_or}
use Rattle.std.specs.List.{fold, position}
use Rattle.std.specs.Option.{option_map_or}
use Rattle.std.specs.Str.{bytes_eq}
use Rattle.bspl_parser.specs.declared.document.Declaration.{Declaration}
use Rattle.protocol_names.specs.Names.{param_words, texts}
use Rattle.protocol_paths.specs.Path.{Step}
use Rattle.protocol_paths.specs.Prefix.{numbered_name}

-- the protocol at the end of a path, the prefix of its private names, and the names that are
-- substituted for its roles and parameters, in declared order
pub record Scope : Type 0 where
  pub protocol : Declaration
  pub prefix : List ℕ
  pub roles : List (List ℕ)
  pub params : List (List ℕ)

-- the name at the index of a declared name; another name stays as it is
abbrev pub substituted : List (List ℕ) → List (List ℕ) → List ℕ → List ℕ
substituted declared names name =
    option_map_or (λ k. slice_index_or names k name)
    (position (λ n. bytes_eq n name) declared) name

-- the name that is substituted for a role
abbrev pub role_at : Scope → List ℕ → List ℕ
role_at scope name = substituted (texts scope.protocol.roles) scope.roles name

-- the name that is substituted for a parameter
abbrev pub param_at : Scope → List ℕ → List ℕ
param_at scope name = substituted (texts (param_words scope.protocol)) scope.params name

-- in the top protocol each name stays as it is
abbrev pub start : Declaration → Scope
start top = record {
  protocol = top;
  prefix = [];
  roles = texts top.roles;
  params = texts (param_words top);
}

-- the prefix after one more reference
abbrev pub prefix_after : Scope → Step → List ℕ
prefix_after scope s = scope.prefix ++ numbered_name s.target.name.text s.position

-- after one more reference: what is substituted for the names that it gives, by position; private
-- parameters with the prefix
abbrev pub after : Scope → Step → Scope
after scope s = record {
  protocol = s.target;
  prefix = prefix_after scope s;
  roles = map (λ w. role_at scope w.text) s.reference.roles;
  params =
      map (λ f. param_at scope f.name.text) s.reference.params
      ++ map (λ w. prefix_after scope s ++ w.text) s.target.private;
}

-- after the references of a path
abbrev pub scope_at : Scope → List Step → Scope
scope_at scope path = fold after scope path
