-- What the references of a path make of a name: the composition of their maps. Each maps the names
-- that its target declares to those that it gives, by position. A path is listed from its end here.
use Rattle.std.specs.Prelude.{ℕ, List, [], ◌∷◌, ◌++◌, map, slice_get, Option, Some}
use Rattle.std.specs.List.{position}
use Rattle.std.specs.Option.{option_and_then, option_map, option_map_or}
use Rattle.std.specs.Str.{bytes_eq}
use Rattle.protocol_names.specs.Names.{texts}
use Rattle.protocol_paths.specs.Path.{Step}
use Rattle.protocol_paths.specs.Prefix.{numbered_name}

-- the given name at the index of a declared one
abbrev pub given_for : List (List ℕ) → List (List ℕ) → List ℕ → Option (List ℕ)
given_for declared given name =
    option_and_then (slice_get given) (position (λ n. bytes_eq n name) declared)

-- the map of one reference on the roles of its target
abbrev pub role_given : Step → List ℕ → Option (List ℕ)
role_given s = given_for (texts s.target.roles) (texts s.reference.roles)

-- the map of one reference on the public parameters of its target
abbrev pub param_given : Step → List ℕ → Option (List ℕ)
param_given s =
    given_for (texts (map (λ f. f.name) s.target.public))
    (texts (map (λ f. f.name) s.reference.params))

-- a role through the references of a path
abbrev pub role_composed : List Step → List ℕ → Option (List ℕ)
role_composed [] name = Some name
role_composed (s ∷ outer) name = option_and_then (role_composed outer) (role_given s name)

-- NAME#POSITION. of each reference, from the first to the last
abbrev pub prefix_composed : List Step → List ℕ
prefix_composed [] = []
prefix_composed (s ∷ outer) = prefix_composed outer ++ numbered_name s.target.name.text s.position

-- a private parameter of the target of the first step listed, under the prefix of the path
abbrev pub private_composed : Step → List Step → List ℕ → Option (List ℕ)
private_composed s outer name =
    option_map (λ k. prefix_composed (s ∷ outer) ++ name)
    (position (λ n. bytes_eq n name) (texts s.target.private))

-- a parameter through the references of a path: a public one as it is given, a private one prefixed
abbrev pub param_composed : List Step → List ℕ → Option (List ℕ)
param_composed [] name = Some name
param_composed (s ∷ outer) name =
    option_map_or (param_composed outer) (param_given s name) (private_composed s outer name)
