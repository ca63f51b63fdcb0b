-- Which keys have been found.
use Rattle.std.proofs.Common.{◌≡◌, map, take}
use Rattle.std.specs.Prelude.{is_some}
use Rattle.std.specs.List.{filter}
use Rattle.protocol_names.specs.Names.{texts}
use Rattle.protocol_names.proofs.declared_names.key_names.Given as goal

-- the names of those so far that are marked
abbrev pub invariant-loop-formal : goal.invariant-loop-formal
invariant-loop-formal l = l.names ≡ texts (map (λ f. f.name) (filter (λ f. is_some f.key) (take l.formal-index l.public)))
