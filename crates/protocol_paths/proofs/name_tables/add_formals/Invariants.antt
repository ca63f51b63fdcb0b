-- What has been added.
use Rattle.std.proofs.Common.{◌≡◌, ◌++◌, map, take}
use Rattle.protocol_names.specs.Names.{texts}
use Rattle.protocol_paths.proofs.name_tables.add_formals.Given as goal

-- the names of the parameters so far
abbrev pub invariant-loop-formal : goal.invariant-loop-formal
invariant-loop-formal l = l.names ≡ l.fn.names ++ texts (map (λ f. f.name) (take l.formal-index l.formals))
