-- What has been noted of the parameters.
use Rattle.std.proofs.Common.{◌++◌, map, take}
use Rattle.protocol_names.specs.inner.DeclaredNames.{AreDeclared}
use Rattle.protocol_names.proofs.declared_names.named_params.Given as goal

-- the public names so far
abbrev pub invariant-loop-formal : goal.invariant-loop-formal
invariant-loop-formal l = AreDeclared (map (λ f. f.name) (take l.formal-index l.public)) l.declared.names l.declared.first

-- the public names, and the private ones so far
abbrev pub invariant-loop-word : goal.invariant-loop-word
invariant-loop-word l = AreDeclared (map (λ f. f.name) l.public ++ take l.word-index l.private) l.declared.names l.declared.first
