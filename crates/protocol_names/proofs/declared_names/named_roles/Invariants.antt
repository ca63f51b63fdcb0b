-- What has been noted of the roles.
use Rattle.std.proofs.Common.{take}
use Rattle.protocol_names.specs.inner.DeclaredNames.{AreDeclared}
use Rattle.protocol_names.proofs.declared_names.named_roles.Given as goal

-- the names so far
abbrev pub invariant-loop-role : goal.invariant-loop-role
invariant-loop-role l = AreDeclared (take l.role-index l.roles) l.declared.names l.declared.first
