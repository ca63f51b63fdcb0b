-- What has been made.
use Rattle.std.proofs.Common.{take}
use Rattle.std.specs.List.{AllZip}
use Rattle.protocol_paths.specs.inner.Tables.{AreTablesOf}
use Rattle.protocol_paths.proofs.name_tables.tables_of.Given as goal

-- the tables of the protocols so far
abbrev pub invariant-loop-protocol : goal.invariant-loop-protocol
invariant-loop-protocol l = AllZip AreTablesOf (take l.protocol-index l.protocols) l.tables
