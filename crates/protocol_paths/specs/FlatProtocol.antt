-- A flat protocol as a declaration.
use Rattle.std.specs.Prelude.{map}
use Rattle.bspl_parser.specs.declared.document.Declaration.{Declaration}
use Rattle.bspl_parser.specs.declared.document.Item.TheVariants.{Message}
use Rattle.protocol_paths.specs.declared.flat_protocol.FlatProtocol.{FlatProtocol}

-- the declaration of a protocol of messages alone: they are its body
abbrev pub as_declaration : FlatProtocol → Declaration
as_declaration p = record {
  name = p.name;
  roles = p.roles;
  public = p.public;
  private = p.private;
  body = map Message p.messages;
}
