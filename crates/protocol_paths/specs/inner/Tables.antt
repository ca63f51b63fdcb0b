-- The tables of the names that protocols declare.
use Rattle.std.specs.Prelude.{◌≡◌, ℕ, List, length, slice_get, Some}
use Rattle.bspl_parser.specs.declared.document.Declaration.{Declaration}
use Rattle.protocol_names.specs.Names.{param_words, texts}
use Rattle.protocol_paths.specs.declared.name_tables.NameTables.{NameTables}

-- a protocol's roles, and its parameters with the public ones first
pub record AreTablesOf (p : Declaration) (tables : NameTables) : Type 0 where
  pub roles : tables.roles ≡ texts p.roles
  pub params : tables.params ≡ texts (param_words p)

-- each protocol has its tables at its number
pub record HaveTables (protocols : List Declaration) (tables : List NameTables) : Type 0 where
  pub count : length tables ≡ length protocols
  pub each : (number : ℕ) (p : Declaration) (t : NameTables) → slice_get protocols number ≡ Some p →
      slice_get tables number ≡ Some t → AreTablesOf p t
