-- The tables of one protocol more.
use Rattle.std.proofs.Common.{List, sym, subst, ◌++◌, ◌∷◌, [], ◌∙◌, ap, take}
use Rattle.std.specs.List.{AllZip}
use Rattle.std.proofs.lemmas.List.{take_more}
use Rattle.bspl_parser.specs.declared.document.Declaration.{Declaration}
use Rattle.list_base.proofs.Zipped.{zip_append}
use Rattle.protocol_paths.specs.declared.name_tables.NameTables.{NameTables}
use Rattle.protocol_paths.specs.inner.Tables.{AreTablesOf}
use Rattle.protocol_paths.proofs.name_tables.tables_of.Goals as goal

pub loop-protocol-preserved : goal.loop-protocol-preserved
loop-protocol-preserved c =
    let all = c.args.protocols.now in
    let i = c.loop-protocol.protocol-index in
    let p = c.protocol-item.result in
    let one = c.in_ok-add_tables.ensures in
    subst (λ (front : List Declaration). AllZip AreTablesOf front c.add_tables.new.tables) (sym (take_more all i p c.loop-protocol-test.true ∙ ap (λ (a : Declaration). take i all ++ a ∷ []) (sym c.protocol-item.is)))
    (subst (λ (tables : List NameTables). AllZip AreTablesOf (take i all ++ p ∷ []) tables) (sym one.parts) (zip_append AreTablesOf (take i all) c.loop-protocol.tables (p ∷ []) one.more c.loop-protocol.invariant one.each))
